-- Why a frame would not arrive (02, b)): "Given a device and a good frame, the tool prints Queued or the reason …, and
-- for A4, by rising filter, the byte and bit of the first counted bit that differs". The device is no result.
use Rattle.std.specs.Prelude.{Bool, true, false, List, [], ℕ, ◌+◌, ◌-◌, ◌/◌, ◌%◌, get_or, replicate, Option, Some, None, option_map, Ok, Err}
use Rattle.base.specs.Pick.{pick}
use Rattle.base.specs.Tabulate.{tabulate}
use Rattle.frame.specs.declared.Header.{Header}
use Rattle.frame.specs.Tables.{compared}
use Rattle.filter.specs.Match.{bit_at_place}
use Rattle.filter.specs.First.{first_difference}
use Rattle.chip.specs.declared.Device.{Device}
use Rattle.chip.specs.State.{bank}
use Rattle.receive.specs.declared.Arrival.{Arrival}
use Rattle.receive.specs.declared.Arrival.TheVariants.{Queued, QueuedOver, A1, A2, A3, A4}
use Rattle.events.specs.declared.Event.TheVariants.{GoodFrame}
use Rattle.bus.specs.Event.{Answer, answer}
use Rattle.why.specs.declared.Place.{Place}
use Rattle.why.specs.declared.Why.{Why}

-- place k of the 48, "bytes from the first, bits from 7 down", with what filter and frame have there
abbrev pub at_place : List ℕ → List ℕ → ℕ → Place
at_place vector filter k =
    record { byte = k / 8 + 1; bit = 7 - k % 8; wanted = bit_at_place filter k; came = bit_at_place vector k }

-- "the first counted bit that differs", if one does
unfoldable pub first_place : List ℕ → List ℕ → List ℕ → Option Place
first_place vector filter mask = option_map (at_place vector filter) (first_difference vector filter mask)

-- "by rising filter"
abbrev pub place_in : List (List ℕ) → List (List ℕ) → List ℕ → ℕ → Option Place
place_in filters masks vector k = first_place vector (get_or filters k []) (get_or masks k [])

unfoldable pub places : Device → Header → List ℕ → List (Option Place)
places d h bytes = tabulate (place_in (bank d.filters) (bank d.masks) (compared h bytes)) 0 8

unfoldable pub is_a4 : Arrival → Bool
is_a4 Queued = false
is_a4 (QueuedOver id extended) = false
is_a4 A1 = false
is_a4 A2 = false
is_a4 A3 = false
is_a4 A4 = true

unfoldable pub no_filter : Answer → Bool
no_filter (Err refused) = false
no_filter (Ok None) = false
no_filter (Ok (Some what)) = is_a4 what

-- "The reason is proved to be the device's": it is `bus::event`'s own answer
unfoldable pub explained : Device → Header → Bool → ℕ → List ℕ → Why
explained d h acknowledged given bytes =
    let told = answer d (GoodFrame h acknowledged given) bytes in
    record { answer = told; places = pick (no_filter told) (places d h bytes) (replicate 8 None) }
