-- Devices that number arrivals otherwise than 02 g) says, and ways to ask for the numbers that the promises rule out.
use Rattle.std.specs.Prelude.{Bool, ◌&&◌, List, [], ◌∷◌, map, ℕ, ◌+◌, ◌-◌, ◌^◌, eqb, ltb, get_or, set, replicate, Result, Ok, Err}
use Rattle.base.specs.Bit.{byte, is_set}
use Rattle.base.specs.Pick.{pick}
use Rattle.fifo.specs.Queue.{place, latest_place}
use Rattle.chip.specs.declared.Device.{Device}
use Rattle.chip.specs.declared.Serials.{Serials}
use Rattle.chip.specs.Parts.{with_serials, with_last}
use Rattle.transmit.specs.Transmit.{stopped}
use Rattle.refusal.specs.declared.Refusal.{Refusal}
use Rattle.refusal.specs.declared.Refusal.TheVariants.{NoNumberLeft}
use Rattle.bus.specs.declared.types.Numbers.{Numbers}
use Rattle.bus.specs.Numbers.{numbers}
use Rattle.promise.specs.Sequence.{answered, Step, Machine, shipped, number, values, fate}
use Rattle.promise.specs.Commands.{one_of}
use Rattle.promise.specs.Hits.{eight}
use Rattle.promise.specs.Numbers.{none_behind}
use Rattle.promise.specs.Numbering.{reads_one, gives_one, Lister}
use Rattle.promise.specs.Wrong.{but, but_transfers, but_events, with_device, with_queue, reset_done}

-- ---- the count

abbrev pub with_numbers : Step → Serials → Step
with_numbers s v = with_device s (with_serials s.device v)

-- a host's reset that restarts it
abbrev pub count_restarts : Machine
count_restarts = but_transfers (λ d bytes s. pick (reset_done bytes s) (with_numbers s (with_last s.device.serials 0)) s)

-- in what a frame that is told so makes of the numbers before it and after it
abbrev pub numbering : ℕ → (Serials → Serials → Serials) → Machine
numbering told change =
    but_events (λ d i s.
    pick (eqb (fate (values s.given)) told) (with_numbers s (change d.serials s.device.serials)) s)

-- a number for a frame that is answered A3
abbrev pub numbers_unheard : Machine
numbers_unheard = numbering 3 (λ before after. with_last after (before.last + 1))

-- none for one that no filter matches
abbrev pub strangers_unnumbered : Machine
strangers_unnumbered = numbering 4 (λ before after. before)

-- ---- the numbers

-- the overwritten message's, kept by the one that took its place
abbrev pub keeps_number : Machine
keeps_number = numbering 6 (λ before after. record { last = after.last; temp = after.temp; places = before.places })

-- one for two frames: every second that is queued gets that of the one before it
abbrev pub numbers_twice : Machine
numbers_twice =
    but_events (λ d i s.
    let n = d.serials.last in
    pick (eqb (fate (values s.given)) 0 && is_set 0 n)
    (with_numbers s (record { last = n; temp = n; places = set s.device.serials.places (latest_place s.device.rx) n }))
    s)

-- the temporary buffer's, by what a command makes of the numbers before it and after it
abbrev pub commanding : (List ℕ → Step → Bool) → (Serials → Serials → ℕ) → Machine
commanding which temp =
    but_transfers (λ d bytes s.
    let after = s.device.serials in
    pick (which bytes s)
    (with_numbers s (record { last = after.last; temp = temp d.serials after; places = after.places }))
    s)

-- kept over a host's reset, which clears the buffer
abbrev pub temp_kept : Machine
temp_kept = commanding reset_done (λ before after. before.temp)

-- and cleared with the queue, by 0x5A, which leaves the buffer
abbrev pub temp_cleared : Machine
temp_cleared = commanding (λ bytes s. eqb (byte bytes 1) 0x5A) (λ before after. 0)

-- a read that takes the latest
abbrev pub takes_latest : Machine
takes_latest =
    but (λ d i s.
    pick (reads_one i s.given)
    (with_queue s (record { items = d.rx.items; first = d.rx.first; count = d.rx.count - 1 }))
    s)

-- ---- 12

abbrev pub twelve : Device → Step
twelve d = record { device = d; given = answered (Err NoNumberLeft) }

-- one too early
abbrev pub twelve_early : Machine
twelve_early = but (λ d i s. pick (eqb d.serials.last (2 ^ 64 - 2) && gives_one s.given) (twelve d) s)

-- before 8
abbrev pub twelve_first : Machine
twelve_first = but (λ d i s. pick (none_behind d.serials.last && eqb (number s.given) 8) (twelve d) s)

-- for a frame, too, that is answered A1 to A3
abbrev pub twelve_for_all : Machine
twelve_for_all =
    but (λ d i s.
    pick (none_behind d.serials.last && one_of (fate (values s.given)) (1 ∷ 2 ∷ 3 ∷ [])) (twelve d) s)

-- never: behind the last number comes the first
abbrev pub wraps_around : Machine
wraps_around =
    but (λ d i s. pick (eqb (number s.given) 12) (shipped (with_serials d (with_last d.serials 0)) i) s)

-- with the message stopped, whose completion it refuses
abbrev pub twelve_stops : Machine
twelve_stops = but (λ d i s. pick (eqb (number s.given) 12) (with_device s (stopped s.device)) s)

-- ---- the question

-- what is told, told otherwise
abbrev pub retold : (Numbers → Numbers) → Result Numbers Refusal → Result Numbers Refusal
retold tell (Ok told) = Ok (tell told)
retold tell (Err refused) = Err refused

-- the next for the last
abbrev pub tells_next : Lister
tells_next d =
    retold
    (λ told. record { last = told.last + 1; temp = told.temp; count = told.count; waiting = told.waiting })
    (numbers d)

-- those that wait told otherwise
abbrev pub listing : (Device → Numbers → ℕ → ℕ) → Lister
listing another d =
    retold
    (λ told. record { last = told.last; temp = told.temp; count = told.count; waiting = map (another d told) eight })
    (numbers d)

-- the newest first
abbrev pub newest_first : Lister
newest_first = listing (λ d told k. pick (ltb k told.count) (get_or told.waiting (told.count - 1 - k) 0) 0)

-- as they stand in the FIFO's places
abbrev pub as_placed : Lister
as_placed = listing (λ d told k. get_or d.serials.places k 0)

-- those of messages, too, that were read
abbrev pub read_ones_too : Lister
read_ones_too = listing (λ d told k. get_or d.serials.places (place d.rx k) 0)

-- 0 for a device that is out of range
abbrev pub never_refused : Result Numbers Refusal → Result Numbers Refusal
never_refused (Ok told) = Ok told
never_refused (Err refused) = Ok (record { last = 0; temp = 0; count = 0; waiting = replicate 8 0 })

abbrev pub of_any_device : Lister
of_any_device d = never_refused (numbers d)
