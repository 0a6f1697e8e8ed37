-- Ways to explain why a frame would not arrive that the promises rule out.
use Rattle.std.specs.Prelude.{Bool, not, ◌&&◌, List, [], ◌∷◌, ◌++◌, map, ℕ, eqb, get_or, replicate, Option, Some, None, Ok}
use Rattle.base.specs.Bit.{bit, byte, is_set}
use Rattle.base.specs.Pick.{pick}
use Rattle.frame.specs.declared.Header.{Header}
use Rattle.chip.specs.declared.Device.{Device}
use Rattle.bus.specs.Event.{Answer}
use Rattle.events.specs.declared.Event.TheVariants.{GoodFrame}
use Rattle.why.specs.declared.Place.{Place}
use Rattle.why.specs.Why.{no_filter, explained}
use Rattle.promise.specs.Explanations.{Explainer, named, counts_at}
use Rattle.promise.specs.Filters.{compared, eight_bits}
use Rattle.promise.specs.Hits.{eight}
use Rattle.promise.specs.Sequence.{Given, replied, answered, wire}
use Rattle.promise.specs.Settings.{patterns}
use Rattle.promise.specs.Wrong.{room_first}

-- ---- another reason

-- what an event is answered; only a transfer is replied to
abbrev pub said : Given → Answer
said (replied a buffer) = Ok None
said (answered a) = a

-- that of a device which asks for room before the filters
abbrev pub room_first_reason : Explainer
room_first_reason d h acknowledged count payload = record {
  answer = said (room_first d (wire (GoodFrame h acknowledged count) payload)).given;
  places = (explained d h acknowledged count payload).places;
}

-- ---- other places

-- which bits of frame, filter and mask may be named
abbrev pub Asks : Type 0
Asks = List ℕ → List ℕ → List ℕ → ℕ → ℕ → Bool

abbrev pub differ : List ℕ → List ℕ → ℕ → ℕ → Bool
differ frame filter b i = not (eqb (bit i (byte frame b)) (bit i (byte filter b)))

abbrev pub bits_of : List ℕ → List ℕ → List (ℕ × ℕ)
bits_of [] bits = []
bits_of (b ∷ bs) bits = map (λ i. (b, i)) bits ++ bits_of bs bits

-- in this order, the first of which it says yes
abbrev pub first_among : Asks → List (ℕ × ℕ) → List ℕ → List ℕ → List ℕ → Option Place
first_among asks [] frame filter mask = None
first_among asks ((b, i) ∷ ps) frame filter mask =
    pick (asks frame filter mask b i)
    (Some (record { byte = b; bit = i; wanted = bit i (byte filter b); came = bit i (byte frame b) }))
    (first_among asks ps frame filter mask)

abbrev pub found : Asks → List (ℕ × ℕ) → Device → Header → List ℕ → List (Option Place)
found asks order d h payload =
    map
    (λ k. first_among asks order (compared h payload) (get_or (patterns d.filters) k []) (get_or (patterns d.masks) k []))
    eight

-- names these places under A4
abbrev pub pointing : Asks → List (ℕ × ℕ) → Explainer
pointing asks order d h acknowledged count payload =
    let w = explained d h acknowledged count payload in
    record { answer = w.answer; places = pick (no_filter w.answer) (found asks order d h payload) w.places }

abbrev pub in_order : List (ℕ × ℕ)
in_order = bits_of (1 ∷ 2 ∷ 3 ∷ 4 ∷ 5 ∷ 6 ∷ []) eight_bits

abbrev pub counted_differs : Asks
counted_differs frame filter mask b i = counts_at mask b i && differ frame filter b i

-- the last bit that differs, and not the first
abbrev pub later_bit : Explainer
later_bit = pointing counted_differs (bits_of (6 ∷ 5 ∷ 4 ∷ 3 ∷ 2 ∷ 1 ∷ []) eight)

-- bits from 0 up
abbrev pub from_zero_up : Explainer
from_zero_up = pointing counted_differs (bits_of (1 ∷ 2 ∷ 3 ∷ 4 ∷ 5 ∷ 6 ∷ []) eight)

-- a bit that the mask leaves out
abbrev pub mask_ignored : Explainer
mask_ignored = pointing (λ frame filter mask b i. named b i && differ frame filter b i) in_order

-- bit 0 of byte 4, which 4b doesn't name
abbrev pub unnamed_counts : Explainer
unnamed_counts = pointing (λ frame filter mask b i. is_set i (byte mask b) && differ frame filter b i) in_order

-- no place at all
abbrev pub says_nothing : Explainer
says_nothing d h acknowledged count payload = record {
  answer = (explained d h acknowledged count payload).answer;
  places = replicate 8 None;
}

-- places for a frame that is queued, too
abbrev pub blames_always : Explainer
blames_always d h acknowledged count payload = record {
  answer = (explained d h acknowledged count payload).answer;
  places = found counted_differs in_order d h payload;
}
