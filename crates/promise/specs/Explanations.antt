-- Why a frame would not arrive (02, b)), said of any way to explain it.
use Rattle.std.specs.Prelude.{◌≡◌, Bool, true, ◌&&◌, ◌||◌, List, [], ℕ, ◌<◌, eqb, ltb, length, get_or, replicate, Option, Some, None, Ok}
use Rattle.base.specs.Bit.{bit, byte, is_set}
use Rattle.base.specs.Pick.{among}
use Rattle.frame.specs.declared.Header.{Header}
use Rattle.chip.specs.declared.Device.{Device}
use Rattle.receive.specs.declared.Arrival.TheVariants.{A4}
use Rattle.events.specs.declared.Event.TheVariants.{GoodFrame}
use Rattle.why.specs.declared.Place.{Place}
use Rattle.why.specs.declared.Why.{Why}
use Rattle.promise.specs.Commands.{one_of}
use Rattle.promise.specs.Filters.{compared, counted}
use Rattle.promise.specs.Sequence.{wire, answered, Machine}
use Rattle.promise.specs.Settings.{patterns}

-- of a device, the header of a frame, whether another node acknowledged it, how many data bytes it has, and the
-- payload that they stand in. No device is given back: "the device is not changed".
abbrev pub Explainer : Type 0
Explainer = Device → Header → Bool → ℕ → List ℕ → Why

-- "The reason is proved to be the device's": in every device it is what the event would be answered.
abbrev pub TheDevices : Machine → Explainer → Type 0
TheDevices step explain = (d : Device) (h : Header) (acknowledged : Bool) (count : ℕ) (payload : List ℕ)
    → answered (explain d h acknowledged count payload).answer
    ≡ (step d (wire (GoodFrame h acknowledged count) payload)).given

-- ---- the places

-- whether 4b names bit i of byte b
abbrev pub named : ℕ → ℕ → Bool
named b i = one_of i (among b counted [])

-- a bit counts where it is named and the mask has a 1
abbrev pub counts_at : List ℕ → ℕ → ℕ → Bool
counts_at mask b i = named b i && is_set i (byte mask b)

-- "bytes from the first, bits from 7 down"
abbrev pub before : ℕ → ℕ → Place → Bool
before b i p = ltb b p.byte || (eqb b p.byte && ltb p.bit i)

-- "the first counted bit that differs": it counts, filter and frame differ there, and they agree at every counted bit
-- before it
pub record IsFirst (frame filter mask : List ℕ) (p : Place) : Type 0 where
  pub counts : counts_at mask p.byte p.bit ≡ true
  pub wanted : p.wanted ≡ bit p.bit (byte filter p.byte)
  pub came : p.came ≡ bit p.bit (byte frame p.byte)
  pub differ : p.wanted ≡ p.came → ⊥
  pub first : (b i : ℕ) → before b i p ≡ true → counts_at mask b i ≡ true → bit i (byte frame b) ≡ bit i (byte filter b)

-- under A4 each filter has one, "by rising filter"
abbrev pub EachHasOne : Device → Header → List ℕ → List (Option Place) → Type 0
EachHasOne d h payload ps =
    (length ps ≡ 8)
    × ((k : ℕ) → k < 8 → (p : Place) × (get_or ps k None ≡ Some p)
    × IsFirst (compared h payload) (get_or (patterns d.filters) k []) (get_or (patterns d.masks) k []) p)

-- In every device, for A4, and only then, the places of the eight filters.
abbrev pub Pointed : Explainer → Type 0
Pointed explain = (d : Device) (h : Header) (acknowledged : Bool) (count : ℕ) (payload : List ℕ)
    → let w = explain d h acknowledged count payload in
    (w.answer ≡ Ok (Some A4) → EachHasOne d h payload w.places)
    × ((w.answer ≡ Ok (Some A4) → ⊥) → w.places ≡ replicate 8 None)
