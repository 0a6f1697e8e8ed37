-- The question which filters match a frame (02, c)), said of any way to ask it of a device.
use Rattle.std.specs.Prelude.{◌≡◌, List, ℕ, Result, Ok, Err}
use Rattle.base.specs.Pick.{pick}
use Rattle.frame.specs.declared.Header.{Header}
use Rattle.chip.specs.declared.Device.{Device}
use Rattle.refusal.specs.declared.Refusal.{Refusal}
use Rattle.refusal.specs.declared.Refusal.TheVariants.{OutOfRange, Impossible}
use Rattle.promise.specs.Arrivals.{matching}
use Rattle.promise.specs.Frames.{can_arrive}
use Rattle.promise.specs.Ranges.{device_in_range}
use Rattle.promise.specs.Records.{Records}

-- of a device, the header of a frame, how many data bytes it has, and the payload that they stand in
abbrev pub Question : Type 0
Question = Device → Header → ℕ → List ℕ → Result ℕ Refusal

-- 8 for a frame that can't be, as a good frame of the bus is given it
abbrev pub unless_impossible : Header → ℕ → ℕ → Result ℕ Refusal
unless_impossible h count set = pick (can_arrive h count) (Ok set) (Err Impossible)

-- In every device it is answered: 1, as a transfer and an event are, else 8, else a set.
abbrev pub InEveryDevice : Question → Type 0
InEveryDevice ask = (d : Device) (h : Header) (count : ℕ) (payload : List ℕ)
    → (set : ℕ) × (ask d h count payload ≡ pick (device_in_range d) (unless_impossible h count set) (Err OutOfRange))

-- The set is that of the filters and masks as they were written, whether FILTON is on or not.
abbrev pub Told : Question → Device → Records → Type 0
Told ask d r = (h : Header) (count : ℕ) (payload : List ℕ)
    → ask d h count payload ≡ unless_impossible h count (matching r.settings h payload)
