-- The question which filters match: by its number in every device, and by the settings in one that keeps to the
-- records. Assumes nothing.
use mathlib.Core.Path.{◌≡◌, refl, ◌∙◌}
use mathlib.Core.Bool.{Bool, true, false, not}
use Prim.Native.Nat.{ℕ}
use Rattle.base.specs.Pick.{pick}
use Rattle.base.proofs.Booleans.{and_left}
use Rattle.frame.specs.Length.{possible, data_fits}
use Rattle.chip.specs.declared.Device.{Device}
use Rattle.receive.specs.Receive.{matching}
use Rattle.judged.specs.Judged.{impossible_frame}
use Rattle.std.specs.Prelude.{Result, Ok, Err}
use Rattle.refusal.specs.declared.Refusal.{Refusal}
use Rattle.refusal.specs.declared.Refusal.TheVariants.{Impossible}
use Rattle.bus.specs.Hits.{hits}
use Rattle.promise.specs.Arrivals.{matching as matching_by}
use Rattle.promise.specs.Frames.{can_arrive}
use Rattle.promise.specs.Promises.{EveryQuestionIsAnswered}
use Rattle.promise.specs.Questions.{Told}
use Rattle.promise.specs.Records.{Records}
use Rattle.promise.proofs.Arrivals.{matching_same}
use Rattle.promise.proofs.Kept.{Kept}
use Rattle.promise.proofs.Ranges.{InRange, ranges_proper, proper_same}
use Rattle.promise.proofs.Shown.{arrives_same}

-- what the door's rule gives, by whether the frame can be
unless_not : (can : Bool) (given refused : Result ℕ Refusal) → pick (not can) refused given ≡ pick can given refused
unless_not true given refused = refl
unless_not false given refused = refl

pub answered : EveryQuestionIsAnswered
unfolding hits impossible_frame
answered d h count payload = (
  matching d h payload,
  rw (proper_same d, arrives_same h count, unless_not (can_arrive h count) (Ok (matching d h payload)) (Err Impossible)),
)

module _ (d : Device) (r : Records) (range : InRange d) (k : Kept d r) where
  -- of a frame that can be, the sets are the same
  by_frame : (can : Bool) (set due : ℕ) → (can ≡ true → set ≡ due)
      → pick (not can) (Err Impossible) (Ok set) ≡ pick can (Ok due) (Err Impossible)
  by_frame true set due same = rw (same refl)
  by_frame false set due same = refl

  pub told_kept : Told hits d r
  unfolding hits impossible_frame
  told_kept h count payload =
      rw (ranges_proper d range, arrives_same h count)
      (by_frame (can_arrive h count) (matching d h payload) (matching_by r.settings h payload)
      (λ can. matching_same d r k h payload (and_left (possible h) (data_fits h count) (arrives_same h count ∙ can))))
