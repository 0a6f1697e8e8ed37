-- Every step keeps a proper device proper, so no device reached from a fresh one is given 1. Assumes nothing.
use mathlib.Core.Path.{◌≡◌, refl}
use mathlib.Core.Bool.{true, not, false≢true}
use mathlib.Core.List.{List}
use native.Mathlib.Omega.{arith}
use Rattle.chip.specs.declared.Device.{Device}
use Rattle.chip.specs.State.{fresh, mode_of}
use Rattle.chip.specs.Proper.{proper}
use Rattle.promise.specs.Promises.{OneIsNeverGiven}
use Rattle.promise.specs.Sequence.{Input, spi, wire, shipped as step, run}
use Rattle.promise.specs.Numbers.{situation, applies}
use Rattle.promise.proofs.Answered.{exactly}
use Rattle.promise.proofs.Steps.{keeps, by_transfer, by_event}
use Rattle.promise.proofs.Ranges.{InRange, ranges_proper, proper_same, empty_fits}
use Rattle.promise.proofs.CommandsFit.{does_in}
use Rattle.promise.proofs.EventsFit.{event_in}

pub stays : (d : Device) (i : Input) → InRange d → InRange (step d i).device
stays d (spi bytes buffer) h =
    by_transfer (λ s. InRange s.device) d bytes buffer (λ refusal e. h) (λ r e at. does_in d h r.verb r.index bytes)
stays d (wire e payload) h =
    by_event (λ s. InRange s.device) d e payload (λ refusal. h) (λ can left. event_in d h e payload can)

pub fresh_in : InRange fresh
unfolding fresh mode_of
fresh_in = (empty_fits, empty_fits, empty_fits, refl, refl, refl, refl, refl)

pub reached_in : (is : List Input) → InRange (run step fresh is)
reached_in is = keeps (λ (u : Unit {0}) i given. u) (λ d u. InRange d) (λ d u i h. stays d i h) fresh tt is fresh_in

pub reached : (is : List Input) → proper (run step fresh is) ≡ true
reached is = ranges_proper (run step fresh is) (reached_in is)

one_applies : (d : Device) (i : Input) → applies (situation d) i 1 ≡ not (proper d)
one_applies d (spi bytes buffer) = rw (proper_same d)
one_applies d (wire e payload) = rw (proper_same d)

pub never_one : OneIsNeverGiven
never_one is i one =
    false≢true (rw (one_applies (run step fresh is) i, reached is) at ((exactly (run step fresh is) i 1 (omega arith) (omega arith)).0 one).0)
