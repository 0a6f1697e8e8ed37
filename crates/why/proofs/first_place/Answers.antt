-- `why::first_place` meets its contract: the place is one of the 48.
use Rattle.std.proofs.Common.{◌≡◌, refl, ℕ, ◌<◌, Bool, true, false, List, sym, arith}
use Rattle.std.specs.Prelude.{Some, None, ltb}
use borrow.Author.Tests.{ltb-true}
use Rattle.base.specs.Pick.{pick}
use Rattle.filter.specs.First.{first_difference}
use Rattle.why.proofs.first_place.Goals as goal

found : (t : Bool) (n p : ℕ) → pick t (Some n) None ≡ Some p → (t ≡ true) × (n ≡ p)
found true n p e = (refl, cc)
found false n p e = cc

only_below : (n m p : ℕ) → pick (ltb n m) (Some n) None ≡ Some p → p < m
only_below n m p e = let is = found (ltb n m) n p e in rw (← is.1) (ltb-true n m is.0)

below : (vector filter mask : List ℕ) (p : ℕ) → first_difference vector filter mask ≡ Some p → p < 48
unfolding first_difference
below vector filter mask p e = only_below _ 48 p e

pub overflow_cast-result : goal.overflow_cast-result
overflow_cast-result c = omega (arith, below _ _ _ _ (sym c.in_ok-place.ensures))
