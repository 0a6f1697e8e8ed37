-- What holds of a choice. Assumes nothing.
use mathlib.Core.Path.{◌≡◌, refl}
use mathlib.Core.Bool.{Bool, true, false}
use Rattle.base.specs.Pick.{pick}
pub use Rattle.base.proofs.Booleans.{pick_keeps, pick_under}

-- a part of a choice is the choice of the parts
pub pick_part : {A B : Type 0} (part : A → B) (t : Bool) (x y : A) → part (pick t x y) ≡ pick t (part x) (part y)
pick_part part true x y = refl
pick_part part false x y = refl

-- what holds of both sides of two like choices holds of the two
pub pick_both : {A B : Type 0} (P : A → B → Type 0) (t : Bool) (x y : A) (u v : B) → P x u → P y v → P (pick t x y) (pick t u v)
pick_both P true x y u v p q = p
pick_both P false x y u v p q = q
