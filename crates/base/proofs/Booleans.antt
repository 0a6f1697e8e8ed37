-- Laws on conjunctions, on choices and on flags as bits. Assumes nothing.
use mathlib.Core.Path.{◌≡◌, refl}
use mathlib.Core.Bool.{Bool, true, false}
use Prim.Native.Nat.{ℕ, ◌≤◌}
use native.Mathlib.Omega.{arith}
use borrow.Author.Tests.{eq-eqb, ne_eqb}
use lib.Dec.{eqb}
use Rattle.base.specs.Pick.{pick, flag}
pub use mathlib.Mathlib.Data.Bool.Basic.{and_elim_left as and_left, and_elim_right as and_right}

-- what holds of both sides of a choice holds of it
pub pick_keeps : {A : Type 0} (P : A → Type 0) (t : Bool) (x y : A) → P x → P y → P (pick t x y)
pick_keeps P true x y p q = p
pick_keeps P false x y p q = q

-- each side under its condition
pub pick_under : {A : Type 0} (P : A → Type 0) (t : Bool) (x y : A) → (t ≡ true → P x) → (t ≡ false → P y) → P (pick t x y)
pick_under P true x y p q = p refl
pick_under P false x y p q = q refl

pub flag_le : (b : Bool) → flag b ≤ 1
flag_le b = pick_keeps (λ (n : ℕ). n ≤ 1) b 1 0 (omega arith) (omega arith)

-- a flag read back from its bit
pub flag_back : (b : Bool) (d : ℕ) → d ≡ flag b → eqb d 1 ≡ b
flag_back true d e = eq-eqb d 1 e
flag_back false d e = ne_eqb d 1 (λ one. omega arith)
