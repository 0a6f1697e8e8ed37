-- `pick t x y` is "x if t, else y": how specs/ write an `if`. The kit calls it `cond`. The rules turn a goal
-- `r ≡ pick t x y` into the branch that a proof stands in; `search picks` applies them down to the leaf.
use Rattle.std.specs.Prelude.{◌≡◌, Bool, true, false, not, ◌&&◌, ◌||◌, List, [], ◌∷◌, ℕ, ◌<◌, ◌≤◌, ltb, leb, eqb}
use Rattle.std.proofs.Common.{lt-ltb, le-ltb, le-leb, eq-eqb, ne_eqb}
use Rattle.std.proofs.lemmas.Bool.{lt-leb}
pub use Rattle.std.specs.Prelude.{cond as pick}

-- a flag as a bit
abbrev pub flag : Bool → ℕ
flag b = pick b 1 0

-- A table of cases: the first whose key it is, or what holds otherwise.
abbrev pub among : {A : Type 0} → ℕ → List (ℕ × A) → A → A
among v [] other = other
among v (c ∷ cases) other = pick (eqb v c.0) c.1 (among v cases other)

pub pick_yes : (A : Type 0) (t : Bool) (r x y : A) → t ≡ true → r ≡ x → r ≡ pick t x y
pick_yes A t r x y e p = rw e p

pub pick_no : (A : Type 0) (t : Bool) (r x y : A) → t ≡ false → r ≡ y → r ≡ pick t x y
pick_no A t r x y e p = rw e p

pub pick_lt : (A : Type 0) (a b : ℕ) (r x y : A) → a < b → r ≡ x → r ≡ pick (ltb a b) x y
pick_lt A a b r x y h p = pick_yes A (ltb a b) r x y (lt-ltb a b h) p

pub pick_ge : (A : Type 0) (a b : ℕ) (r x y : A) → b ≤ a → r ≡ y → r ≡ pick (ltb a b) x y
pick_ge A a b r x y h p = pick_no A (ltb a b) r x y (le-ltb a b h) p

pub pick_le : (A : Type 0) (a b : ℕ) (r x y : A) → a ≤ b → r ≡ x → r ≡ pick (leb a b) x y
pick_le A a b r x y h p = pick_yes A (leb a b) r x y (le-leb a b h) p

pub pick_gt : (A : Type 0) (a b : ℕ) (r x y : A) → b < a → r ≡ y → r ≡ pick (leb a b) x y
pick_gt A a b r x y h p = pick_no A (leb a b) r x y (lt-leb a b h) p

pub pick_eq : (A : Type 0) (a b : ℕ) (r x y : A) → a ≡ b → r ≡ x → r ≡ pick (eqb a b) x y
pick_eq A a b r x y h p = pick_yes A (eqb a b) r x y (eq-eqb a b h) p

pub pick_ne : (A : Type 0) (a b : ℕ) (r x y : A) → (a ≡ b → ⊥) → r ≡ y → r ≡ pick (eqb a b) x y
pick_ne A a b r x y h p = pick_no A (eqb a b) r x y (ne_eqb a b h) p

pub ruleset picks = (pick_yes, pick_no, pick_lt, pick_ge, pick_le, pick_gt, pick_eq, pick_ne)

-- The same for a yes-or-no rule, which specs/ write with `&&` and `||`; `search judges` goes down to the part that
-- decides.
pub and_yes : (t r u : Bool) → t ≡ true → r ≡ u → r ≡ (t && u)
and_yes t r u e p = rw e p

pub and_no : (t r u : Bool) → t ≡ false → r ≡ false → r ≡ (t && u)
and_no t r u e p = rw e p

pub or_yes : (t r u : Bool) → t ≡ true → r ≡ true → r ≡ (t || u)
or_yes t r u e p = rw e p

pub or_no : (t r u : Bool) → t ≡ false → r ≡ u → r ≡ (t || u)
or_no t r u e p = rw e p

pub not_yes : (t : Bool) → t ≡ false → not t ≡ true
not_yes t e = rw e

pub not_no : (t : Bool) → t ≡ true → not t ≡ false
not_no t e = rw e

pub ruleset judges = (and_yes, and_no, or_yes, or_no, not_yes, not_no, lt-ltb, le-ltb, le-leb, lt-leb, eq-eqb, ne_eqb)
