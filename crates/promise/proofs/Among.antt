-- What is found among cases. Assumes nothing.
use mathlib.Core.Path.{◌≡◌, refl}
use mathlib.Core.Bool.{Bool, true, false, not, ◌&&◌, false≢true}
use mathlib.Core.List.{List, [], ◌∷◌}
use Prim.Native.Nat.{ℕ}
use borrow.Author.Tests.{eqb-true, not-true}
use lib.Dec.{eqb}
use Rattle.base.specs.Pick.{pick, among}
use Rattle.base.proofs.Booleans.{and_left, and_right}
use Rattle.promise.proofs.Choices.{pick_under}

-- what holds at each key of its value
abbrev pub AtKeys : {A : Type 0} → (ℕ → A → Type 0) → List (ℕ × A) → Type 0
AtKeys P [] = Unit {0}
AtKeys P (c ∷ cases) = P c.0 c.1 × AtKeys P cases

-- a proof at one key, and those at the keys behind it
infixr 5 ◌and◌
abbrev pub ◌and◌ : {A B : Type 0} → A → B → A × B
p and q = (p, q)

abbrev pub outside : {A : Type 0} → ℕ → List (ℕ × A) → Bool
outside v [] = true
outside v (c ∷ cases) = not (eqb v c.0) && outside v cases

-- holds of what is found among them
pub among_keeps : {A : Type 0} (P : ℕ → A → Type 0) (v : ℕ) (cases : List (ℕ × A)) (other : A)
    → AtKeys P cases → (outside v cases ≡ true → P v other) → P v (among v cases other)
among_keeps P v [] other p q = q refl
among_keeps P v (c ∷ cases) other p q =
    pick_under (P v) (eqb v c.0) c.1 (among v cases other)
    (λ same. rw (eqb-true v c.0 same) p.0)
    (λ apart. among_keeps P v cases other p.1 (λ out. q (rw (apart, out))))

abbrev pub has_key : {A : Type 0} → ℕ → List (ℕ × A) → Bool
has_key k [] = false
has_key k (c ∷ cases) = pick (eqb k c.0) true (has_key k cases)

here_or_later : (t : Bool) (v k j : ℕ) (rest : Bool) → eqb k j ≡ t → pick t true rest ≡ true → eqb v j ≡ false → (rest ≡ true → eqb v k ≡ false) → eqb v k ≡ false
here_or_later true v k j rest e has apart on = rw (eqb-true k j e) apart
here_or_later false v k j rest e has apart on = on has

-- what is outside them is none of their keys
pub none_of : {A : Type 0} (v k : ℕ) (cases : List (ℕ × A)) → outside v cases ≡ true → has_key k cases ≡ true → eqb v k ≡ false
none_of v k [] out has = absurd (false≢true has)
none_of v k (c ∷ cases) out has =
    here_or_later (eqb k c.0) v k c.0 (has_key k cases) refl has
    (not-true (eqb v c.0) (and_left (not (eqb v c.0)) (outside v cases) out))
    (none_of v k cases (and_right (not (eqb v c.0)) (outside v cases) out))

-- whether each key of some cases is one of others
abbrev pub within : {A B : Type 0} → List (ℕ × A) → List (ℕ × B) → Bool
within [] cases = true
within (c ∷ some) cases = has_key c.0 cases && within some cases

-- what is outside cases is outside any whose keys they have
pub among_outside : {A B : Type 0} (v : ℕ) (some : List (ℕ × A)) (cases : List (ℕ × B)) (other : A)
    → outside v cases ≡ true → within some cases ≡ true → among v some other ≡ other
among_outside v [] cases other out has = refl
among_outside v (c ∷ some) cases other out has =
    rw (none_of v c.0 cases out (and_left (has_key c.0 cases) (within some cases) has))
    (among_outside v some cases other out (and_right (has_key c.0 cases) (within some cases) has))
