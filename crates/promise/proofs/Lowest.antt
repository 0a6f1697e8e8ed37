-- The first number that applies, and when it is a given one. Assumes nothing.
use mathlib.Core.Path.{◌≡◌, refl, sym, ◌∙◌}
use mathlib.Core.Bool.{Bool, true, false, false≢true}
use Prim.Native.Nat.{ℕ, zero, suc, ◌<◌, ◌≤◌, ◌+◌}
use native.Mathlib.Omega.{arith}
use native.Mathlib.Nat.{add-suc, add-zero}
use borrow.Author.Tests.{ltb-true, ltb-false}
use lib.Dec.{ltb}
use Rattle.base.specs.Pick.{pick}
use Rattle.promise.specs.Numbers.{first_from}

module _ (says : ℕ → Bool) where
  -- n applies, and none from k on to n does
  abbrev pub FirstFrom : ℕ → ℕ → Type 0
  FirstFrom k n = (says n ≡ true) × ((m : ℕ) → k ≤ m → m < n → says m ≡ false)

  at_or_after : (t : Bool) (k m n : ℕ) → ltb k m ≡ t → k ≤ m → m < n → says k ≡ false → FirstFrom (suc k) n → says m ≡ false
  at_or_after true k m n e p q here later = later.1 m (ltb-true k m e) q
  at_or_after false k m n e p q here later =
      let at : m ≡ k = omega (arith, ltb-false k m e) in
      rw at here

  from_here : (t : Bool) (k m n : ℕ) → says k ≡ t → 0 < n → pick t k (first_from says (suc k) m) ≡ n
      → (first_from says (suc k) m ≡ n → FirstFrom (suc k) n) → FirstFrom k n
  from_here true k m n e p q on = (rw (← q) e, λ j r s. absurd (omega (arith, q)))
  from_here false k m n e p q on = ((on q).0, λ j r s. at_or_after (ltb k j) k j n refl r s e (on q))

  pub lowest_first : (m k n : ℕ) → 0 < n → first_from says k m ≡ n → FirstFrom k n
  lowest_first zero k n p e = absurd (omega (arith, e))
  lowest_first (suc m) k n p e = from_here (says k) k m n refl p e (lowest_first m (suc k) n p)

  here_first : (t u : Bool) (k m n : ℕ) → says k ≡ t → ltb k n ≡ u → k ≤ n → FirstFrom k n
      → (suc k ≤ n → first_from says (suc k) m ≡ n) → pick t k (first_from says (suc k) m) ≡ n
  here_first true true k m n e f p first on = absurd (false≢true (sym (first.1 k (omega arith) (ltb-true k n f)) ∙ e))
  here_first true false k m n e f p first on = omega (arith, ltb-false k n f)
  here_first false true k m n e f p first on = on (ltb-true k n f)
  here_first false false k m n e f p first on =
      let at : n ≡ k = omega (arith, ltb-false k n f) in
      absurd (false≢true (sym e ∙ (rw at at first.0)))

  pub first_lowest : (m k n : ℕ) → k ≤ n → n < k + m → FirstFrom k n → first_from says k m ≡ n
  first_lowest zero k n p q first = absurd (omega (arith, add-zero k))
  first_lowest (suc m) k n p q first =
      here_first (says k) (ltb k n) k m n refl refl p first
      (λ later. first_lowest m (suc k) n later (omega (arith, add-suc k m)) (first.0, λ j r s. first.1 j (omega arith) s))

  none_here : (t : Bool) (k m : ℕ) → says k ≡ t → 0 < k → pick t k (first_from says (suc k) m) ≡ 0
      → (says k ≡ false) × (first_from says (suc k) m ≡ 0)
  none_here true k m e p q = absurd (omega (arith, q))
  none_here false k m e p q = (e, q)

  none_on : (t : Bool) (k m j : ℕ) → ltb k j ≡ t → k ≤ j → (says k ≡ false) × (first_from says (suc k) m ≡ 0)
      → (first_from says (suc k) m ≡ 0 → suc k ≤ j → says j ≡ false) → says j ≡ false
  none_on true k m j e p here on = on here.1 (ltb-true k j e)
  none_on false k m j e p here on =
      let at : j ≡ k = omega (arith, ltb-false k j e) in
      rw at here.0

  pub lowest_none : (m k j : ℕ) → 0 < k → first_from says k m ≡ 0 → k ≤ j → j < k + m → says j ≡ false
  lowest_none zero k j p e q r = absurd (omega (arith, add-zero k))
  lowest_none (suc m) k j p e q r =
      none_on (ltb k j) k m j refl q (none_here (says k) k m refl p e)
      (λ none later. lowest_none m (suc k) j (omega arith) none later (omega (arith, add-suc k m)))

  lowest_here : (t : Bool) (k m n : ℕ) → k ≤ n → first_from says (suc k) m ≤ n → pick t k (first_from says (suc k) m) ≤ n
  lowest_here true k m n p q = p
  lowest_here false k m n p q = q

  pub lowest_le : (m k n : ℕ) → k + m ≤ suc n → first_from says k m ≤ n
  lowest_le zero k n p = omega arith
  lowest_le (suc m) k n p = lowest_here (says k) k m n (omega (arith, add-suc k m)) (lowest_le m (suc k) n (omega (arith, add-suc k m)))
