-- Laws of the first place that differs, for any number of places: a question says yes of it and of none before it, and
-- `agree` says yes exactly if there is none. Assumes nothing.
use mathlib.Core.Path.{◌≡◌, refl, sym, ◌∙◌}
use mathlib.Core.Bool.{Bool, true, false, not, ◌&&◌, ◌||◌, false≢true}
use mathlib.Core.List.{List}
use Prim.Native.Nat.{ℕ, zero, suc, ◌+◌, ◌<◌, ◌≤◌}
use native.Mathlib.Nat.{add-zero, add-suc, suc-add, le_refl, eq-or-lt_of_le, le_of_suc-le-suc}
use native.Mathlib.Omega.{arith}
use borrow.Author.Tests.{eq-eqb, ne_eqb, lt-ltb, le-ltb, ltb-true, ltb-false}
use mathlib.Core.Logic.{⊎_elim}
use lib.Dec.{eqb, ltb}
use Rattle.std.specs.Prelude.{Option, Some, None, is_none, MatchOption}
use Rattle.base.specs.Pick.{pick}
use Rattle.base.proofs.Booleans.{pick_keeps, pick_under}
use Rattle.filter.specs.Match.{agree, bit_at_place, counted_of, matches}
use Rattle.filter.specs.First.{differs_at, first_from, first_difference}

-- ---- of any question

module _ (says : ℕ → Bool) where
  -- it says yes of the first
  pub first_says : (n k : ℕ) → first_from n k says < k + n → says (first_from n k says) ≡ true
  first_says zero k l = absurd (omega (arith, add-zero k))
  first_says (suc n) k l =
      pick_under (λ (m : ℕ). m < k + suc n → says m ≡ true) (says k) k (first_from n (suc k) says)
      (λ yes within. yes)
      (λ no within. first_says n (suc k) (rw (suc-add k n, ← add-suc k n) within))
      l

  -- and of none before it
  pub none_before : (n k j : ℕ) → k ≤ j → j < first_from n k says → says j ≡ false
  none_before zero k j from l = absurd (omega arith)
  none_before (suc n) k j from l =
      pick_under (λ (m : ℕ). j < m → says j ≡ false) (says k) k (first_from n (suc k) says)
      (λ yes under. absurd (omega arith))
      (λ no under. ⊎_elim (λ (e : k ≡ j). rw (← e) no) (λ above. none_before n (suc k) j above under) (eq-or-lt_of_le from))
      l

  pub first_within : (n k : ℕ) → first_from n k says ≤ k + n
  first_within zero k = omega arith
  first_within (suc n) k =
      pick_keeps (λ (m : ℕ). m ≤ k + suc n) (says k) k (first_from n (suc k) says)
      (omega arith)
      (omega (arith, first_within n (suc k)))

  -- so it is what a search from 0 up finds
  pub found_first : (n : ℕ) (found : Option ℕ)
      → MatchOption found ((k : ℕ) → 0 ≤ k → k < n → says k ≡ false)
      (λ i. (0 ≤ i) × (i < n) × (says i ≡ true) × ((k : ℕ) → 0 ≤ k → k < i → says k ≡ false))
      → found ≡ pick (ltb (first_from n 0 says) n) (Some (first_from n 0 says)) None
  found_first n None none =
      let m = first_from n 0 says in
      let behind : m < n → ⊥ = λ l. false≢true (sym (none m (omega arith) l) ∙ first_says n 0 (omega (arith, l))) in
      rw (le-ltb m n (omega (arith, behind)))
  found_first n (Some i) (from, within, hit, none) =
      let m = first_from n 0 says in
      let before : m < i → ⊥ = λ l. false≢true (sym (none m (omega arith) l) ∙ first_says n 0 (omega (arith, l))) in
      let behind : i < m → ⊥ = λ l. false≢true (sym (none_before n 0 i (omega arith) l) ∙ hit) in
      let same : m ≡ i = omega (arith, before, behind) in
      rw (same, lt-ltb i n within)

-- ---- a filter matches exactly if it has no such place

module _ (frame filter mask : ℕ → ℕ) where
  abbrev says : ℕ → Bool
  says = differs_at frame filter mask

  alike_here : (a b rest : Bool) → (rest && (a || b)) ≡ true → (rest ≡ true) × ((not a && not b) ≡ false)
  alike_here true b true e = (refl, refl)
  alike_here false true true e = (refl, refl)
  alike_here false false true e = absurd (false≢true e)
  alike_here a b false e = absurd (false≢true e)

  alike_all : (a b rest : Bool) → rest ≡ true → (not a && not b) ≡ false → (rest && (a || b)) ≡ true
  alike_all true b true r e = refl
  alike_all false true true r e = refl
  alike_all false false true r e = absurd (false≢true (sym e))
  alike_all a b false r e = absurd (false≢true r)

  pub agree_none : (n : ℕ) → agree n frame filter mask ≡ true → (k : ℕ) → k < n → says k ≡ false
  agree_none zero e k l = absurd (omega arith)
  agree_none (suc n) e k l =
      let here = alike_here (eqb (mask n) 0) (eqb (frame n) (filter n)) (agree n frame filter mask) e in
      ⊎_elim
      (λ (same : k ≡ n). rw same here.1)
      (λ under. agree_none n here.0 k under)
      (eq-or-lt_of_le (le_of_suc-le-suc l))

  pub none_agree : (n : ℕ) → ((k : ℕ) → k < n → says k ≡ false) → agree n frame filter mask ≡ true
  none_agree zero none = refl
  none_agree (suc n) none =
      alike_all (eqb (mask n) 0) (eqb (frame n) (filter n)) (agree n frame filter mask)
      (none_agree n (λ k l. none k (omega arith))) (none n (le_refl (suc n)))

  by_agreement : (n : ℕ) (all : Bool) → agree n frame filter mask ≡ all → all ≡ eqb (first_from n 0 says) n
  by_agreement n true e =
      let behind : first_from n 0 says < n → ⊥ = λ l. false≢true (sym (agree_none n e (first_from n 0 says) l) ∙ first_says says n 0 (omega (arith, l))) in
      sym (eq-eqb (first_from n 0 says) n (omega (arith, first_within says n 0, behind)))
  by_agreement n false e =
      sym (ne_eqb (first_from n 0 says) n
      (λ all. false≢true (sym e ∙ none_agree n (λ k l. none_before says n 0 k (omega arith) (rw all l)))))

  pub agree_first : (n : ℕ) → agree n frame filter mask ≡ eqb (first_from n 0 says) n
  agree_first n = by_agreement n (agree n frame filter mask) refl

-- what `is_none` says of a place below n, and of n itself
none_at : (k n : ℕ) → k ≤ n → eqb k n ≡ is_none (pick (ltb k n) (Some k) None)
none_at k n l = go (ltb k n) refl
  where
    go : (below : Bool) → ltb k n ≡ below → eqb k n ≡ is_none (pick below (Some k) None)
    go true e = ne_eqb k n (λ same. omega (arith, ltb-true k n e, same))
    go false e = eq-eqb k n (omega (arith, ltb-false k n e))

pub matches_first : (vector filter mask : List ℕ) → matches vector filter mask ≡ is_none (first_difference vector filter mask)
unfolding matches first_difference
matches_first vector filter mask =
    agree_first (bit_at_place vector) (bit_at_place filter) (counted_of mask) 48
    ∙ none_at _ 48 (first_within (says (bit_at_place vector) (bit_at_place filter) (counted_of mask)) 48 0)
