-- Laws of a set that is kept as a number, each for any number of bits: the bit of each, the empty set, the lowest by
-- trailing zeros, how many by ones. Assumes nothing.
use mathlib.Core.Path.{◌≡◌, refl, sym, ap, ◌∙◌}
use mathlib.Core.Bool.{Bool, true, false}
use mathlib.Core.List.{List}
use mathlib.Core.Logic.{⊎_elim}
use Prim.Native.Nat.{ℕ, zero, suc, ◌+◌, ◌*◌, ◌/◌, ◌%◌, ◌^◌, ◌<◌}
use native.Mathlib.Nat.{zero-mul, add-suc, suc-add, mul_comm, pow-suc, mod-lt, mod-one, mod-eq_of_lt, eq-or-lt_of_le, le_of_suc-le-suc}
use native.Mathlib.Numerals.{add-one, one-add}
use native.Mathlib.Omega.{arith}
use borrow.Author.Tests.{eq-eqb, ne_eqb, eqb-true, eqb-false}
use lib.Arith.{lt-one, digits_lt}
use lib.Bits.{bit_or, or_shifted_r}
use lib.Count.{ones, count_trailing_zeros, under, ones_cat}
use lib.Dec.{eqb}
use lib.Pow.{shl_exact, high, mod-pow-add, pow_pos, shr_lt, shr-shr}
use Rattle.std.proofs.lemmas.Nat.Bits.{bit_at_cat_low}
use Rattle.base.specs.Bit.{bit, is_set}
use Rattle.base.specs.Pick.{pick, flag}
use Rattle.base.proofs.Booleans.{pick_keeps, flag_le, flag_back}
use Rattle.filter.specs.Hits.{set_of, matches_at, hits, lowest_from, filhit, count_in}

-- ---- the bit of each

flag_lt : (b : Bool) → flag b < 2
flag_lt b = omega (arith, flag_le b)

module _ (says : ℕ → Bool) where
  pub set_below : (n : ℕ) → set_of n says < 2 ^ n
  set_below zero = omega arith
  set_below (suc n) = rw (pow-suc 2 n, mul_comm (2 ^ n) 2) (digits_lt (flag_lt (says n)) (set_below n))

  set_top : (n : ℕ) → is_set n (set_of (suc n) says) ≡ says n
  set_top n =
      flag_back (says n) (set_of (suc n) says / 2 ^ n % 2)
      (ap (λ (y : ℕ). y % 2) (high (flag (says n)) n (set_below n)) ∙ mod-eq_of_lt (flag_lt (says n)))

  set_under : (n k : ℕ) → k < n → is_set k (set_of (suc n) says) ≡ is_set k (set_of n says)
  set_under n k l = ap (λ (b : ℕ). eqb b 1) (bit_at_cat_low (flag (says n)) n (set_of n says) k l)

  pub set_bit : (n k : ℕ) → k < n → is_set k (set_of n says) ≡ says k
  set_bit zero k l = absurd (omega arith)
  set_bit (suc n) k l =
      ⊎_elim
      (λ (e : k ≡ n). rw e (set_top n))
      (λ under. set_under n k under ∙ set_bit n k under)
      (eq-or-lt_of_le (le_of_suc-le-suc l))

  -- ---- of eight, a turn of the loop

  -- number k joins those before it
  pub set_more : (k set f : ℕ) → k < 8 → set ≡ set_of k says → f ≡ flag (says k) → bit_or set (f * 2 ^ k % 256) ≡ set_of (k + 1) says
  set_more k set f l before joins =
      rw (add-one k, before, joins)
      (ap (bit_or (set_of k says)) (shl_exact 1 k 8 (flag_lt (says k)) (omega arith))
      ∙ or_shifted_r (flag (says k)) k (set_of k says) (set_below k))

  -- ---- the empty set

  none_of : (n : ℕ) (b : Bool) → flag b * 2 ^ n + set_of n says ≡ 0 → b ≡ false
  none_of n true e = absurd (omega (arith, set_below n))
  none_of n false e = refl

  pub set_none : (n : ℕ) → set_of n says ≡ 0 → (k : ℕ) → k < n → says k ≡ false
  set_none zero e k l = absurd (omega arith)
  set_none (suc n) e k l =
      ⊎_elim
      (λ (same : k ≡ n). rw same (none_of n (says n) e))
      (λ under. set_none n (omega (arith, e)) k under)
      (eq-or-lt_of_le (le_of_suc-le-suc l))

  pub none_set : (n : ℕ) → ((k : ℕ) → k < n → says k ≡ false) → set_of n says ≡ 0
  none_set zero none = refl
  none_set (suc n) none = rw (none n (omega arith), none_set n (λ k l. none k (omega arith)), zero-mul (2 ^ n))

-- the same answers, the same set
pub set_alike : (n : ℕ) (says also : ℕ → Bool) → ((k : ℕ) → k < n → says k ≡ also k) → set_of n says ≡ set_of n also
set_alike zero says also same = refl
set_alike (suc n) says also same = rw (same n (omega arith), set_alike n says also (λ k l. same k (omega arith)))

-- ---- the lowest, by trailing zeros

-- by the lowest digit d of y, with t zeros above it
by_digit : (d y k t rest : ℕ) → y % 2 ≡ d → rest ≡ pick (eqb (y / 2) 0) 0 (8 + suc k + t)
    → pick (eqb d 1) (8 + k) rest ≡ pick (eqb y 0) 0 (8 + k + under d t)
by_digit zero y k t rest even is = is ∙ halves (eqb (y / 2) 0) refl
  where
    halves : (none : Bool) → eqb (y / 2) 0 ≡ none → pick none 0 (8 + suc k + t) ≡ pick (eqb y 0) 0 (8 + k + suc t)
    halves true e = rw (eq-eqb y 0 (omega (arith, eqb-true (y / 2) 0 e)))
    halves false e = rw (ne_eqb y 0 (λ none. eqb-false (y / 2) 0 e (omega arith))) (omega arith)
by_digit (suc zero) y k t rest odd is = rw (ne_eqb y 0 (λ none. omega arith)) (omega arith)
by_digit (suc (suc d)) y k t rest much is = absurd (omega arith)

pub lowest_zeros : (n k set y : ℕ) → set / 2 ^ k ≡ y → y < 2 ^ n → lowest_from n k set ≡ pick (eqb y 0) 0 (8 + k + count_trailing_zeros n y)
unfolding count_trailing_zeros
lowest_zeros zero k set y e l = rw (lt-one l)
lowest_zeros (suc n) k set y e l =
    ap (λ (z : ℕ). pick (eqb (z % 2) 1) (8 + k) (lowest_from n (suc k) set)) e
    ∙ by_digit (y % 2) y k (count_trailing_zeros n (y / 2)) (lowest_from n (suc k) set) refl
    (lowest_zeros n (suc k) set (y / 2) half (shr_lt n 1 (rw (add-one n) l)))
  where
    half : set / 2 ^ suc k ≡ y / 2
    half = ap (λ (m : ℕ). set / 2 ^ m) (sym (add-one k)) ∙ sym (shr-shr set k 1) ∙ ap (λ (z : ℕ). z / 2) e

-- ---- how many, by ones

bit_ones : (b : ℕ) → b < 2 → ones b ≡ b
unfolding ones
bit_ones zero l = refl
bit_ones (suc zero) l = refl
bit_ones (suc (suc b)) l = absurd (omega arith)

pub count_ones : (n set : ℕ) → count_in n set ≡ ones (set % 2 ^ n)
unfolding ones
count_ones zero set = rw (mod-one set)
count_ones (suc n) set =
    rw (count_ones n set, ← bit_ones (bit n set) (omega arith))
    (sym (ones_cat n (bit n set) (set % 2 ^ n) (mod-lt set (pow_pos n))) ∙ ap ones (sym (mod-pow-add set 1 n) ∙ ap (λ (m : ℕ). set % 2 ^ m) (one-add n)))

-- ---- FILHIT has four bits

below_sixteen : (n k set : ℕ) → k + n < 9 → lowest_from n k set < 16
below_sixteen zero k set few = omega arith
below_sixteen (suc n) k set few =
    pick_keeps (λ (m : ℕ). m < 16) (is_set k set) (8 + k) _ (omega (arith, add-suc k n))
    (below_sixteen n (suc k) set (omega (arith, add-suc k n, suc-add k n)))

pub filhit_below : (set : ℕ) → filhit set < 16
unfolding filhit
filhit_below set = below_sixteen 8 0 set (omega arith)

-- ---- of a bank

-- "a bit for each filter"
pub hits_bit : (bank masks : List (List ℕ)) (vector : List ℕ) (k : ℕ) → k < 8
    → is_set k (hits bank masks vector) ≡ matches_at bank masks vector k
unfolding hits
hits_bit bank masks vector k l = set_bit (matches_at bank masks vector) 8 k l
