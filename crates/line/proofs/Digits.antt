-- Laws of numbers, digit by digit. Assumes nothing.
use mathlib.Core.Path.{◌≡◌, refl, ap, sym, ◌∙◌}
use mathlib.Core.Bool.{Bool, true, false, ◌&&◌}
use mathlib.Core.List.{List, [], ◌∷◌}
use Prim.Native.Nat.{ℕ, ◌+◌, ◌*◌, ◌/◌, ◌%◌, ◌<◌, ◌≤◌, min}
use native.Mathlib.Nat.{mul-le-mul, min-eq_left, mul-one, mul-add-mod_self_right, div-add-mod'}
use native.Mathlib.Numerals.{add-one}
use native.Mathlib.Omega.{arith}
use borrow.Author.Tests.{ltb-true, ltb-false, lt-ltb, le-ltb, eqb-false}
use lib.Dec.{ltb, eqb}
use lib.ListN.{length, drop, get_or}
use lib.Seq.{drop-cons}
use Rattle.std.specs.List.{FoldsTo}
use Rattle.std.specs.Prelude.{Option, Some, None, MatchOption}
use Rattle.base.specs.Pick.{pick}
use Rattle.std.specs.Char.{digit_value}
use Rattle.std.proofs.lemmas.Bool.Decides.{nat_tests}
use Rattle.base.proofs.Booleans.{and_left, and_right}
use Rattle.line.specs.Numbers.{digit_of, all_digits, is_number, value_from, value_of, number_as, most}

-- ---- a byte as a digit

pub digit_known : (b : ℕ) → digit_value b < 16 → digit_of b ≡ digit_value b
unfolding digit_of
digit_known b h = grind (arith, nat_tests)

pub digit_min : (b : ℕ) → digit_of b ≡ min (digit_value b) 16
unfolding digit_of
digit_min b = grind (arith, nat_tests)

-- ---- a turn of a loop over the digits

module _ (base : ℕ) (w : List ℕ) (i : ℕ) (h : i < length w) where
  pub digits_on : digit_value (get_or w i 0) < base → base ≤ 16 → all_digits base (drop (i + 1) w) ≡ all_digits base (drop i w)
  digits_on l m =
      let d : digit_of (get_or w i 0) < base = omega (arith, digit_min (get_or w i 0)) in
      rw (drop-cons w i 0 h, lt-ltb (digit_of (get_or w i 0)) base d, add-one i)

  pub digits_off : (digit_value (get_or w i 0) < base → ⊥) → base ≤ 16 → all_digits base (drop i w) ≡ false
  digits_off l m =
      let d : base ≤ digit_of (get_or w i 0) = omega (arith, digit_min (get_or w i 0)) in
      rw (drop-cons w i 0 h, le-ltb (digit_of (get_or w i 0)) base d)

  pub folds_on : (R : ℕ → ℕ → ℕ → Type 0) (n m r : ℕ) → R n (get_or w i 0) m → FoldsTo R m (drop (i + 1) w) r → FoldsTo R n (drop i w) r
  folds_on R n m r p q = rw (drop-cons w i 0 h) (m, p, rw add-one at q)

-- ---- a number as a whole

pub number_if : (base : ℕ) (w : List ℕ) → eqb (length w) 0 ≡ false → all_digits base w ≡ true → is_number base w ≡ true
unfolding is_number
number_if base w l e = rw (lt-ltb 0 (length w) (omega (arith, eqb-false (length w) 0 l)), e)

pub number_not : (base : ℕ) (w : List ℕ) → all_digits base w ≡ false → is_number base w ≡ false
unfolding is_number
number_not base w e = go (ltb 0 (length w)) e
  where
    go : (t : Bool) → all_digits base w ≡ false → (t && all_digits base w) ≡ false
    go true e = e
    go false e = refl

-- ---- a value that is cut at each digit, as one that is cut at the end

-- k cuts a number, and cutting before a digit makes no difference after it
abbrev pub Cuts : (ℕ → ℕ) → ℕ → Type 0
Cuts k base = (n d : ℕ) → k (k n * base + d) ≡ k (n * base + d)

cut_early : (k : ℕ → ℕ) (base : ℕ) → ((n : ℕ) → k (k n) ≡ k n) → Cuts k base → (w : List ℕ) (n : ℕ) → k (value_from base (k n) w) ≡ k (value_from base n w)
cut_early k base twice cuts [] n = twice n
cut_early k base twice cuts (b ∷ w) n =
    sym (cut_early k base twice cuts w (k n * base + digit_of b))
    ∙ ap (λ (m : ℕ). k (value_from base m w)) (cuts n (digit_of b))
    ∙ cut_early k base twice cuts w (n * base + digit_of b)

-- what adds each digit and cuts comes to the value, cut
module _ (k : ℕ → ℕ) (base : ℕ) (R : ℕ → ℕ → ℕ → Type 0) (twice : (n : ℕ) → k (k n) ≡ k n) (cuts : Cuts k base) (adds : (a b c : ℕ) → R a b c → c ≡ k (a * base + digit_of b)) where
  folded : (w : List ℕ) (n r : ℕ) → n ≡ k n → FoldsTo R n w r → r ≡ k (value_from base n w)
  folded [] n r e f = sym f ∙ e
  folded (b ∷ w) n r e f =
      let here : f.0 ≡ k (n * base + digit_of b) = adds n b f.0 f.1 in
      folded w f.0 r (here ∙ sym (twice (n * base + digit_of b)) ∙ ap k (sym here)) f.2
      ∙ ap (λ (m : ℕ). k (value_from base m w)) here
      ∙ cut_early k base twice cuts w (n * base + digit_of b)

  pub number_cut : 0 ≡ k 0 → (w : List ℕ) (r : Option ℕ)
      → MatchOption r (is_number base w ≡ false) (λ n. (is_number base w ≡ true) × FoldsTo R 0 w n)
      → r ≡ number_as base k w
  unfolding value_of
  number_cut zero w None h = rw h
  number_cut zero w (Some n) h = rw h.0 (ap (λ (m : ℕ). Some m) (folded w 0 n zero h.1))

abbrev pub to_most : ℕ → ℕ
to_most n = min n most

pub most_cuts : (base : ℕ) → 1 ≤ base → Cuts to_most base
most_cuts base one n d = go (ltb n most) refl
  where
    large : (m : ℕ) → most ≤ m → most ≤ m * base
    large m l = omega (arith, mul-le-mul l one, mul-one most)

    go : (t : Bool) → ltb n most ≡ t → min (min n most * base + d) most ≡ min (n * base + d) most
    go true e = ap (λ (m : ℕ). min (m * base + d) most) (min-eq_left (omega (arith, ltb-true n most e)))
    go false e = omega (arith, large n (omega (arith, ltb-false n most e)), large (min n most) (omega (arith, ltb-false n most e)))

pub most_twice : (n : ℕ) → to_most (to_most n) ≡ to_most n
most_twice n = omega arith

abbrev pub to_16_bits : ℕ → ℕ
to_16_bits n = n % 65536

pub bits_cut : Cuts to_16_bits 10
bits_cut n d =
    sym (mul-add-mod_self_right (n / 65536 * 10) 65536 (n % 65536 * 10 + d))
    ∙ ap (λ (m : ℕ). m % 65536) (omega (arith, div-add-mod' n 65536))

pub bits_twice : (n : ℕ) → to_16_bits (to_16_bits n) ≡ to_16_bits n
bits_twice n = omega arith

-- ---- two digits of base 16 fit a byte

pub byte_fits : (w : List ℕ) → length w ≡ 2 → is_number 16 w ≡ true → value_of 16 w < 256
unfolding is_number value_of
byte_fits [] l e = absurd (omega arith)
byte_fits (a ∷ []) l e = absurd (omega arith)
byte_fits (a ∷ b ∷ []) l e =
    omega (
      arith,
      ltb-true (digit_of a) 16 (and_left (ltb (digit_of a) 16) (ltb (digit_of b) 16 && true) e),
      ltb-true (digit_of b) 16 (and_left (ltb (digit_of b) 16) true (and_right (ltb (digit_of a) 16) (ltb (digit_of b) 16 && true) e)),
    )
byte_fits (a ∷ b ∷ c ∷ w) l e = absurd (omega arith)

-- a number that was read
pub number_is : (t : Bool) (v n : ℕ) (r : Option ℕ) → r ≡ pick t (Some v) None → r ≡ Some n → (t ≡ true) × (n ≡ v)
number_is true v n r e f = (refl, cc)
number_is false v n r e f = absurd (cc)
