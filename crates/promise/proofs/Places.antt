-- The place of a filter that doesn't match is the first: what the device finds by the numbers of places, said by byte
-- and bit. Assumes nothing.
use mathlib.Core.Path.{◌≡◌, refl, sym, ◌∙◌, ap}
use mathlib.Core.Bool.{Bool, true, false, not, ◌&&◌, false≢true}
use mathlib.Core.List.{List, [], ◌∷◌}
use mathlib.Core.Logic.{⊎_elim}
use Prim.Native.Nat.{ℕ, zero, suc, pred, ◌+◌, ◌*◌, ◌-◌, ◌/◌, ◌%◌, ◌<◌, ◌≤◌}
use native.Mathlib.Omega.{arith}
use borrow.Author.Tests.{ne_eqb, lt-ltb, eqb-true, eqb-false, ltb-true, not-true, not-false}
use lib.Dec.{eqb, ltb}
use Rattle.std.specs.Prelude.{Some, None, is_none}
use Rattle.std.proofs.lemmas.Bool.{or_cases}
use Rattle.base.specs.Bit.{bit, byte, is_set}
use Rattle.base.specs.Pick.{pick}
use Rattle.base.proofs.Booleans.{pick_under, and_left, and_right}
use Rattle.filter.specs.Match.{bit_at_place, uncounted, counted_of, matches}
use Rattle.filter.specs.First.{differs_at, first_from, first_difference}
use Rattle.filter.proofs.First.{first_says, none_before, matches_first}
use Rattle.why.specs.declared.Place.{Place}
use Rattle.why.specs.Why.{first_place}
use Rattle.promise.specs.Commands.{one_of}
use Rattle.promise.specs.Explanations.{named, counts_at, before, IsFirst}
use Rattle.promise.specs.Filters.{eight_bits, counted}
use Rattle.promise.specs.Held.{Each}
use Rattle.promise.proofs.Among.{among_keeps, ◌and◌}

-- ---- a place and its number

-- bit i of byte b is at place 8 * b - 1 - i
module _ (b i : ℕ) (from : 1 ≤ b) (high : i ≤ 7) where
  abbrev number : ℕ
  number = 8 * b - 1 - i

  at_number : (bytes : List ℕ) → bit_at_place bytes number ≡ bit i (byte bytes b)
  at_number bytes =
      let inside : 7 - number % 8 ≡ i = omega arith in
      let which : number / 8 ≡ pred b = omega arith in
      rw (inside, which)

-- and back
there : (k : ℕ) (bytes : List ℕ) → bit_at_place bytes k ≡ bit (7 - k % 8) (byte bytes (k / 8 + 1))
there k bytes =
    let which : pred (k / 8 + 1) ≡ k / 8 = omega arith in
    rw which

-- ---- what tests say

-- of two, the second, where they are not both
other : (a b : Bool) → a ≡ true → (a && b) ≡ false → b ≡ false
other a b is none = sym (ap (λ (t : Bool). t && b) is) ∙ none

-- ---- which bits are named

eight_have : (i : ℕ) → i ≤ 7 → one_of i eight_bits ≡ true
eight_have zero high = refl
eight_have (suc zero) high = refl
eight_have (suc (suc zero)) high = refl
eight_have (suc (suc (suc zero))) high = refl
eight_have (suc (suc (suc (suc zero)))) high = refl
eight_have (suc (suc (suc (suc (suc zero))))) high = refl
eight_have (suc (suc (suc (suc (suc (suc zero)))))) high = refl
eight_have (suc (suc (suc (suc (suc (suc (suc zero))))))) high = refl
eight_have (suc (suc (suc (suc (suc (suc (suc (suc i)))))))) high = absurd (omega arith)

-- those of byte 4
abbrev seven : List ℕ
seven = 7 ∷ 6 ∷ 5 ∷ 4 ∷ 3 ∷ 2 ∷ 1 ∷ []

seven_have : (i : ℕ) → i ≤ 7 → (i ≡ 0 → ⊥) → one_of i seven ≡ true
seven_have zero high some = absurd (some refl)
seven_have (suc zero) high some = refl
seven_have (suc (suc zero)) high some = refl
seven_have (suc (suc (suc zero))) high some = refl
seven_have (suc (suc (suc (suc zero)))) high some = refl
seven_have (suc (suc (suc (suc (suc zero))))) high some = refl
seven_have (suc (suc (suc (suc (suc (suc zero)))))) high some = refl
seven_have (suc (suc (suc (suc (suc (suc (suc zero))))))) high some = refl
seven_have (suc (suc (suc (suc (suc (suc (suc (suc i)))))))) high some = absurd (omega arith)

is_named : (b i : ℕ) → 1 ≤ b → b ≤ 6 → i ≤ 7 → (b ≡ 4 → i ≡ 0 → ⊥) → named b i ≡ true
is_named zero i from to high some = absurd (omega arith)
is_named (suc zero) i from to high some = eight_have i high
is_named (suc (suc zero)) i from to high some = eight_have i high
is_named (suc (suc (suc zero))) i from to high some = eight_have i high
is_named (suc (suc (suc (suc zero)))) i from to high some = seven_have i high (some refl)
is_named (suc (suc (suc (suc (suc zero))))) i from to high some = eight_have i high
is_named (suc (suc (suc (suc (suc (suc zero)))))) i from to high some = eight_have i high
is_named (suc (suc (suc (suc (suc (suc (suc b))))))) i from to high some = absurd (omega arith)

record Named (b i : ℕ) : Type 0 where
  pub from : 1 ≤ b
  pub to : b ≤ 6
  pub high : i ≤ 7
  pub other : b ≡ 4 → i ≡ 0 → ⊥

-- one of these is so
among_these : (P : ℕ → Type 0) (bits : List ℕ) (i : ℕ) → Each P bits → one_of i bits ≡ true → P i
among_these P [] i each e = absurd (false≢true e)
among_these P (j ∷ bits) i each e =
    pick_under (λ (t : Bool). t ≡ true → P i) (eqb i j) true (one_of i bits)
    (λ same yes. rw (eqb-true i j same) each.0)
    (λ apart yes. among_these P bits i each.1 yes)
    e

-- every bit of byte b
eight_read : (b i : ℕ) → 1 ≤ b → b ≤ 6 → (b ≡ 4 → ⊥) → one_of i eight_bits ≡ true → Named b i
eight_read b i from to apart e = record {
  from = from;
  to = to;
  high = among_these (λ (i : ℕ). i ≤ 7) eight_bits i
      (omega arith and omega arith and omega arith and omega arith and omega arith and omega arith and omega arith and omega arith and tt) e;
  other = λ four none. apart four;
}

seven_read : (i : ℕ) → one_of i seven ≡ true → Named 4 i
seven_read i e =
    let within : (1 ≤ i) × (i ≤ 7) =
    among_these (λ (i : ℕ). (1 ≤ i) × (i ≤ 7)) seven i
    ((omega arith, omega arith) and (omega arith, omega arith) and (omega arith, omega arith) and (omega arith, omega arith)
    and (omega arith, omega arith) and (omega arith, omega arith) and (omega arith, omega arith) and tt) e in
    record { from = omega arith; to = omega arith; high = within.1; other = λ four none. omega (arith, within.0, none) }

read_named : (b i : ℕ) → named b i ≡ true → Named b i
read_named b i =
    among_keeps (λ (b : ℕ) (bits : List ℕ). one_of i bits ≡ true → Named b i) b counted []
    (eight_read 1 i (omega arith) (omega arith) (λ e. omega arith)
    and eight_read 2 i (omega arith) (omega arith) (λ e. omega arith)
    and eight_read 3 i (omega arith) (omega arith) (λ e. omega arith)
    and seven_read i
    and eight_read 5 i (omega arith) (omega arith) (λ e. omega arith)
    and eight_read 6 i (omega arith) (omega arith) (λ e. omega arith)
    and tt)
    (λ out e. absurd (false≢true e))

-- ---- the first place of a filter that doesn't match

-- a place that the mask counts
counted_there : (mask : List ℕ) (k : ℕ) (t : Bool) → eqb k uncounted ≡ t → (pick t 0 (bit_at_place mask k) ≡ 0 → ⊥)
    → (k ≡ 31 → ⊥) × (bit_at_place mask k ≡ 1)
counted_there mask k true is some = absurd (some refl)
counted_there mask k false is some = (eqb-false k 31 is, omega (arith, some))

-- a place that is found is one of the first n
found_below : (k n : ℕ) (t : Bool) → ltb k n ≡ t → is_none (pick t (Some k) None) ≡ false → k < n
found_below k n true below found = ltb-true k n below
found_below k n false past found = absurd (false≢true (sym found))

module _ (frame filter mask : List ℕ) (misses : matches frame filter mask ≡ false) where
  abbrev says : ℕ → Bool
  says = differs_at (bit_at_place frame) (bit_at_place filter) (counted_of mask)

  abbrev k : ℕ
  k = first_from 48 0 says

  is_one : k < 48
  unfolding first_difference
  is_one = found_below k 48 (ltb k 48) refl (sym (matches_first frame filter mask) ∙ misses)

  differs : says k ≡ true
  differs = first_says says 48 0 is_one

  abbrev placed : Place
  placed = record { byte = k / 8 + 1; bit = 7 - k % 8; wanted = bit_at_place filter k; came = bit_at_place frame k }

  here : first_place frame filter mask ≡ Some placed
  unfolding first_place first_difference
  here = rw (lt-ltb k 48 is_one)

  mask_there : (k ≡ 31 → ⊥) × (bit_at_place mask k ≡ 1)
  mask_there = counted_there mask k (eqb k uncounted) refl (eqb-false (counted_of mask k) 0 (not-true (eqb (counted_of mask k) 0) (and_left (not (eqb (counted_of mask k) 0)) _ differs)))

  counts_there : counts_at mask placed.byte placed.bit ≡ true
  counts_there =
      rw (
        is_named (k / 8 + 1) (7 - k % 8) (omega arith) (omega (arith, is_one)) (omega arith) (λ four none. mask_there.0 (omega arith)),
        ← there k mask,
        mask_there.1,
      )

  -- an earlier place that counts
  module _ (b i : ℕ) (n : Named b i) (set : is_set i (byte mask b) ≡ true) (earlier : 8 * b - 1 - i < k) where
    abbrev j : ℕ
    j = 8 * b - 1 - i

    mask_counts : counted_of mask j ≡ 1
    mask_counts =
        rw (ne_eqb j uncounted (λ e. n.other (omega (arith, n.from, n.high, e)) (omega (arith, n.from, n.high, e))))
        (at_number b i n.from n.high mask ∙ eqb-true (bit i (byte mask b)) 1 set)

    same_there : eqb (bit_at_place frame j) (bit_at_place filter j) ≡ true
    same_there =
        not-false (eqb (bit_at_place frame j) (bit_at_place filter j))
        (other (not (eqb (counted_of mask j) 0)) (not (eqb (bit_at_place frame j) (bit_at_place filter j)))
        (ap (λ (m : ℕ). not (eqb m 0)) mask_counts)
        (none_before says 48 0 j (omega arith) earlier))

    alike : bit i (byte frame b) ≡ bit i (byte filter b)
    alike =
        sym (at_number b i n.from n.high frame)
        ∙ eqb-true (bit_at_place frame j) (bit_at_place filter j) same_there
        ∙ at_number b i n.from n.high filter

  -- it stands before the place
  is_earlier : (b i : ℕ) → Named b i → before b i placed ≡ true → 8 * b - 1 - i < k
  is_earlier b i n e =
      ⊎_elim
      (λ bytes. omega (arith, n.from, n.high, ltb-true b (k / 8 + 1) bytes))
      (λ bits.
      omega (
        arith,
        n.from,
        n.high,
        eqb-true b (k / 8 + 1) (and_left (eqb b (k / 8 + 1)) (ltb (7 - k % 8) i) bits),
        ltb-true (7 - k % 8) i (and_right (eqb b (k / 8 + 1)) (ltb (7 - k % 8) i) bits),
      ))
      (or_cases (ltb b (k / 8 + 1)) (eqb b (k / 8 + 1) && ltb (7 - k % 8) i) e)

  placed_first : IsFirst frame filter mask placed
  placed_first = record {
    counts = counts_there;
    wanted = there k filter;
    came = there k frame;
    differ = λ same. eqb-false (bit_at_place frame k) (bit_at_place filter k) (not-true (eqb (bit_at_place frame k) (bit_at_place filter k)) (and_right (not (eqb (counted_of mask k) 0)) _ differs)) (sym same);
    first = λ b i earlier c.
        let n = read_named b i (and_left (named b i) (is_set i (byte mask b)) c) in
        alike b i n (and_right (named b i) (is_set i (byte mask b)) c) (is_earlier b i n earlier);
  }

  pub is_first : (p : Place) × (first_place frame filter mask ≡ Some p) × IsFirst frame filter mask p
  is_first = (placed, here, placed_first)
