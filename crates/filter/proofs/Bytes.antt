-- A test of whole numbers, `(x ^ f) & m == 0`, says what `agree` says of their bits: one argument over the number of
-- bits. Then bytes in turn are eight places each. Assumes nothing.
use mathlib.Core.Path.{◌≡◌, refl, sym, ap, ap₂, ◌∙◌}
use mathlib.Core.Bool.{Bool, true, false, ◌&&◌, ◌||◌}
use mathlib.Core.List.{List, [], ◌∷◌}
use Prim.Native.Nat.{ℕ, zero, suc, pred, ◌+◌, ◌*◌, ◌-◌, ◌/◌, ◌%◌, ◌^◌, ◌<◌, min}
use native.Mathlib.Nat.{zero-mul, zero-add, zero-min, min-zero, suc-min-suc, sub_self, mul-div_cancel, zero-lt-suc}
use native.Mathlib.Numerals.{add-one}
use native.Mathlib.Omega.{arith}
use borrow.Author.Tests.{ne_eqb, eqb-true, eqb-false}
use lib.Arith.{lt-one, digits_mod}
use lib.Bits.{bit_and, bit_xor, differ, and_step, and_zero_r, xor_step, xor_shr}
use lib.Dec.{eqb, eqb-zero-suc, eqb-suc-zero, eqb-suc-suc}
use lib.ListN.{get_or, length, length-set}
use lib.Seq.{get_or-set_same, get_or-set_other}
use lib.Pow.{shr_lt}
use Rattle.base.specs.Bit.{bit}
use Rattle.base.specs.Pick.{pick}
use Rattle.std.proofs.lemmas.Nat.Bits.{bit_at_lowest, bit_at-suc}
use Rattle.filter.specs.Match.{agree, bit_from_top, bit_at_place, uncounted, counted_of, counted, matches}
use Rattle.filter.proofs.Agree.{agree_alike, agree_more, from}
use Rattle.std.specs.List.{list_all, zip}

-- ---- one digit

differ_eqb : (a b : ℕ) → eqb (differ a b) 0 ≡ eqb a b
differ_eqb zero zero = refl
differ_eqb zero (suc b) = eqb-suc-zero b ∙ sym (eqb-zero-suc b)
differ_eqb (suc a) zero = refl
differ_eqb (suc a) (suc b) = differ_eqb a b ∙ sym (eqb-suc-suc a b)

differ_digit : (a b : ℕ) → a < 2 → b < 2 → differ a b < 2
differ_digit zero b g h = h
differ_digit (suc a) zero g h = g
differ_digit (suc zero) (suc b) g h = omega arith
differ_digit (suc (suc a)) (suc b) g h = absurd (omega arith)

masked : (d c : ℕ) → eqb (min d c) 0 ≡ (eqb c 0 || eqb d 0)
masked zero zero = refl
masked zero (suc c) = rw (zero-min (suc c), eqb-suc-zero c)
masked (suc d) zero = rw (min-zero (suc d))
masked (suc d) (suc c) = rw (suc-min-suc d c, eqb-suc-zero (min d c), eqb-suc-zero c, eqb-suc-zero d)

-- a number is 0 when its lowest digit and the rest are
rest : (a d : ℕ) → eqb (a * 2 + d) 0 ≡ (eqb a 0 && eqb d 0)
rest zero d = rw (zero-mul 2, zero-add d)
rest (suc a) d = rw (ne_eqb (suc a * 2 + d) 0 (λ e. omega arith), eqb-suc-zero a)

-- ---- n bits, the highest first

abbrev highest : ℕ → ℕ → ℕ → ℕ
highest n x k = bit (pred n - k) x

-- bit n - k of x is a bit of x / 2, but for the last
under : (n x k : ℕ) → k < n → highest (suc n) x k ≡ highest n (x / 2) k
under n x k l = ap (λ (i : ℕ). bit i x) place ∙ bit_at-suc x (pred n - k)
  where
    place : n - k ≡ suc (pred n - k)
    place = omega arith

lowest_digit : (n x : ℕ) → highest (suc n) x n ≡ x % 2
lowest_digit n x = ap (λ (i : ℕ). bit i x) (sub_self n) ∙ bit_at_lowest x

digits : (x f m : ℕ) → bit_and (bit_xor x f) m ≡ bit_and (bit_xor (x / 2) (f / 2)) (m / 2) * 2 + min (differ (x % 2) (f % 2)) (m % 2)
digits x f m =
    and_step (bit_xor x f) m
    ∙ rw (xor_shr x f 1, xor_step x f, digits_mod (bit_xor (x / 2) (f / 2)) (differ_digit (x % 2) (f % 2) (omega arith) (omega arith)))

pub whole_agrees : (n x f m : ℕ) → m < 2 ^ n → eqb (bit_and (bit_xor x f) m) 0 ≡ agree n (highest n x) (highest n f) (highest n m)
whole_agrees zero x f m h = rw (lt-one h, and_zero_r (bit_xor x f))
whole_agrees (suc n) x f m h =
    ap (λ (a : ℕ). eqb a 0) (digits x f m)
    ∙ rest (bit_and (bit_xor (x / 2) (f / 2)) (m / 2)) (min (differ (x % 2) (f % 2)) (m % 2))
    ∙ ap₂ ◌&&◌ (whole_agrees n (x / 2) (f / 2) (m / 2) (shr_lt n 1 (rw (add-one n) h)) ∙ sym upper) lowest
  where
    upper : agree n (highest (suc n) x) (highest (suc n) f) (highest (suc n) m) ≡ agree n (highest n (x / 2)) (highest n (f / 2)) (highest n (m / 2))
    upper =
        agree_alike n _ _ _ _ _ _
        (λ k l. record { frame = under n x k l; filter = under n f k l; mask = under n m k l })

    lowest : eqb (min (differ (x % 2) (f % 2)) (m % 2)) 0 ≡ (eqb (highest (suc n) m n) 0 || eqb (highest (suc n) x n) (highest (suc n) f n))
    lowest =
        masked (differ (x % 2) (f % 2)) (m % 2)
        ∙ rw (differ_eqb (x % 2) (f % 2), lowest_digit n m, lowest_digit n x, lowest_digit n f)

-- ---- bytes of eight places

module _ (x : ℕ) (bytes : List ℕ) (k : ℕ) where
  first_byte : k < 8 → bit_at_place (x ∷ bytes) k ≡ bit_from_top x k
  first_byte l =
      let which : k / 8 ≡ 0 = omega arith in
      let inside : k % 8 ≡ k = omega arith in
      rw (which, inside)

  later_byte : bit_at_place (x ∷ bytes) (8 + k) ≡ bit_at_place bytes k
  later_byte =
      let which : (8 + k) / 8 ≡ suc (k / 8) = omega arith in
      let inside : (8 + k) % 8 ≡ k % 8 = omega arith in
      rw (which, inside)

-- what is asked of a frame's byte, a filter's and a mask's
abbrev pub alike_bytes : (ℕ × ℕ) × ℕ → Bool
alike_bytes b = agree 8 (bit_from_top b.0.0) (bit_from_top b.0.1) (bit_from_top b.1)

-- and of all of them in turn, by the places
pub bytes_agree : (v f m : List ℕ) → length f ≡ length v → length m ≡ length v
    → list_all alike_bytes (zip (zip v f) m) ≡ agree (8 * length v) (bit_at_place v) (bit_at_place f) (bit_at_place m)
bytes_agree [] f m p q = refl
bytes_agree (x ∷ v) [] m p q = absurd (omega (arith, p))
bytes_agree (x ∷ v) (y ∷ f) [] p q = absurd (omega (arith, q))
bytes_agree (x ∷ v) (y ∷ f) (z ∷ m) p q =
    ap₂ ◌&&◌ (sym front) (bytes_agree v f m (omega (arith, p)) (omega (arith, q)) ∙ sym behind)
    ∙ sym (agree_more (8 * length v) 8 _ _ _)
    ∙ ap (λ (n : ℕ). agree n (bit_at_place (x ∷ v)) (bit_at_place (y ∷ f)) (bit_at_place (z ∷ m))) more
  where
    more : 8 + 8 * length v ≡ 8 * suc (length v)
    more = omega arith

    front : agree 8 (bit_at_place (x ∷ v)) (bit_at_place (y ∷ f)) (bit_at_place (z ∷ m)) ≡ alike_bytes ((x, y), z)
    front =
        agree_alike 8 _ _ _ _ _ _
        (λ k l. record { frame = first_byte x v k l; filter = first_byte y f k l; mask = first_byte z m k l })

    behind : agree (8 * length v) (from 8 (bit_at_place (x ∷ v))) (from 8 (bit_at_place (y ∷ f))) (from 8 (bit_at_place (z ∷ m)))
        ≡ agree (8 * length v) (bit_at_place v) (bit_at_place f) (bit_at_place m)
    behind =
        agree_alike (8 * length v) _ _ _ _ _ _
        (λ k l. record { frame = later_byte x v k; filter = later_byte y f k; mask = later_byte z m k })

-- ---- the bit that doesn't count

-- all bits of x / 2 * 2 but the last are x's
above : (x k : ℕ) → k < 7 → bit_from_top (x / 2 * 2) k ≡ bit_from_top x k
above x k l =
    rw place_of
    (bit_at-suc (x / 2 * 2) (6 - k) ∙ ap (bit (6 - k)) (mul-div_cancel (x / 2) (zero-lt-suc 1)) ∙ sym (bit_at-suc x (6 - k)))
  where
    place_of : 7 - k ≡ suc (6 - k)
    place_of = omega arith

module _ (mask : List ℕ) (long : 3 < length mask) where
  abbrev x : ℕ
  x = get_or mask 3 0

  fourth : get_or (counted mask) 3 0 ≡ x / 2 * 2
  fourth = get_or-set_same mask 3 (x / 2 * 2) 0 long

  elsewhere : (k : ℕ) (there : Bool) → eqb (k / 8) 3 ≡ there → (k ≡ 31 → ⊥) → bit_at_place (counted mask) k ≡ bit_at_place mask k
  elsewhere k true e other =
      let which : k / 8 ≡ 3 = eqb-true (k / 8) 3 e in
      rw (which, fourth) (above x (k % 8) (omega (arith, which, other)))
  elsewhere k false e other = rw (get_or-set_other mask 3 (k / 8) (x / 2 * 2) 0 (eqb-false (k / 8) 3 e))

  at_uncounted : (k : ℕ) (last : Bool) → eqb k uncounted ≡ last → bit_at_place (counted mask) k ≡ pick last 0 (bit_at_place mask k)
  at_uncounted k true e = rw (eqb-true k uncounted e, fourth) (bit_at_lowest (x / 2 * 2) ∙ omega arith)
  at_uncounted k false e = elsewhere k (eqb (k / 8) 3) refl (eqb-false k uncounted e)

  pub counted_place : (k : ℕ) → bit_at_place (counted mask) k ≡ counted_of mask k
  counted_place k = at_uncounted k (eqb k uncounted) refl

-- ---- six bytes are the 48 places

pub six_agree : (v f m : List ℕ) → length v ≡ 6 → length f ≡ 6 → length m ≡ 6 → list_all alike_bytes (zip (zip v f) (counted m)) ≡ matches v f m
unfolding matches
six_agree v f m p q r =
    let long : 3 < length m = omega arith in
    bytes_agree v f (counted m) (omega arith) (omega (arith, length-set m 3 (get_or m 3 0 / 2 * 2)))
    ∙ ap (λ (n : ℕ). agree (8 * n) (bit_at_place v) (bit_at_place f) (bit_at_place (counted m))) p
    ∙ agree_alike 48 (bit_at_place v) (bit_at_place f) _ (bit_at_place v) (bit_at_place f) _
    (λ k l. record { frame = refl; filter = refl; mask = counted_place m long k })
