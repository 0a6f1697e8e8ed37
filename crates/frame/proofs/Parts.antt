-- An identifier is put together again from the parts that the tables cut it into. Assumes nothing.
use mathlib.Core.Path.{◌≡◌, ap, sym, ◌∙◌}
use mathlib.Core.Bool.{Bool, true, false}
use Prim.Native.Nat.{ℕ, ◌+◌, ◌*◌, ◌/◌, ◌%◌, ◌^◌, ◌<◌, ◌≤◌}
use native.Mathlib.Nat.{div-one, mod-eq_of_lt, mod-lt}
use native.Mathlib.Omega.{arith}
use borrow.Author.Tests.{ltb-true, leb-true}
use lib.Dec.{leb, ltb, lit<}
use lib.Pow.{mod-pow-add}
use Rattle.base.specs.Bit.{bit, bits}
use Rattle.base.specs.Pick.{pick}
use Rattle.base.proofs.Booleans.{and_left, and_right, pick_keeps}
use Rattle.frame.specs.declared.Header.{Header}
use Rattle.frame.specs.Length.{possible}
use Rattle.frame.specs.Tables.{id_bits, id_from}

-- ---- the parts of ID28 to ID0

whole : (a b c d e r₁ r₂ r₃ n : ℕ) → n ≡ a + r₁ → r₁ ≡ b + r₂ → r₂ ≡ c + r₃ → r₃ ≡ d + e → a + b + c + d + e ≡ n
whole a b c d e r₁ r₂ r₃ n h₁ h₂ h₃ h₄ = omega arith

pub parts_back : (n : ℕ) → n < 2 ^ 29
    → bits 28 21 n * 2 ^ 21 + bits 20 18 n * 2 ^ 18 + bits 17 15 n * 2 ^ 15 + bits 14 7 n * 2 ^ 7 + bits 6 0 n ≡ n
parts_back n h =
    ap (λ (e : ℕ). bits 28 21 n * 2 ^ 21 + bits 20 18 n * 2 ^ 18 + bits 17 15 n * 2 ^ 15 + bits 14 7 n * 2 ^ 7 + e % 2 ^ 7) (div-one n)
    ∙ whole _ _ _ _ _ (n % 2 ^ 21) (n % 2 ^ 18) (n % 2 ^ 15) n
    (sym (mod-eq_of_lt h) ∙ mod-pow-add n 8 21)
    (mod-pow-add n 3 18)
    (mod-pow-add n 3 15)
    (mod-pow-add n 8 7)

-- ---- the second byte, ID20..18, two bits, ID17..15, and the fourth, ID6..0 and RTR

module _ (n s i r : ℕ) (hs : s ≤ 1) (hi : i ≤ 1) (hr : r ≤ 1) where
  abbrev second : ℕ
  second = bits 20 18 n * 32 + s * 16 + i * 8 + bits 17 15 n

  abbrev fourth : ℕ
  fourth = bits 6 0 n * 2 + r

  upper_part : bits 7 5 second ≡ bits 20 18 n
  upper_part = go (bits 20 18 n) (bits 17 15 n) (mod-lt (n / 2 ^ 18) (lit< tt)) (mod-lt (n / 2 ^ 15) (lit< tt))
    where
      go : (u l : ℕ) → u < 8 → l < 8 → bits 7 5 (u * 32 + s * 16 + i * 8 + l) ≡ u
      go u l hu hl = omega arith

  lower_part : bits 2 0 second ≡ bits 17 15 n
  lower_part = go (bits 20 18 n) (bits 17 15 n) (mod-lt (n / 2 ^ 15) (lit< tt))
    where
      go : (u l : ℕ) → l < 8 → bits 2 0 (u * 32 + s * 16 + i * 8 + l) ≡ l
      go u l hl = omega arith

  pub third_bit : bit 3 second ≡ i
  third_bit = go (bits 20 18 n) (bits 17 15 n) (mod-lt (n / 2 ^ 15) (lit< tt))
    where
      go : (u l : ℕ) → l < 8 → bit 3 (u * 32 + s * 16 + i * 8 + l) ≡ i
      go u l hl = omega arith

  last_part : bits 7 1 fourth ≡ bits 6 0 n
  last_part = go (bits 6 0 n) (mod-lt (n / 2 ^ 0) (lit< tt))
    where
      go : (x : ℕ) → x < 128 → bits 7 1 (x * 2 + r) ≡ x
      go x h = omega arith

  pub last_bit : bit 0 fourth ≡ r
  last_bit = go (bits 6 0 n)
    where
      go : (x : ℕ) → bit 0 (x * 2 + r) ≡ r
      go x = omega arith

  pub id_back : n < 2 ^ 29 → id_from (bits 28 21 n) second (bits 14 7 n) fourth ≡ n
  id_back h = rw (upper_part, lower_part, last_part) (parts_back n h)

-- ---- headers

pub header_path : (h h' : Header) → h.id ≡ h'.id → h.extended ≡ h'.extended → h.remote ≡ h'.remote → h.code ≡ h'.code → h ≡ h'
header_path h h' p q r s = λ i. record { id = p i; extended = q i; remote = r i; code = s i }

-- one that a frame can have

module _ (h : Header) (ok : possible h ≡ true) where
  pub id_fits : h.id < pick h.extended (2 ^ 29) (2 ^ 11)
  unfolding possible
  id_fits = ltb-true h.id _ (and_left _ (leb h.code 15) ok)

  pub code_fits : h.code ≤ 15
  unfolding possible
  code_fits = leb-true h.code 15 (and_right (ltb h.id (pick h.extended (2 ^ 29) (2 ^ 11))) _ ok)

  pub id_bits_lt : id_bits h < 2 ^ 29
  unfolding id_bits
  id_bits_lt = pick_keeps (λ (n : ℕ). n < 2 ^ 29) h.extended _ _ (omega arith) (omega arith)

  -- a standard identifier is ID28..18
  pub id_bits_back : pick h.extended (id_bits h) (id_bits h / 2 ^ 18) ≡ h.id
  unfolding id_bits
  id_bits_back = go h.extended id_fits
    where
      go : (e : Bool) → h.id < pick e (2 ^ 29) (2 ^ 11)
          → pick e (pick e (h.id % 2 ^ 29) (h.id % 2 ^ 11 * 2 ^ 18)) (pick e (h.id % 2 ^ 29) (h.id % 2 ^ 11 * 2 ^ 18) / 2 ^ 18) ≡ h.id
      go true l = mod-eq_of_lt l
      go false l = omega arith
