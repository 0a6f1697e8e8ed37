-- The filters match as the device's do. Assumes nothing.
use mathlib.Core.Path.{◌≡◌, refl, ◌∙◌, ap₂}
use mathlib.Core.Bool.{Bool, true, ◌&&◌, and_assoc, and-true}
use mathlib.Core.List.{List, [], ◌∷◌, map}
use Prim.Native.Nat.{ℕ, ◌+◌}
use native.Mathlib.Omega.{arith}
use lib.Dec.{eqb}
use lib.ListN.{get_or}
use Rattle.base.specs.Bit.{byte}
use Rattle.base.specs.Pick.{pick}
use Rattle.filter.specs.Hits.{set_of, hits, filhit}
use Rattle.filter.specs.Match.{agree, bit_from_top, bit_at_place, counted_of, matches as matches_by}
use Rattle.filter.proofs.Agree.{from, agree_more}
use Rattle.filter.proofs.Sets.{set_alike}
use Rattle.promise.specs.Filters.{all, eight_bits, bit_agrees, matches, hits_of}
use Rattle.promise.specs.Hits.{eight, as_bits, filhit_of}

-- a byte's eight places
byte_agrees : (x f m : ℕ) → agree 8 (bit_from_top x) (bit_from_top f) (bit_from_top m) ≡ all (bit_agrees x f m) eight_bits
byte_agrees x f m = simp (and_assoc, and-true)

-- byte 4 has one that doesn't count
fourth_agrees : (x f m : ℕ) → agree 8 (bit_from_top x) (bit_from_top f) (λ k. pick (eqb k 7) 0 (bit_from_top m k)) ≡ all (bit_agrees x f m) (7 ∷ 6 ∷ 5 ∷ 4 ∷ 3 ∷ 2 ∷ 1 ∷ [])
fourth_agrees x f m = simp (and_assoc, and-true)

-- one byte, and n places more
next_byte : (n : ℕ) (x f m : ℕ → ℕ) (a b : Bool) → agree 8 x f m ≡ a → agree n (from 8 x) (from 8 f) (from 8 m) ≡ b → agree (8 + n) x f m ≡ (a && b)
next_byte n x f m a b first rest = agree_more n 8 x f m ∙ ap₂ ◌&&◌ first rest

module _ (frame filter mask : List ℕ) where
  -- the places from the one of number k on
  abbrev x : ℕ → ℕ → ℕ
  x k = from k (bit_at_place frame)

  abbrev f : ℕ → ℕ → ℕ
  f k = from k (bit_at_place filter)

  abbrev m : ℕ → ℕ → ℕ
  m k = from k (counted_of mask)

  abbrev agreeing : ℕ → Bool
  agreeing j = all (bit_agrees (byte frame j) (byte filter j) (byte mask j)) eight_bits

  matches_same : matches_by frame filter mask ≡ matches frame filter mask
  unfolding matches_by
  matches_same =
      next_byte 40 (x 0) (f 0) (m 0) (agreeing 1) _ (byte_agrees (byte frame 1) (byte filter 1) (byte mask 1))
      (next_byte 32 (x 8) (f 8) (m 8) (agreeing 2) _ (byte_agrees (byte frame 2) (byte filter 2) (byte mask 2))
      (next_byte 24 (x 16) (f 16) (m 16) (agreeing 3) _ (byte_agrees (byte frame 3) (byte filter 3) (byte mask 3))
      (next_byte 16 (x 24) (f 24) (m 24) _ _ (fourth_agrees (byte frame 4) (byte filter 4) (byte mask 4))
      (next_byte 8 (x 32) (f 32) (m 32) (agreeing 5) _ (byte_agrees (byte frame 5) (byte filter 5) (byte mask 5))
      (next_byte 0 (x 40) (f 40) (m 40) (agreeing 6) true (byte_agrees (byte frame 6) (byte filter 6) (byte mask 6)) refl)))))

-- ---- and so do those that match, and FILHIT

-- a digit for each, added up from either end
bits_same : (says : ℕ → Bool) → set_of 8 says ≡ as_bits (map says eight)
bits_same says = omega arith

pub hits_same : (filters masks : List (List ℕ)) (frame : List ℕ) → hits filters masks frame ≡ hits_of filters masks frame
unfolding hits hits_of
hits_same filters masks frame =
    set_alike 8 _ (λ k. matches frame (get_or filters k []) (get_or masks k []))
    (λ k l. matches_same frame (get_or filters k []) (get_or masks k []))
    ∙ bits_same (λ k. matches frame (get_or filters k []) (get_or masks k []))

pub filhit_same : (set : ℕ) → filhit set ≡ filhit_of set
unfolding filhit filhit_of
filhit_same set = refl
