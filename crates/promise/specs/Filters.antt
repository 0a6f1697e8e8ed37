-- The filters: what they are held against, when one matches, and which do (01, Modes and filters; 000, Tables 4a and
-- 4b; 02, c)).
use Rattle.std.specs.Prelude.{Bool, true, ◌&&◌, ◌||◌, List, [], ◌∷◌, ◌++◌, map, ℕ, eqb, get_or}
use Rattle.base.specs.Bit.{bit, byte}
use Rattle.base.specs.Pick.{flag}
use Rattle.frame.specs.declared.Header.{Header}
use Rattle.promise.specs.Frames.{data_byte, identifier_in}
use Rattle.promise.specs.Hits.{eight, as_bits}

-- 4a: the identifier with RTR beside IDE, "and the first two data bytes"; "bits and bytes that a frame lacks compare as
-- zero"
abbrev pub compared : Header → List ℕ → List ℕ
compared h payload = identifier_in h (flag h.remote) 0 ++ map (data_byte h payload) (1 ∷ 2 ∷ [])

abbrev pub all : {A : Type 0} → (A → Bool) → List A → Bool
all holds [] = true
all holds (x ∷ xs) = holds x && all holds xs

-- "4b says which mask bits count": of bytes 1 to 6 every bit but bit 0 of byte 4, which it doesn't name
abbrev pub eight_bits : List ℕ
eight_bits = 7 ∷ 6 ∷ 5 ∷ 4 ∷ 3 ∷ 2 ∷ 1 ∷ 0 ∷ []

abbrev pub counted : List (ℕ × List ℕ)
counted =
    (1, eight_bits) ∷ (2, eight_bits) ∷ (3, eight_bits) ∷ (4, 7 ∷ 6 ∷ 5 ∷ 4 ∷ 3 ∷ 2 ∷ 1 ∷ []) ∷
    (5, eight_bits) ∷ (6, eight_bits) ∷ []

-- "A filter matches when all counted bits agree": where the mask has a 1, frame and filter are alike
abbrev pub bit_agrees : ℕ → ℕ → ℕ → ℕ → Bool
bit_agrees frame filter mask i = eqb (bit i mask) 0 || eqb (bit i frame) (bit i filter)

abbrev pub matches : List ℕ → List ℕ → List ℕ → Bool
matches frame filter mask =
    all (λ c. all (bit_agrees (byte frame c.0) (byte filter c.0) (byte mask c.0)) c.1) counted

-- 02: "which filters match, as one byte, a bit for each filter"
unfoldable pub hits_of : List (List ℕ) → List (List ℕ) → List ℕ → ℕ
hits_of filters masks frame = as_bits (map (λ k. matches frame (get_or filters k []) (get_or masks k [])) eight)
