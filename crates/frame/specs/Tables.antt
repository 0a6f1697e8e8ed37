-- The identifier's bytes, as 000's tables lay them out: 2 to send, 5 as read, 4 as compared.
use Rattle.std.specs.Prelude.{Bool, List, [], ◌∷◌, ◌++◌, ℕ, ◌+◌, ◌*◌, ◌%◌, ◌^◌}
use Rattle.base.specs.Bit.{bits, byte}
use Rattle.base.specs.Pick.{pick, flag}
use Rattle.frame.specs.declared.Header.{Header}
use Rattle.frame.specs.declared.IdBytes.{IdBytes}
use Rattle.frame.specs.Length.{data_of}

-- The tables number an identifier's bits ID28 to ID0 for both kinds; a standard one has ID28 to ID18, and zeros below.
unfoldable pub id_bits : Header → ℕ
id_bits h = pick h.extended (h.id % 2 ^ 29) (h.id % 2 ^ 11 * 2 ^ 18)

-- for the code's own step: the four bytes, with two bits between ID18 and ID17 and one below ID0
abbrev pub laid_out : Header → Bool → Bool → Bool → List ℕ
laid_out h upper lower last =
    bits 28 21 (id_bits h) ∷
    (bits 20 18 (id_bits h) * 32 + flag upper * 16 + flag lower * 8 + bits 17 15 (id_bits h)) ∷
    bits 14 7 (id_bits h) ∷
    (bits 6 0 (id_bits h) * 2 + flag last) ∷
    []

-- Table 2a: ID28..21; ID20..18, RTR, IDE (0), "The bits below are zero."
abbrev pub standard_to_send : Header → List ℕ
standard_to_send h =
    bits 28 21 (id_bits h) ∷
    (bits 20 18 (id_bits h) * 32 + flag h.remote * 16) ∷
    []

-- Table 2b: ID28..21; ID20..18, "SRR and IDE as ones and ID17..15, then ID14..7, then ID6..0 with RTR as lowest bit"
abbrev pub extended_to_send : Header → List ℕ
extended_to_send h =
    bits 28 21 (id_bits h) ∷
    (bits 20 18 (id_bits h) * 32 + 16 + 8 + bits 17 15 (id_bits h)) ∷
    bits 14 7 (id_bits h) ∷
    (bits 6 0 (id_bits h) * 2 + flag h.remote) ∷
    []

unfoldable pub id_to_send : Header → IdBytes
id_to_send h =
    pick h.extended
    (record { bytes = extended_to_send h; count = 4 })
    (record { bytes = standard_to_send h ++ 0 ∷ 0 ∷ []; count = 2 })

-- Table 5, bytes 4 to 7, for both kinds: ID28..21; ID20..18, SRR, IDE, ID17..15; ID14..7; ID6..0, RTR
unfoldable pub id_as_read : Header → List ℕ
id_as_read h =
    bits 28 21 (id_bits h) ∷
    (bits 20 18 (id_bits h) * 32 + flag h.extended * 16 + flag h.extended * 8 + bits 17 15 (id_bits h)) ∷
    bits 14 7 (id_bits h) ∷
    (bits 6 0 (id_bits h) * 2 + flag h.remote) ∷
    []

-- Table 4a, what a filter is held against: ID28..21; ID20..18, RTR, IDE, ID17..15; ID14..7; ID6..0 and a bit that
-- isn't named; the first two data bytes. "bits and bytes that a frame lacks compare as zero"
unfoldable pub compared : Header → List ℕ → List ℕ
compared h bytes =
    bits 28 21 (id_bits h) ∷
    (bits 20 18 (id_bits h) * 32 + flag h.remote * 16 + flag h.extended * 8 + bits 17 15 (id_bits h)) ∷
    bits 14 7 (id_bits h) ∷
    (bits 6 0 (id_bits h) * 2) ∷
    byte (data_of h bytes) 1 ∷
    byte (data_of h bytes) 2 ∷
    []

-- ID28 to ID0 again, from the four bytes of Table 2b or Table 5
abbrev pub id_from : ℕ → ℕ → ℕ → ℕ → ℕ
id_from a b c d = a * 2 ^ 21 + bits 7 5 b * 2 ^ 18 + bits 2 0 b * 2 ^ 15 + c * 2 ^ 7 + bits 7 1 d
