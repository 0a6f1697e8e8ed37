-- When a filter matches, bit by bit (01, Modes and filters; 000, Tables 4a and 4b). A filter, its mask and what a
-- frame is compared by are six bytes each; their 48 places are numbered from 0 in the tables' order, from bit 7 of
-- byte 1 to bit 0 of byte 6.
use Rattle.std.specs.Prelude.{Bool, true, ◌&&◌, ◌||◌, List, ℕ, zero, suc, ◌-◌, ◌*◌, ◌/◌, ◌%◌, eqb, get_or, set}
use Rattle.base.specs.Bit.{bit}
use Rattle.base.specs.Pick.{pick}

-- the bit at place k of a byte's eight, the highest first
abbrev pub bit_from_top : ℕ → ℕ → ℕ
bit_from_top x k = bit (7 - k) x

-- the bit at place k of the 48
abbrev pub bit_at_place : List ℕ → ℕ → ℕ
bit_at_place bytes k = bit_from_top (get_or bytes (k / 8) 0) (k % 8)

-- "4b says which mask bits count": all but bit 0 of byte 4, which it doesn't name. 47 places count.
abbrev pub uncounted : ℕ
uncounted = 31

abbrev pub counted_of : List ℕ → ℕ → ℕ
counted_of mask k = pick (eqb k uncounted) 0 (bit_at_place mask k)

-- "A filter matches when all counted bits agree": at each of the first n places the mask has 0, or frame and filter
-- are alike. It is said of any bits and any number of them, so that another device, or an engine that walks, can cite
-- it.
abbrev pub agree : ℕ → (ℕ → ℕ) → (ℕ → ℕ) → (ℕ → ℕ) → Bool
agree zero frame filter mask = true
agree (suc n) frame filter mask = agree n frame filter mask && (eqb (mask n) 0 || eqb (frame n) (filter n))

unfoldable pub matches : List ℕ → List ℕ → List ℕ → Bool
matches vector filter mask = agree 48 (bit_at_place vector) (bit_at_place filter) (counted_of mask)

-- ---- for the code's own step

-- a mask without the bit that doesn't count; `counted_place` (proofs/Bytes) holds it against the rule
abbrev pub counted : List ℕ → List ℕ
counted mask = set mask 3 (get_or mask 3 0 / 2 * 2)
