-- Which filters match, as one byte, and what is told of it: FILHIT, and how many (02, c); 01, Modes and filters; 000,
-- MESSTAT).
use Rattle.std.specs.Prelude.{Bool, List, [], ℕ, zero, suc, ◌+◌, ◌*◌, ◌^◌, get_or}
use Rattle.base.specs.Bit.{bit, is_set}
use Rattle.base.specs.Pick.{pick, flag}
use Rattle.filter.specs.Match.{matches}

-- Of n numbered things those of which a question says yes, as one number: bit k is set exactly if it says so of k
-- (`set_bit`, proofs/Sets). It is said of any question, so that other engines and parts of a bank can cite it.
abbrev pub set_of : ℕ → (ℕ → Bool) → ℕ
set_of zero says = 0
set_of (suc n) says = flag (says n) * 2 ^ n + set_of n says

-- whether filter k of a bank matches
abbrev pub matches_at : List (List ℕ) → List (List ℕ) → List ℕ → ℕ → Bool
matches_at bank masks vector k = matches vector (get_or bank k []) (get_or masks k [])

-- 02: "which filters match, as one byte, a bit for each filter"; 01: "There are eight filters and eight masks"
unfoldable pub hits : List (List ℕ) → List (List ℕ) → List ℕ → ℕ
hits bank masks vector = set_of 8 (matches_at bank masks vector)

-- of n filters from number k on, the lowest in a set
abbrev pub lowest_from : ℕ → ℕ → ℕ → ℕ
lowest_from zero k set = 0b0000
lowest_from (suc n) k set = pick (is_set k set) (0b1000 + k) (lowest_from n (suc k) set)

-- "FILHIT shows the lowest match, 1000 for filter 0 to 1111 for filter 7, else 0000"
unfoldable pub filhit : ℕ → ℕ
filhit set = lowest_from 8 0 set

-- of the first n filters, how many are in a set
abbrev pub count_in : ℕ → ℕ → ℕ
count_in zero set = 0
count_in (suc n) set = bit n set + count_in n set

-- 01, Forms: "count of ones tells how many filters hit"
unfoldable pub how_many : ℕ → ℕ
how_many set = count_in 8 set
