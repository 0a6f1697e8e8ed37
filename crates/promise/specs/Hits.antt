-- A set of filters as one byte, and the lowest of it (02, c); 01, Modes and filters).
use Rattle.std.specs.Prelude.{Bool, List, [], ◌∷◌, ℕ, ◌+◌, ◌*◌}
use Rattle.base.specs.Bit.{is_set}
use Rattle.base.specs.Pick.{pick, flag}

-- "There are eight filters"
abbrev pub eight : List ℕ
eight = 0 ∷ 1 ∷ 2 ∷ 3 ∷ 4 ∷ 5 ∷ 6 ∷ 7 ∷ []

-- "a bit for each filter": a yes or no for each, the first in the lowest bit
abbrev pub as_bits : List Bool → ℕ
as_bits [] = 0
as_bits (b ∷ bs) = flag b + 2 * as_bits bs

-- of these filters, the first in a set
abbrev pub first_in : ℕ → List ℕ → ℕ
first_in set [] = 0b0000
first_in set (k ∷ ks) = pick (is_set k set) (0b1000 + k) (first_in set ks)

-- FILHIT: "the lowest match, 1000 for filter 0 to 1111 for filter 7, else 0000"
unfoldable pub filhit_of : ℕ → ℕ
filhit_of set = first_in set eight
