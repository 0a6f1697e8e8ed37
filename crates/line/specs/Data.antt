-- The data of a request: `B B …`, any number of bytes, also none.
use Rattle.std.specs.Prelude.{Bool, true, ◌&&◌, List, [], ◌∷◌, ◌++◌, map, ℕ, ◌+◌, ◌-◌, Ok, Err, ltb, length, take, set, replicate}
use Rattle.base.specs.Pick.{pick}
use Rattle.line.specs.declared.Expected.TheVariants.{Byte}
use Rattle.line.specs.declared.data.Data.{Data}
use Rattle.line.specs.Numbers.{value_of, is_byte}
use Rattle.line.specs.Steps.{Read}

abbrev pub are_bytes : List (List ℕ) → Bool
are_bytes [] = true
are_bytes (w ∷ ws) = is_byte w && are_bytes ws

-- where not all are bytes, the first that isn't
abbrev pub first_other : List (List ℕ) → List ℕ
first_other [] = []
first_other (w ∷ ws) = pick (is_byte w) (first_other ws) w

-- Of more than sixteen the first sixteen are kept and counted. No command takes more than fifteen and no frame has
-- more than eight, so sixteen are refused as more would be.
abbrev pub kept : List (List ℕ) → List ℕ
kept ws = take 16 (map (value_of 16) ws)

abbrev pub padded : List ℕ → List ℕ
padded bytes = bytes ++ replicate (16 - length bytes) 0

-- as much of a word as a line keeps
abbrev pub head : List ℕ → List ℕ
head w = padded (take 16 w)

abbrev pub held : List ℕ → Data
held bytes = record { bytes = padded bytes; count = length bytes }

unfoldable pub data_of : List (List ℕ) → Read Data
data_of ws = pick (are_bytes ws) (Ok (held (kept ws))) (Err (Byte, first_other ws))

-- ---- for the reader's own steps

-- one byte more, as long as there are fewer than sixteen
unfoldable pub keep_of : Data → ℕ → Data
keep_of d b = pick (ltb d.count 16) (record { bytes = set d.bytes d.count b; count = d.count + 1 }) d
