-- Bits and bytes, numbered as 000 numbers them: bit 0 is the lowest, 7 the highest of a byte; bytes count from 1.
use Rattle.std.specs.Prelude.{Bool, List, [], ◌∷◌, ℕ, suc, pred, ◌-◌, ◌/◌, ◌%◌, ◌^◌, eqb, get_or}

abbrev pub bit : ℕ → ℕ → ℕ
bit i x = x / 2 ^ i % 2

abbrev pub is_set : ℕ → ℕ → Bool
is_set i x = eqb (bit i x) 1

-- bits hi to lo of a number, as the tables write "ID28 to ID21"
abbrev pub bits : ℕ → ℕ → ℕ → ℕ
bits hi lo x = x / 2 ^ lo % 2 ^ (suc hi - lo)

-- byte k of a table, and 0 past its end
abbrev pub byte : List ℕ → ℕ → ℕ
byte table k = get_or table (pred k) 0

-- the time tag's two bytes, the upper first
abbrev pub time_bytes : ℕ → List ℕ
time_bytes time = time / 256 ∷ time % 256 ∷ []
