-- The sixteen bytes of a received message (000, Table 5; 01, Transfers), and how its fields are read back from them.
use Rattle.std.specs.Prelude.{List, ◌∷◌, ◌++◌, ℕ, ◌+◌, ◌*◌, ◌/◌, ◌%◌, ◌^◌, drop}
use Rattle.base.specs.Bit.{bits, byte, is_set, time_bytes}
use Rattle.base.specs.Pick.{pick, flag}
use Rattle.frame.specs.declared.Header.{Header}
use Rattle.frame.specs.Length.{data_of}
use Rattle.frame.specs.Tables.{id_as_read, id_from}

-- Byte 1 tells standard from extended in bit 7, and FILHIT2..0 in bits 2 to 0; 2 and 3 the time tag; 4 to 7 the
-- identifier; 8 the length code; 9 to 16 the data.
unfoldable pub received : Header → List ℕ → ℕ → ℕ → List ℕ
received h bytes time filhit =
    (flag h.extended * 128 + filhit % 8) ∷ (time_bytes time ++ id_as_read h ++ h.code % 16 ∷ data_of h bytes)

abbrev pub id_in : List ℕ → ℕ
id_in m = id_from (byte m 4) (byte m 5) (byte m 6) (byte m 7)

-- What a host reads in bytes 4 to 8: a standard identifier is ID28 to ID18.
unfoldable pub header_in : List ℕ → Header
header_in m = record {
  id = pick (is_set 3 (byte m 5)) (id_in m) (id_in m / 2 ^ 18);
  extended = is_set 3 (byte m 5);
  remote = is_set 0 (byte m 7);
  code = byte m 8;
}

-- in bytes 2 and 3
abbrev pub time_in : List ℕ → ℕ
time_in m = byte m 2 * 256 + byte m 3

-- in byte 1
abbrev pub filter_in : List ℕ → ℕ
filter_in m = bits 2 0 (byte m 1)

-- in bytes 9 to 16
abbrev pub data_in : List ℕ → List ℕ
data_in m = drop 8 m
