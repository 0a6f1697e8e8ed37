-- The commands, by their bytes (01, Transfers; 000, Table 1). The promises go by these, and not by the table that the
-- device looks into.
use Rattle.std.specs.Prelude.{Bool, true, false, ◌&&◌, List, [], ◌∷◌, ◌++◌, map, ℕ, suc, ◌+◌, eqb, leb, length, drop}
use Rattle.base.specs.Bit.{byte}
use Rattle.base.specs.Pick.{pick, among}
use Rattle.promise.specs.Own.{message_fits}

-- ---- groups of commands

-- 0x46 to 0x4C, which read a message and take it
abbrev pub message_reads : List ℕ
message_reads = 0x46 ∷ 0x48 ∷ 0x4A ∷ 0x4C ∷ []

-- "Filter and mask commands skip numbers (filter 6: 0xAE, 7: 0xB2)": of filters and masks 0 to 7
abbrev pub filter_reads : List ℕ
filter_reads = 0xA2 ∷ 0xA4 ∷ 0xA6 ∷ 0xA8 ∷ 0xAA ∷ 0xAC ∷ 0xAE ∷ 0xB2 ∷ []

abbrev pub mask_reads : List ℕ
mask_reads = 0xB4 ∷ 0xB6 ∷ 0xB8 ∷ 0xBA ∷ 0xBC ∷ 0xBE ∷ 0xC2 ∷ 0xC4 ∷ []

abbrev pub filter_writes : List ℕ
filter_writes = 0x62 ∷ 0x64 ∷ 0x66 ∷ 0x68 ∷ 0x6A ∷ 0x6C ∷ 0x6E ∷ 0x72 ∷ []

abbrev pub mask_writes : List ℕ
mask_writes = 0x74 ∷ 0x76 ∷ 0x78 ∷ 0x7A ∷ 0x7C ∷ 0x7E ∷ 0x82 ∷ 0x84 ∷ []

-- CTRL0, CTRL1, BTR0, BTR1, MESSTAT, ERR, INTF, STATF, INTE, STATFE, GPINE, REC, TEC and the recessive groups
abbrev pub register_reads : List ℕ
register_reads = 0xD2 ∷ 0xD4 ∷ 0xD6 ∷ 0xD8 ∷ 0xDA ∷ 0xDC ∷ 0xDE ∷ 0xE2 ∷ 0xE4 ∷ 0xE6 ∷ 0xE8 ∷ 0xEA ∷ 0xEC ∷ 0xF8 ∷ []

-- CTRL0, CTRL1, BTR0, BTR1, INTE, STATFE, GPINE, REC, TEC
abbrev pub register_writes : List ℕ
register_writes = 0x14 ∷ 0x16 ∷ 0x18 ∷ 0x1A ∷ 0x1C ∷ 0x1E ∷ 0x22 ∷ 0x24 ∷ 0x26 ∷ []

-- abort, clear the transmit FIFO, master reset, reset the time tag, clear the receive FIFO
abbrev pub resets : List ℕ
resets = 0x52 ∷ 0x54 ∷ 0x56 ∷ 0x58 ∷ 0x5A ∷ []

-- ---- tables keyed by commands, for `among`

-- a group's commands, each with the same
abbrev pub same_for : {A : Type 0} → List ℕ → A → List (ℕ × A)
same_for [] a = []
same_for (c ∷ cs) a = (c, a) ∷ same_for cs a

-- a group's commands, each with what its number makes, from number k on
abbrev pub numbered : {A : Type 0} → ℕ → List ℕ → (ℕ → A) → List (ℕ × A)
numbered k [] f = []
numbered k (c ∷ cs) f = (c, f k) ∷ numbered (suc k) cs f

abbrev pub one_of : ℕ → List ℕ → Bool
one_of c cs = among c (same_for cs true) false

-- 5 speaks of "a filter, mask or bit-timing write"
unfoldable pub sets_up : ℕ → Bool
sets_up c = one_of c (0x18 ∷ 0x1A ∷ filter_writes ++ mask_writes)

-- ---- how long they are

pub record Lengths : Type 0 where
  -- the fewest and the most bytes after the command
  pub least : ℕ
  pub most : ℕ
  -- the bytes of the reply
  pub out : ℕ

-- "A read, reset or abort is the command byte alone"
abbrev pub by_itself : ℕ → Lengths
by_itself out = record { least = 0; most = 0; out = out }

abbrev pub followed : ℕ → ℕ → Lengths
followed least most = record { least = least; most = most; out = 0 }

abbrev pub lengths : List (ℕ × Lengths)
lengths =
    same_for resets (by_itself 0) ++
    -- "a register write has 1 byte after it, a filter or mask write 6"
    same_for register_writes (followed 1 1) ++
    same_for filter_writes (followed 6 6) ++
    same_for mask_writes (followed 6 6) ++
    -- "0x42 gives 15 bytes, 0x44 13, 0x46 16, 0x48 14, 0x4A 11, 0x4C 9, 0xEE 3, 0xFA 2"
    (0x42, by_itself 15) ∷ (0x44, by_itself 13) ∷ (0x46, by_itself 16) ∷ (0x48, by_itself 14) ∷ (0x4A, by_itself 11) ∷
    (0x4C, by_itself 9) ∷ (0xEE, by_itself 3) ∷ (0xFA, by_itself 2) ∷
    -- "filter and mask reads give 6, other register reads 1"
    same_for filter_reads (by_itself 6) ++
    same_for mask_reads (by_itself 6) ++
    same_for register_reads (by_itself 1) ++
    -- "0x12 takes 4 to 12 bytes after it for a standard frame, 6 to 14 for an extended one"
    (0x12, followed 4 14) ∷
    []

-- 000's Table 1 has these commands, "and commands 0x4E, 0xF4 and 0xF6" are outside
unfoldable pub is_command : ℕ → Bool
is_command c = one_of c (map (λ l. l.0) lengths)

unfoldable pub lengths_of : ℕ → Lengths
lengths_of c = among c lengths (by_itself 0)

unfoldable pub transfer_fits : List ℕ → Bool
transfer_fits bytes =
    let l = lengths_of (byte bytes 1) in
    leb (l.least + 1) (length bytes) &&
    (leb (length bytes) (l.most + 1) && pick (eqb (byte bytes 1) 0x12) (message_fits (drop 1 bytes)) true)
