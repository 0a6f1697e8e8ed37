-- The commands, in the order of 000's Table 1 (01, Transfers: "one constant table: command, bytes in, bytes out").
use Rattle.std.specs.Prelude.{Bool, ◌||◌, List, [], ◌∷◌, ℕ, suc, eqb, Option, Some, None}
use Rattle.base.specs.Pick.{pick}
use Rattle.commands.specs.declared.Row.{Row}
use Rattle.commands.specs.Verbs.{read_temporary_with_time, read_temporary, read_message_with_time, read_message, read_data_with_time, read_data}
use Rattle.commands.specs.Verbs.{read_filter, read_mask, read_ctrl0, read_ctrl1, read_btr0, read_btr1, read_messtat, read_err, read_intf, read_statf}
use Rattle.commands.specs.Verbs.{read_inte, read_statfe, read_gpine, read_rec, read_tec, read_history, read_recessive_count, read_time, abort_transmission}
use Rattle.commands.specs.Verbs.{clear_transmit, master_reset, reset_time, clear_receive, write_message, write_ctrl0, write_ctrl1, write_btr0}
use Rattle.commands.specs.Verbs.{write_btr1, write_inte, write_statfe, write_gpine, write_rec, write_tec, write_filter, write_mask}

-- command, fewest and most bytes after it, bytes of its reply, what it is for, and of which filter or mask
abbrev pub row : ℕ → ℕ → ℕ → ℕ → ℕ → ℕ → Row
row c lo hi o v k = record { command = c; least = lo; most = hi; out = o; verb = v; index = k }

-- "A read, reset or abort is the command byte alone"
abbrev pub read_row : ℕ → ℕ → ℕ → Row
read_row c o v = row c 0 0 o v 0

abbrev pub reset_row : ℕ → ℕ → Row
reset_row c v = row c 0 0 0 v 0

-- "filter and mask reads give 6"
abbrev pub read_of : ℕ → ℕ → ℕ → Row
read_of c v k = row c 0 0 6 v k

-- "a register write has 1 byte after it, a filter or mask write 6"
abbrev pub write_row : ℕ → ℕ → Row
write_row c v = row c 1 1 0 v 0

abbrev pub write_to : ℕ → ℕ → ℕ → Row
write_to c v k = row c 6 6 0 v k

-- 01, What the device stands between: outside are "… and commands 0x4E, 0xF4 and 0xF6". No row has one of them:
-- `table_rule` in proofs/Rows.
abbrev pub factory : ℕ → Bool
factory c = eqb c 0x4E || (eqb c 0xF4 || eqb c 0xF6)

unfoldable pub rows : List Row
rows =
    read_row 0x42 15 read_temporary_with_time ∷
    read_row 0x44 13 read_temporary ∷
    read_row 0x46 16 read_message_with_time ∷
    read_row 0x48 14 read_message ∷
    read_row 0x4A 11 read_data_with_time ∷
    read_row 0x4C 9 read_data ∷
    read_of 0xA2 read_filter 0 ∷
    read_of 0xA4 read_filter 1 ∷
    read_of 0xA6 read_filter 2 ∷
    read_of 0xA8 read_filter 3 ∷
    read_of 0xAA read_filter 4 ∷
    read_of 0xAC read_filter 5 ∷
    read_of 0xAE read_filter 6 ∷
    read_of 0xB2 read_filter 7 ∷
    read_of 0xB4 read_mask 0 ∷
    read_of 0xB6 read_mask 1 ∷
    read_of 0xB8 read_mask 2 ∷
    read_of 0xBA read_mask 3 ∷
    read_of 0xBC read_mask 4 ∷
    read_of 0xBE read_mask 5 ∷
    read_of 0xC2 read_mask 6 ∷
    read_of 0xC4 read_mask 7 ∷
    read_row 0xD2 1 read_ctrl0 ∷
    read_row 0xD4 1 read_ctrl1 ∷
    read_row 0xD6 1 read_btr0 ∷
    read_row 0xD8 1 read_btr1 ∷
    read_row 0xDA 1 read_messtat ∷
    read_row 0xDC 1 read_err ∷
    read_row 0xDE 1 read_intf ∷
    read_row 0xE2 1 read_statf ∷
    read_row 0xE4 1 read_inte ∷
    read_row 0xE6 1 read_statfe ∷
    read_row 0xE8 1 read_gpine ∷
    read_row 0xEA 1 read_rec ∷
    read_row 0xEC 1 read_tec ∷
    read_row 0xEE 3 read_history ∷
    read_row 0xF8 1 read_recessive_count ∷
    read_row 0xFA 2 read_time ∷
    reset_row 0x52 abort_transmission ∷
    reset_row 0x54 clear_transmit ∷
    reset_row 0x56 master_reset ∷
    reset_row 0x58 reset_time ∷
    reset_row 0x5A clear_receive ∷
    row 0x12 4 14 0 write_message 0 ∷
    write_row 0x14 write_ctrl0 ∷
    write_row 0x16 write_ctrl1 ∷
    write_row 0x18 write_btr0 ∷
    write_row 0x1A write_btr1 ∷
    write_row 0x1C write_inte ∷
    write_row 0x1E write_statfe ∷
    write_row 0x22 write_gpine ∷
    write_row 0x24 write_rec ∷
    write_row 0x26 write_tec ∷
    write_to 0x62 write_filter 0 ∷
    write_to 0x64 write_filter 1 ∷
    write_to 0x66 write_filter 2 ∷
    write_to 0x68 write_filter 3 ∷
    write_to 0x6A write_filter 4 ∷
    write_to 0x6C write_filter 5 ∷
    write_to 0x6E write_filter 6 ∷
    write_to 0x72 write_filter 7 ∷
    write_to 0x74 write_mask 0 ∷
    write_to 0x76 write_mask 1 ∷
    write_to 0x78 write_mask 2 ∷
    write_to 0x7A write_mask 3 ∷
    write_to 0x7C write_mask 4 ∷
    write_to 0x7E write_mask 5 ∷
    write_to 0x82 write_mask 6 ∷
    write_to 0x84 write_mask 7 ∷
    []

-- the row whose command it is, the first if there were two
abbrev pub lookup : List Row → ℕ → Option Row
lookup [] c = None
lookup (r ∷ rs) c = pick (eqb r.command c) (Some r) (lookup rs c)

-- the place of that row, past the last if there is none
abbrev pub place_in : List Row → ℕ → ℕ
place_in [] c = 0
place_in (r ∷ rs) c = pick (eqb r.command c) 0 (suc (place_in rs c))
