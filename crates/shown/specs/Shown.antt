-- What each command shows (01, Transfers; 000, Table 1 and the register pages): a function of the state alone.
use Rattle.std.specs.Prelude.{List, [], ◌∷◌, ◌++◌, ℕ, ◌%◌, take, drop, get_or, replicate}
use Rattle.base.specs.Bit.{time_bytes}
use Rattle.base.specs.Pick.{among}
use Rattle.base.specs.Put.{put_of}
use Rattle.levels.specs.Levels.{tec_shown, groups_shown}
use Rattle.fifo.specs.declared.Message.{Message}
use Rattle.fifo.specs.Queue.{next}
use Rattle.chip.specs.declared.Device.{Device}
use Rattle.drawn.specs.Drawn.{statf, err, messtat}
use Rattle.chip.specs.State.{absent}
use Rattle.commands.specs.Verbs.{read_temporary_with_time, read_temporary, read_message_with_time, read_message, read_data_with_time, read_data}
use Rattle.commands.specs.Verbs.{read_filter, read_mask, read_ctrl0, read_ctrl1, read_btr0, read_btr1, read_messtat, read_err, read_intf, read_statf}
use Rattle.commands.specs.Verbs.{read_inte, read_statfe, read_gpine, read_rec, read_tec, read_history, read_recessive_count, read_time}

-- sixteen bytes that begin with these; a reply is the first of them, as many as the table says
abbrev pub padded : List ℕ → List ℕ
padded bytes = put_of bytes (replicate 16 0)

-- a message's first bytes, then those that follow a place
unfoldable pub cut : Message → ℕ → ℕ → List ℕ
cut m first from = padded (take first m.bytes ++ drop from m.bytes)

-- the registers of one byte
abbrev pub registers : Device → List (ℕ × ℕ)
registers d =
    (read_ctrl0, d.regs.ctrl0) ∷
    (read_ctrl1, d.regs.ctrl1) ∷
    (read_btr0, d.regs.btr0) ∷
    (read_btr1, d.regs.btr1) ∷
    (read_messtat, messtat d) ∷
    (read_err, err d) ∷
    (read_intf, d.regs.intf) ∷
    (read_statf, statf d) ∷
    (read_inte, d.regs.inte) ∷
    (read_statfe, d.regs.statfe) ∷
    (read_gpine, d.regs.gpine) ∷
    (read_rec, d.counters.rec) ∷
    (read_tec, tec_shown d.counters) ∷
    (read_recessive_count, groups_shown d.counters) ∷
    []

unfoldable pub register : Device → ℕ → ℕ
register d v = among v (registers d) 0

-- Of a message's bytes 1 to 16: 0x42 shows 2 to 16, 0x44 4 to 16, 0x46 all, 0x48 "bytes 1 and 4 to 16", 0x4A "1 to 3
-- and 9 to 16", 0x4C "1 and 9 to 16"; 0xEE shows 1 to 3 of a sent message, its tag and time tag.
abbrev pub views : Device → ℕ → List (ℕ × List ℕ)
views d k =
    (read_temporary_with_time, cut d.temp 0 1) ∷
    (read_temporary, cut d.temp 0 3) ∷
    (read_message_with_time, cut (next d.rx) 0 0) ∷
    (read_message, cut (next d.rx) 1 3) ∷
    (read_data_with_time, cut (next d.rx) 3 8) ∷
    (read_data, cut (next d.rx) 1 8) ∷
    (read_filter, padded (get_or d.filters (k % 8) absent).bytes) ∷
    (read_mask, padded (get_or d.masks (k % 8) absent).bytes) ∷
    (read_history, cut (next d.history) 3 16) ∷
    (read_time, padded (time_bytes d.time)) ∷
    []

unfoldable pub shows : Device → ℕ → ℕ → List ℕ
shows d v k = among v (views d k) (padded (register d v ∷ []))
