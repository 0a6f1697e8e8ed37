-- What each command does to the device (01, Transfers, and the rules of transmit, modes and flags; 000, Table 1).
-- `bytes` is the whole transfer: byte 1 is the command.
use Rattle.std.specs.Prelude.{List, [], ◌∷◌, ℕ, ◌%◌, eqb, length, drop, set, unwrap_or}
use Rattle.base.specs.Bit.{byte}
use Rattle.base.specs.Pick.{pick, among}
use Rattle.counters.specs.Rules.{test_rec, test_tec}
use Rattle.fifo.specs.declared.Message.{Message}
use Rattle.fifo.specs.Queue.{empty, put, take}
use Rattle.to_send.specs.ToSend.{message_of, no_message, stored}
use Rattle.chip.specs.declared.Device.{Device}
use Rattle.chip.specs.declared.Pattern.{Pattern}
use Rattle.chip.specs.declared.Registers.{Registers}
use Rattle.chip.specs.Parts.{with_regs, with_ctrl1, with_btr0, with_btr1, with_inte, with_statfe, with_gpine, with_intf, with_errs}
use Rattle.chip.specs.Parts.{with_counters, with_filters, with_masks, with_rx, with_tx, with_history, with_time}
use Rattle.commands.specs.Verbs.{read_message_with_time, read_message, read_data_with_time, read_data, read_err, read_intf, read_history}
use Rattle.commands.specs.Verbs.{abort_transmission, clear_transmit, master_reset, reset_time, clear_receive, write_message, write_ctrl0}
use Rattle.commands.specs.Verbs.{write_ctrl1, write_btr0, write_btr1, write_inte, write_statfe, write_gpine, write_rec, write_tec}
use Rattle.commands.specs.Verbs.{write_filter, write_mask}
use Rattle.modes.specs.Modes.{ctrl0_written}
use Rattle.flags.specs.Reset.{reset}
use Rattle.transmit.specs.Transmit.{aborted, cleared}

-- the six bytes after the command
unfoldable pub pattern : List ℕ → Pattern
pattern bytes = record {
  bytes = byte bytes 2 ∷ byte bytes 3 ∷ byte bytes 4 ∷ byte bytes 5 ∷ byte bytes 6 ∷ byte bytes 7 ∷ [];
}

-- "ERR bits 4 to 0 clear when read"; 000, INTF: "Reading this register will clear all bits"
abbrev pub register_deeds : Registers → ℕ → List (ℕ × Registers)
register_deeds r value =
    (read_err, with_errs r 0) ∷
    (read_intf, with_intf r 0) ∷
    (write_ctrl1, with_ctrl1 r value) ∷
    (write_btr0, with_btr0 r value) ∷
    (write_btr1, with_btr1 r value) ∷
    (write_inte, with_inte r value) ∷
    (write_statfe, with_statfe r value) ∷
    (write_gpine, with_gpine r value) ∷
    []

unfoldable pub registers_after : Registers → ℕ → ℕ → Registers
registers_after r v value = among v (register_deeds r value) r

unfoldable pub register_changed : Device → ℕ → ℕ → Device
register_changed d v value = with_regs d (registers_after d.regs v value)

-- a read takes the oldest message
unfoldable pub message_taken : Device → Device
message_taken d = with_rx d (take d.rx)

-- and 0xEE the oldest entry
unfoldable pub entry_taken : Device → Device
entry_taken d = with_history d (take d.history)

-- 0x5A
unfoldable pub receive_cleared : Device → Device
receive_cleared d = with_rx d empty

-- 0x58
unfoldable pub time_reset : Device → Device
time_reset d = with_time d 0

-- the message of 0x12, as it is kept
abbrev pub message_brought : List ℕ → Message
message_brought bytes = record { bytes = stored (unwrap_or (message_of (drop 1 bytes)) no_message) }

-- 0x12: the message comes last in the transmit FIFO. Without a command byte there is none.
unfoldable pub message_written : Device → List ℕ → Device
message_written d bytes = pick (eqb (length bytes) 0) d (with_tx d (put d.tx (message_brought bytes)))

unfoldable pub filter_written : Device → ℕ → Pattern → Device
filter_written d k p = with_filters d (set d.filters (k % 8) p)

unfoldable pub mask_written : Device → ℕ → Pattern → Device
mask_written d k p = with_masks d (set d.masks (k % 8) p)

-- 0x24 and 0x26, "for test purposes"
unfoldable pub rec_written : Device → ℕ → Device
rec_written d value = with_counters d (test_rec d.counters value)

unfoldable pub tec_written : Device → ℕ → Device
tec_written d value = with_counters d (test_tec d.counters value)

-- the commands that have a rule of their own, and what each does
abbrev pub deeds : Device → ℕ → List ℕ → List (ℕ × Device)
deeds d k bytes =
    (read_message_with_time, message_taken d) ∷
    (read_message, message_taken d) ∷
    (read_data_with_time, message_taken d) ∷
    (read_data, message_taken d) ∷
    (read_history, entry_taken d) ∷
    (abort_transmission, aborted d) ∷
    (clear_transmit, cleared d) ∷
    (master_reset, reset d) ∷
    (reset_time, time_reset d) ∷
    (clear_receive, receive_cleared d) ∷
    (write_message, message_written d bytes) ∷
    (write_ctrl0, ctrl0_written d (byte bytes 2)) ∷
    (write_rec, rec_written d (byte bytes 2)) ∷
    (write_tec, tec_written d (byte bytes 2)) ∷
    (write_filter, filter_written d k (pattern bytes)) ∷
    (write_mask, mask_written d k (pattern bytes)) ∷
    []

unfoldable pub does : Device → ℕ → ℕ → List ℕ → Device
does d v k bytes = among v (deeds d k bytes) (register_changed d v (byte bytes 2))
