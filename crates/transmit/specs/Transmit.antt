-- A transmission, from its start to each of its ends (01, Bus events; 000, CTRL1 and the transmit history).
use Rattle.std.specs.Prelude.{Bool, not, ◌&&◌, ◌||◌, ◌∷◌, ◌++◌, ℕ, ◌+◌, ◌*◌, ◌/◌, ◌%◌, eqb, drop}
use Rattle.base.specs.Bit.{byte, time_bytes}
use Rattle.base.specs.Pick.{pick}
use Rattle.counters.specs.declared.Counters.{Counters}
use Rattle.counters.specs.Rules.{completed}
use Rattle.fifo.specs.declared.Fifo.{Fifo}
use Rattle.fifo.specs.declared.Message.{Message}
use Rattle.fifo.specs.Queue.{empty, is_empty, put, take, next}
use Rattle.chip.specs.declared.Device.{Device}
use Rattle.chip.specs.declared.Registers.{Registers}
use Rattle.chip.specs.Parts.{with_regs, with_ctrl1, with_mtag, with_counters, with_tx, with_buffer, with_sending, with_history}
use Rattle.chip.specs.State.{normal, loopback, unless_monitor, idle, first_in_fifo, alone, osm, enabled}
use Rattle.flags.specs.Flags.{raised, txcplt}

-- the modes that can send
unfoldable pub sends : ℕ → Bool
sends acting = eqb acting normal || eqb acting loopback

-- A begin is impossible "while one runs, with nothing to send or no enable or in a mode that can't send or in bus off".
unfoldable pub can_begin : Device → Bool
can_begin d =
    eqb d.sending idle && (not (is_empty d.tx) && (enabled d && (sends d.acting && not d.counters.busoff)))

-- CTRL1 with its bit 6 at 0
unfoldable pub without_tx1m : ℕ → ℕ
without_tx1m ctrl1 = ctrl1 / 128 * 128 + ctrl1 % 64

-- 000, CTRL1: TX1M is reset "by initiation of transmission if the OSM bit is set"
unfoldable pub ctrl1_begun : ℕ → ℕ
ctrl1_begun ctrl1 = pick (osm ctrl1) (without_tx1m ctrl1) ctrl1

-- "A begun message is copied to the transmit buffer and leaves the FIFO when completed."
unfoldable pub begun : Device → Device
begun d =
    with_sending
    (with_buffer (with_regs d (with_ctrl1 d.regs (ctrl1_begun d.regs.ctrl1))) (next d.tx))
    first_in_fifo

-- "abort, an error or lost arbitration leaves it first in the FIFO"; after 0x54, "if it fails or is aborted it is gone"
unfoldable pub stopped : Device → Device
stopped d = with_sending d idle

-- CTRL1 with TXEN and TX1M at 0
abbrev pub disabled : Registers → Registers
disabled r = with_ctrl1 r (r.ctrl1 % 64)

-- 0x52: "stops current transmission and resets TXEN & TX1M"
unfoldable pub aborted : Device → Device
aborted d = stopped (with_regs d (disabled d.regs))

-- 0x54: "the current message may still complete", out of the FIFO
unfoldable pub left_alone : ℕ → ℕ
left_alone sending = pick (eqb sending idle) idle alone

-- 0x54 "empties the FIFO, and the current message may still complete"; it "resets TXEN & TX1M"
unfoldable pub cleared : Device → Device
cleared d = with_sending (with_tx (with_regs d (disabled d.regs)) empty) (left_alone d.sending)

-- the time tag in bytes 2 and 3
unfoldable pub stamped : Message → ℕ → Message
stamped m time = record { bytes = byte m.bytes 1 ∷ (time_bytes time ++ drop 3 m.bytes) }

-- The completed message "leaves the FIFO when completed", unless 0x54 took it out before. "After 0x54 during a
-- transmission, a new message is written and the old completion removes it. It must stay."
unfoldable pub fifo_after : Fifo → ℕ → Fifo
fifo_after tx sending = pick (eqb sending first_in_fifo) (take tx) tx

-- "Completed: TEC - 1, not below 0."
unfoldable pub counted_completion : Counters → ℕ → Counters
counted_completion c acting = unless_monitor acting c (completed c)

-- MTAG is "the last two bits of the host assigned message tag of the last successful transmission".
abbrev pub tag_bits : Message → ℕ
tag_bits m = byte m.bytes 1 % 4

-- TX1M "is reset automatically upon completion". "Completion adds tag and time tag to the history; … a ninth is not
-- stored."
unfoldable pub transmitted : Device → Device
transmitted d =
    raised
    (with_history
    (with_sending
    (with_tx
    (with_counters
    (with_regs d (with_mtag (with_ctrl1 d.regs (without_tx1m d.regs.ctrl1)) (tag_bits d.buffer)))
    (counted_completion d.counters d.acting))
    (fifo_after d.tx d.sending))
    idle)
    (put d.history (stamped d.buffer d.time)))
    txcplt
