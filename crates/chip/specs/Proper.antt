-- When a device is one that the chip can be in (01, Numbers given back: 1 is given for "a count, place or field
-- outside its range").
use Rattle.std.specs.Prelude.{Bool, ◌&&◌, ℕ, eqb, leb}
use Rattle.base.specs.Pick.{pick}
use Rattle.fifo.specs.Queue.{in_range}
use Rattle.chip.specs.declared.Device.{Device}
use Rattle.chip.specs.declared.Registers.{Registers}
use Rattle.chip.specs.State.{mode_of, sleep, initialization, first_in_fifo, alone}

-- ERR has five bits of its own, MTAG two. Every other register may hold any byte.
unfoldable pub registers_in_range : Registers → Bool
registers_in_range r = leb r.errs 31 && leb r.mtag 3

-- A message that runs as the first in the transmit FIFO is in it.
abbrev pub sending_fits : ℕ → ℕ → Bool
sending_fits sending waiting = pick (eqb sending first_in_fifo) (leb 1 waiting) (leb sending alone)

unfoldable pub sending_in_range : Device → Bool
sending_in_range d = sending_fits d.sending d.tx.count

-- The acting mode is the one that MODE names; while MODE names sleep, an earlier one may still act.
abbrev pub acting_fits : ℕ → ℕ → Bool
acting_fits acting ctrl0 = pick (eqb (mode_of ctrl0) sleep) (leb acting initialization) (eqb acting (mode_of ctrl0))

unfoldable pub acting_in_range : Device → Bool
acting_in_range d = acting_fits d.acting d.regs.ctrl0

unfoldable pub proper : Device → Bool
proper d =
    in_range d.rx && (in_range d.tx && (in_range d.history &&
    (registers_in_range d.regs && (leb d.counters.groups 128 && (sending_in_range d && acting_in_range d)))))
