-- The four output pins (000, INTE, STATFE and GPINE): GPINE's low half picks GP1's flag, its high half GP2's.
use Rattle.std.specs.Prelude.{◌/◌, ◌%◌}
use Rattle.chip.specs.declared.Device.{Device}
use Rattle.drawn.specs.Drawn.{int, stat, gp}
use Rattle.bus.specs.declared.types.Pins.{Pins}

unfoldable pub pins : Device → Pins
pins d = record { int = int d; stat = stat d; gp1 = gp d (d.regs.gpine % 16); gp2 = gp d (d.regs.gpine / 16) }
