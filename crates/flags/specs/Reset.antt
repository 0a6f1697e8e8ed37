-- A master reset: 0x56, the MR pin, and a write of CTRL0's RESET bit.
use Rattle.chip.specs.declared.Device.{Device}
use Rattle.chip.specs.Parts.{with_errs, with_last}
use Rattle.chip.specs.State.{fresh}

-- What power-up gives, but for what outlives a reset. 01: "ERR keeps its bits over a reset; so do REC, TEC and bus
-- off"; 000: the filter and mask bits are not reset; 02, g): an arrival number is "not reset by anything". The TXEN pin
-- is a wire and keeps its level.
unfoldable pub reset : Device → Device
reset d = record {
  regs = with_errs fresh.regs d.regs.errs;
  counters = d.counters;
  serials = with_last fresh.serials d.serials.last;
  filters = d.filters;
  masks = d.masks;
  rx = fresh.rx;
  temp = fresh.temp;
  tx = fresh.tx;
  buffer = fresh.buffer;
  sending = fresh.sending;
  history = fresh.history;
  time = fresh.time;
  txenpin = d.txenpin;
  acting = fresh.acting;
}
