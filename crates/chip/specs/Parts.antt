-- A register file, the arrival numbers or a device with one part changed: how the rules say "the same, but". One for
-- each part that a rule changes.
use Rattle.std.specs.Prelude.{Bool, List, ℕ}
use Rattle.counters.specs.declared.Counters.{Counters}
use Rattle.fifo.specs.declared.Fifo.{Fifo}
use Rattle.fifo.specs.declared.Message.{Message}
use Rattle.chip.specs.declared.Device.{Device}
use Rattle.chip.specs.declared.Pattern.{Pattern}
use Rattle.chip.specs.declared.Registers.{Registers}
use Rattle.chip.specs.declared.Serials.{Serials}

abbrev pub with_ctrl0 : Registers → ℕ → Registers
with_ctrl0 r v = record { ctrl0 = v; ctrl1 = r.ctrl1; btr0 = r.btr0; btr1 = r.btr1; inte = r.inte; statfe = r.statfe; gpine = r.gpine; intf = r.intf; errs = r.errs; hits = r.hits; mtag = r.mtag }

abbrev pub with_ctrl1 : Registers → ℕ → Registers
with_ctrl1 r v = record { ctrl0 = r.ctrl0; ctrl1 = v; btr0 = r.btr0; btr1 = r.btr1; inte = r.inte; statfe = r.statfe; gpine = r.gpine; intf = r.intf; errs = r.errs; hits = r.hits; mtag = r.mtag }

abbrev pub with_btr0 : Registers → ℕ → Registers
with_btr0 r v = record { ctrl0 = r.ctrl0; ctrl1 = r.ctrl1; btr0 = v; btr1 = r.btr1; inte = r.inte; statfe = r.statfe; gpine = r.gpine; intf = r.intf; errs = r.errs; hits = r.hits; mtag = r.mtag }

abbrev pub with_btr1 : Registers → ℕ → Registers
with_btr1 r v = record { ctrl0 = r.ctrl0; ctrl1 = r.ctrl1; btr0 = r.btr0; btr1 = v; inte = r.inte; statfe = r.statfe; gpine = r.gpine; intf = r.intf; errs = r.errs; hits = r.hits; mtag = r.mtag }

abbrev pub with_inte : Registers → ℕ → Registers
with_inte r v = record { ctrl0 = r.ctrl0; ctrl1 = r.ctrl1; btr0 = r.btr0; btr1 = r.btr1; inte = v; statfe = r.statfe; gpine = r.gpine; intf = r.intf; errs = r.errs; hits = r.hits; mtag = r.mtag }

abbrev pub with_statfe : Registers → ℕ → Registers
with_statfe r v = record { ctrl0 = r.ctrl0; ctrl1 = r.ctrl1; btr0 = r.btr0; btr1 = r.btr1; inte = r.inte; statfe = v; gpine = r.gpine; intf = r.intf; errs = r.errs; hits = r.hits; mtag = r.mtag }

abbrev pub with_gpine : Registers → ℕ → Registers
with_gpine r v = record { ctrl0 = r.ctrl0; ctrl1 = r.ctrl1; btr0 = r.btr0; btr1 = r.btr1; inte = r.inte; statfe = r.statfe; gpine = v; intf = r.intf; errs = r.errs; hits = r.hits; mtag = r.mtag }

abbrev pub with_intf : Registers → ℕ → Registers
with_intf r v = record { ctrl0 = r.ctrl0; ctrl1 = r.ctrl1; btr0 = r.btr0; btr1 = r.btr1; inte = r.inte; statfe = r.statfe; gpine = r.gpine; intf = v; errs = r.errs; hits = r.hits; mtag = r.mtag }

abbrev pub with_errs : Registers → ℕ → Registers
with_errs r v = record { ctrl0 = r.ctrl0; ctrl1 = r.ctrl1; btr0 = r.btr0; btr1 = r.btr1; inte = r.inte; statfe = r.statfe; gpine = r.gpine; intf = r.intf; errs = v; hits = r.hits; mtag = r.mtag }

abbrev pub with_hits : Registers → ℕ → Registers
with_hits r v = record { ctrl0 = r.ctrl0; ctrl1 = r.ctrl1; btr0 = r.btr0; btr1 = r.btr1; inte = r.inte; statfe = r.statfe; gpine = r.gpine; intf = r.intf; errs = r.errs; hits = v; mtag = r.mtag }

abbrev pub with_mtag : Registers → ℕ → Registers
with_mtag r v = record { ctrl0 = r.ctrl0; ctrl1 = r.ctrl1; btr0 = r.btr0; btr1 = r.btr1; inte = r.inte; statfe = r.statfe; gpine = r.gpine; intf = r.intf; errs = r.errs; hits = r.hits; mtag = v }

abbrev pub with_last : Serials → ℕ → Serials
with_last s v = record { last = v; temp = s.temp; places = s.places }

abbrev pub with_regs : Device → Registers → Device
with_regs d v = record { regs = v; counters = d.counters; serials = d.serials; filters = d.filters; masks = d.masks; rx = d.rx; temp = d.temp; tx = d.tx; buffer = d.buffer; sending = d.sending; history = d.history; time = d.time; txenpin = d.txenpin; acting = d.acting }

abbrev pub with_counters : Device → Counters → Device
with_counters d v = record { regs = d.regs; counters = v; serials = d.serials; filters = d.filters; masks = d.masks; rx = d.rx; temp = d.temp; tx = d.tx; buffer = d.buffer; sending = d.sending; history = d.history; time = d.time; txenpin = d.txenpin; acting = d.acting }

abbrev pub with_serials : Device → Serials → Device
with_serials d v = record { regs = d.regs; counters = d.counters; serials = v; filters = d.filters; masks = d.masks; rx = d.rx; temp = d.temp; tx = d.tx; buffer = d.buffer; sending = d.sending; history = d.history; time = d.time; txenpin = d.txenpin; acting = d.acting }

abbrev pub with_filters : Device → List Pattern → Device
with_filters d v = record { regs = d.regs; counters = d.counters; serials = d.serials; filters = v; masks = d.masks; rx = d.rx; temp = d.temp; tx = d.tx; buffer = d.buffer; sending = d.sending; history = d.history; time = d.time; txenpin = d.txenpin; acting = d.acting }

abbrev pub with_masks : Device → List Pattern → Device
with_masks d v = record { regs = d.regs; counters = d.counters; serials = d.serials; filters = d.filters; masks = v; rx = d.rx; temp = d.temp; tx = d.tx; buffer = d.buffer; sending = d.sending; history = d.history; time = d.time; txenpin = d.txenpin; acting = d.acting }

abbrev pub with_rx : Device → Fifo → Device
with_rx d v = record { regs = d.regs; counters = d.counters; serials = d.serials; filters = d.filters; masks = d.masks; rx = v; temp = d.temp; tx = d.tx; buffer = d.buffer; sending = d.sending; history = d.history; time = d.time; txenpin = d.txenpin; acting = d.acting }

abbrev pub with_temp : Device → Message → Device
with_temp d v = record { regs = d.regs; counters = d.counters; serials = d.serials; filters = d.filters; masks = d.masks; rx = d.rx; temp = v; tx = d.tx; buffer = d.buffer; sending = d.sending; history = d.history; time = d.time; txenpin = d.txenpin; acting = d.acting }

abbrev pub with_tx : Device → Fifo → Device
with_tx d v = record { regs = d.regs; counters = d.counters; serials = d.serials; filters = d.filters; masks = d.masks; rx = d.rx; temp = d.temp; tx = v; buffer = d.buffer; sending = d.sending; history = d.history; time = d.time; txenpin = d.txenpin; acting = d.acting }

abbrev pub with_buffer : Device → Message → Device
with_buffer d v = record { regs = d.regs; counters = d.counters; serials = d.serials; filters = d.filters; masks = d.masks; rx = d.rx; temp = d.temp; tx = d.tx; buffer = v; sending = d.sending; history = d.history; time = d.time; txenpin = d.txenpin; acting = d.acting }

abbrev pub with_sending : Device → ℕ → Device
with_sending d v = record { regs = d.regs; counters = d.counters; serials = d.serials; filters = d.filters; masks = d.masks; rx = d.rx; temp = d.temp; tx = d.tx; buffer = d.buffer; sending = v; history = d.history; time = d.time; txenpin = d.txenpin; acting = d.acting }

abbrev pub with_history : Device → Fifo → Device
with_history d v = record { regs = d.regs; counters = d.counters; serials = d.serials; filters = d.filters; masks = d.masks; rx = d.rx; temp = d.temp; tx = d.tx; buffer = d.buffer; sending = d.sending; history = v; time = d.time; txenpin = d.txenpin; acting = d.acting }

abbrev pub with_time : Device → ℕ → Device
with_time d v = record { regs = d.regs; counters = d.counters; serials = d.serials; filters = d.filters; masks = d.masks; rx = d.rx; temp = d.temp; tx = d.tx; buffer = d.buffer; sending = d.sending; history = d.history; time = v; txenpin = d.txenpin; acting = d.acting }

abbrev pub with_txenpin : Device → Bool → Device
with_txenpin d v = record { regs = d.regs; counters = d.counters; serials = d.serials; filters = d.filters; masks = d.masks; rx = d.rx; temp = d.temp; tx = d.tx; buffer = d.buffer; sending = d.sending; history = d.history; time = d.time; txenpin = v; acting = d.acting }

abbrev pub with_acting : Device → ℕ → Device
with_acting d v = record { regs = d.regs; counters = d.counters; serials = d.serials; filters = d.filters; masks = d.masks; rx = d.rx; temp = d.temp; tx = d.tx; buffer = d.buffer; sending = d.sending; history = d.history; time = d.time; txenpin = d.txenpin; acting = v }
