-- The interrupt flags (000, INTF) and how a step raises them.
use Rattle.std.specs.Prelude.{ℕ}
use Rattle.std.specs.Int.Bits.{bit_or}
use Rattle.chip.specs.declared.Device.{Device}
use Rattle.chip.specs.Parts.{with_regs, with_intf, with_errs}

abbrev pub rxtmp : ℕ
rxtmp = 128

abbrev pub rxfifo : ℕ
rxfifo = 64

abbrev pub txcplt : ℕ
txcplt = 32

abbrev pub buserr : ℕ
buserr = 16

abbrev pub mchg : ℕ
mchg = 8

abbrev pub wakeup_flag : ℕ
wakeup_flag = 4

abbrev pub f1mess : ℕ
f1mess = 2

abbrev pub f0mess : ℕ
f0mess = 1

-- the flags rise; those that are up stay up
unfoldable pub raised : Device → ℕ → Device
raised d flags = with_regs d (with_intf d.regs (bit_or d.regs.intf flags))

-- 01, Bus events: "A kind of error is one of ERR's bits 4 to 0; the event sets that bit"; 000, INTF: BUSERR "is set
-- when a bus error occurs"
unfoldable pub bus_error : Device → ℕ → Device
bus_error d bit = raised (with_regs d (with_errs d.regs (bit_or d.regs.errs bit))) buserr
