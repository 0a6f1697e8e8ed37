-- What the registers and pins show of the state (000's pages of STATF, ERR, MESSTAT, INTE, STATFE and GPINE).
use Rattle.std.specs.Prelude.{Bool, not, ℕ, ◌+◌, ◌-◌, ◌*◌, ◌%◌, eqb, ltb}
use Rattle.std.specs.Int.Bits.{bit_and}
use Rattle.base.specs.Bit.{is_set}
use Rattle.base.specs.Pick.{pick, flag}
use Rattle.levels.specs.Levels.{errw, errp, level_bits}
use Rattle.fifo.specs.Queue.{full, is_empty}
use Rattle.filter.specs.Hits.{filhit}
use Rattle.chip.specs.declared.Device.{Device}
use Rattle.chip.specs.State.{enabled, idle}

-- STATF, bits 7 to 0: TXMTY, TXFULL, TXHISF, ERRW, ERRP, BUSOFF, RXFMTY, RXFFULL
unfoldable pub statf : Device → ℕ
statf d =
    flag (is_empty d.tx) * 128 + flag (full d.tx) * 64 + flag (full d.history) * 32 +
    flag (errw d.counters) * 16 + flag (errp d.counters) * 8 + flag d.counters.busoff * 4 +
    flag (is_empty d.rx) * 2 + flag (full d.rx)

-- ERR: BUSOFF, TXERRP and RXERRP from the counters, then the five kinds of error met since the last read
unfoldable pub err : Device → ℕ
err d = level_bits d.counters + d.regs.errs % 32

-- TSTAT: 11 while one runs, "00: Transmission not enabled", "01: … FIFO is empty", "10: Waiting to transmit or
-- re-transmit"
unfoldable pub tstat : Device → ℕ
tstat d =
    pick (eqb d.sending idle)
    (pick (enabled d) (pick (is_empty d.tx) 1 2) 0)
    3

-- MESSTAT: FILHIT3..0, of the filters that the latest frame hit, MTAG1..0, TSTAT1..0
unfoldable pub messtat : Device → ℕ
messtat d = filhit d.regs.hits * 16 + d.regs.mtag % 4 * 4 + tstat d

-- two registers share a set bit
abbrev pub share : ℕ → ℕ → Bool
share a b = not (eqb (bit_and a b) 0)

-- 000, INTE: INT is high when an INTF bit is set whose enable bit is.
unfoldable pub int : Device → Bool
int d = share d.regs.intf d.regs.inte

-- 000, STATFE: STAT shows the enabled STATF bits.
unfoldable pub stat : Device → Bool
stat d = share (statf d) d.regs.statfe

-- 000, GPINE: 0000 picks INTF's lowest flag, F0MESS, 0111 its highest, RXTMP; 1000 picks STATF's lowest, RXFFULL,
-- 1111 its highest, TXMTY.
unfoldable pub gp : Device → ℕ → Bool
gp d half =
    pick (ltb (half % 16) 8)
    (is_set (half % 16) d.regs.intf)
    (is_set (half % 16 - 8) (statf d))
