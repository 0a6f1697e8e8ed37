-- The state after power-up, the modes, the control bits, and filters or masks as the match takes them.
use Rattle.std.specs.Prelude.{Bool, false, ◌||◌, List, [], ℕ, ◌-◌, ◌/◌, ◌^◌, eqb, ltb, get_or, replicate}
use Rattle.base.specs.Bit.{is_set}
use Rattle.base.specs.Pick.{pick}
use Rattle.base.specs.Tabulate.{tabulate}
use Rattle.counters.specs.Rules.{zeroed}
use Rattle.fifo.specs.Queue.{empty, none}
use Rattle.chip.specs.declared.Device.{Device}
use Rattle.chip.specs.declared.Pattern.{Pattern}
use Rattle.chip.specs.declared.Registers.{Registers}
use Rattle.chip.specs.declared.Serials.{Serials}

-- 01, Modes and filters: "MODE 000 is normal, 001 loopback, 010 monitor, 011 sleep, 1xx initialization"
abbrev pub normal : ℕ
normal = 0

abbrev pub loopback : ℕ
loopback = 1

abbrev pub monitor : ℕ
monitor = 2

abbrev pub sleep : ℕ
sleep = 3

abbrev pub initialization : ℕ
initialization = 4

-- 01, Bus events: "Monitor mode moves neither", REC nor TEC: what stands there, and what a rule makes of it in any
-- other mode
abbrev pub unless_monitor : {A : Type 0} → ℕ → A → A → A
unless_monitor acting before after = pick (eqb acting monitor) before after

-- MODE is CTRL0's bits 7 to 5.
unfoldable pub mode_of : ℕ → ℕ
mode_of ctrl0 = pick (ltb ctrl0 128) (ctrl0 / 32) initialization

-- Whether a message runs: none; one that is the first in the transmit FIFO; one that 0x54 left alone.
abbrev pub idle : ℕ
idle = 0

abbrev pub first_in_fifo : ℕ
first_in_fifo = 1

abbrev pub alone : ℕ
alone = 2

-- 000's defaults: CTRL0 has MODE 100, every other register is zero.
abbrev pub fresh_registers : Registers
fresh_registers = record {
  ctrl0 = 0x80;
  ctrl1 = 0;
  btr0 = 0;
  btr1 = 0;
  inte = 0;
  statfe = 0;
  gpine = 0;
  intf = 0;
  errs = 0;
  hits = 0;
  mtag = 0;
}

-- 02, g): arrival numbers are counted "from 1 after power-up": none was given, and no message carries one
abbrev pub fresh_serials : Serials
fresh_serials = record { last = 0; temp = 0; places = replicate 8 0 }

abbrev pub zeros : Pattern
zeros = record { bytes = replicate 6 0 }

unfoldable pub fresh : Device
fresh = record {
  regs = fresh_registers;
  counters = zeroed;
  serials = fresh_serials;
  filters = replicate 8 zeros;
  masks = replicate 8 zeros;
  rx = empty;
  temp = none;
  tx = empty;
  buffer = none;
  sending = idle;
  history = empty;
  time = 0;
  txenpin = false;
  acting = initialization;
}

-- the bits of CTRL0 and CTRL1 that act

-- RESET, in a byte that is written to CTRL0: "1 = Master Reset (same as MR pin = 1)"
abbrev pub reset_bit : ℕ → Bool
reset_bit ctrl0 = is_set 3 ctrl0

abbrev pub bor : Device → Bool
bor d = is_set 2 d.regs.ctrl0

abbrev pub wakeup : Device → Bool
wakeup d = is_set 4 d.regs.ctrl0

abbrev pub txen : Device → Bool
txen d = is_set 7 d.regs.ctrl1

abbrev pub tx1m : Device → Bool
tx1m d = is_set 6 d.regs.ctrl1

-- OSM: "1 = Enable one-shot mode"
abbrev pub osm : ℕ → Bool
osm ctrl1 = is_set 5 ctrl1

abbrev pub filton : Device → Bool
filton d = is_set 4 d.regs.ctrl1

-- 000, CTRL1: TXEN "is logically ORed with the TXEN pin"; "a transmission can be enabled by either the TXEN pin or
-- the TX1M bit".
unfoldable pub enabled : Device → Bool
enabled d = txen d || (tx1m d || d.txenpin)

-- 02, g): an arrival number has "64 bits"
abbrev pub last_of_all : ℕ
last_of_all = 2 ^ 64 - 1

-- "the last number has been given"
abbrev pub spent : Device → Bool
spent d = eqb d.serials.last last_of_all

-- what stands past the eighth filter, which no bank has
abbrev pub absent : Pattern
absent = record { bytes = [] }

-- filters or masks as the match takes them: "an array of eight six-byte arrays"
unfoldable pub bank : List Pattern → List (List ℕ)
bank patterns = tabulate (λ k. (get_or patterns k absent).bytes) 0 8
