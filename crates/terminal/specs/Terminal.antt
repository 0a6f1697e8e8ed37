-- What the terminal's steps are, in the device's own definitions, and what holds of it between them.
use Rattle.std.specs.Prelude.{◌≡◌, true, false, not, List, [], ◌∷◌, ◌++◌, map, ℕ, ◌*◌, eqb, length, take, drop, replicate}
use Rattle.base.specs.Bit.{byte, is_set}
use Rattle.base.specs.Pick.{pick}
use Rattle.fifo.specs.declared.Message.{Message}
use Rattle.frame.specs.declared.Header.{Header}
use Rattle.chip.specs.declared.Device.{Device}
use Rattle.chip.specs.State.{fresh, normal}
use Rattle.events.specs.declared.Event.TheVariants.{GoodFrame}
use Rattle.bus.specs.Event.{event}
use Rattle.host.specs.Transfer.{transfer, reply_after}
use Rattle.promise.specs.Sequence.{Input, shipped, run}
use Rattle.promise.specs.Frames.{message}
use Rattle.promise.specs.Ledger.{kept}
use Rattle.promise.specs.After.{recorded}
use Rattle.promise.specs.Registers.{from}
use Rattle.promise.specs.Settings.{settings_of, filton}
use Rattle.terminal.specs.declared.Status.{Status}
use Rattle.terminal.specs.declared.Turn.{Turn}

-- ---- its steps

-- a register is written: the command and its byte
abbrev pub written : Device → ℕ → ℕ → Device
written d command value = (transfer d (command ∷ value ∷ []) 0).device

-- a command alone, with as many bytes lent for its reply
abbrev pub asked : Device → ℕ → ℕ → Device
asked d command lent = (transfer d (command ∷ []) lent).device

abbrev pub reply : Device → ℕ → ℕ → List ℕ
reply d command lent = reply_after d (command ∷ []) (replicate lent 0)

-- INTE gets RXFIFOIE, CTRL0 normal mode, and INTF is read, since the mode change raised MCHG
abbrev pub switched_on : Device
switched_on = asked (written (written fresh 0x1C 0x40) 0x14 0) 0xDE 1

abbrev pub scanner : Header
scanner = record { id = 0x123; extended = false; remote = false; code = 8 }

abbrev pub brought : Device → List ℕ → Device
brought d scan = (event d (GoodFrame scanner true 8) scan).device

-- STATF's bit 1 is RXFMTY
abbrev pub status_of : Device → Status
status_of d = record { device = asked d 0xE2 1; waits = not (is_set 1 (byte (reply d 0xE2 1) 1)) }

-- 0x48 shows byte 1 and the identifier's four, the length code, then the data
abbrev pub scan_read : Device → List ℕ
scan_read d = drop 6 (reply d 0x48 14)

-- ---- what holds between them

-- the device listens: normal mode, no filter is asked, not bus off, and RXFIFO raises INT
pub record Listens (d : Device) : Type 0 where
  pub acts : d.acting ≡ normal
  pub unfiltered : filton (settings_of d) ≡ false
  pub on : d.counters.busoff ≡ false
  pub enables : d.regs.inte ≡ 0x40

-- a message's data, as 0x48 shows it
abbrev pub scan_in : Message → List ℕ
scan_in m = drop 6 (map (byte m.bytes) (1 ∷ from 4 16))

-- the scans in messages, one behind the other
abbrev pub scans : List Message → List ℕ
scans [] = []
scans (m ∷ ms) = scan_in m ++ scans ms

-- some history of transfers and events led to the device
pub record Reached (d : Device) : Type 0 where
  pub history : List Input
  pub is : d ≡ run shipped fresh history

-- And by the records of it, what arrived is what was accepted and stands, and what is printed is what reads took.
pub record Serves (d : Device) (arrived printed : List ℕ) : Type 0 where
  pub reached : Reached d
  pub stand : scans (map message (kept (recorded shipped reached.history).ledger)) ≡ arrived
  pub taken : scans (map message (recorded shipped reached.history).ledger.taken) ≡ printed

-- INTF has RXTMP and RXFIFO while messages wait that the terminal was not yet woken for, and nothing else
abbrev pub Wakes : Device → Type 0
Wakes d = d.regs.intf ≡ pick (eqb d.rx.count 0) 0 0xC0

-- Everything that waited is on the page, behind what was printed before, and the device listens for more.
pub record Served (d : Device) (page : List ℕ) (t : Turn) (after : List ℕ) : Type 0 where
  pub serves : (arrived printed : List ℕ) → Serves d arrived printed → Serves t.device arrived (printed ++ take t.used after)
  pub used : t.used ≡ 8 * d.rx.count
  pub size : length after ≡ length page
  pub listens : Listens t.device
  pub none : t.device.rx.count ≡ 0
  pub quiet : t.device.regs.intf ≡ 0
  -- a read gives no arrival number
  pub last : t.device.serials.last ≡ d.serials.last
