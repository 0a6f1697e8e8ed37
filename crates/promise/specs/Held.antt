-- What a device holds of the records, part by part (demands 2 and 3).
use Rattle.std.specs.Prelude.{◌≡◌, true, List, [], ◌∷◌, ◌++◌, map, ℕ, ◌%◌, ◌≤◌, length, take, drop}
use Rattle.fifo.specs.declared.Message.{Message}
use Rattle.fifo.specs.Queue.{waiting}
use Rattle.chip.specs.declared.Device.{Device}
use Rattle.chip.specs.declared.Pattern.{Pattern}
use Rattle.chip.specs.State.{idle, first_in_fifo}
use Rattle.chip.specs.State as State
use Rattle.bus.specs.declared.types.Pins.{Pins}
use Rattle.promise.specs.Flags.{together}
use Rattle.promise.specs.Frames.{message, Shows}
use Rattle.promise.specs.Ledger.{frames, kept}
use Rattle.promise.specs.Numbering.{serials, LastGiven, Carries, Rises}
use Rattle.promise.specs.Outbox.{Running, none, first, alone, in_flight}
use Rattle.promise.specs.Own.{own_message, Sendable}
use Rattle.promise.specs.Ranges.{device_in_range}
use Rattle.promise.specs.Records.{Records}
use Rattle.promise.specs.Registers.{pins_shown}
use Rattle.promise.specs.Settings.{settings_of}

-- what holds of each of a list
abbrev pub Each : {A : Type 0} → (A → Type 0) → List A → Type 0
Each P [] = Unit {0}
Each P (x ∷ xs) = P x × Each P xs

-- ---- demand 2

abbrev pub Settled : Device → Records → Type 0
Settled d r = settings_of d ≡ r.settings

-- "each is the rules' sum over the events and test writes"
abbrev pub Counted : Device → Records → Type 0
Counted d r = d.counters ≡ r.counters

abbrev pub Timed : Device → Records → Type 0
Timed d r = d.time ≡ r.ticks % 65536

abbrev pub Seen : Device → Records → Type 0
Seen d r = d.regs.errs ≡ together r.kinds

abbrev pub Raised : Device → Records → Type 0
Raised d r = d.regs.intf ≡ together r.flags

-- of any way to look at a device's pins
abbrev pub Pinned : (Device → Pins) → Device → Records → Type 0
Pinned look d r = look d ≡ pins_shown r

-- ---- demand 3

-- The messages that reads took, then those still waiting, are exactly the good frames that 01 accepts since the last
-- clearing, but for those whose place a later one took.
abbrev pub Whole : Device → Records → Type 0
Whole d r = map message r.ledger.taken ++ waiting d.rx ≡ map message (kept r.ledger)

-- The message of each accepted frame, replaced or not, has its fields as they arrived, and so has that of the latest,
-- accepted or not. The promise above finds those that are kept in the device.
abbrev pub AsArrived : Device → Records → Type 0
AsArrived d r = Each (λ f. Shows f (message f).bytes) (r.latest ∷ frames r.ledger)

-- the message that runs: whether one does and where it stands, and the transmit buffer, which holds it
abbrev pub Runs : ℕ → Message → Running → Type 0
Runs sending buffer none = sending ≡ idle
Runs sending buffer (first m) = (sending ≡ first_in_fifo) × (buffer ≡ own_message m)
Runs sending buffer (alone m) = (sending ≡ State.alone) × (buffer ≡ own_message m)

abbrev pub AsWritten : Device → Records → Type 0
AsWritten d r =
    (waiting d.tx ≡ map own_message r.outbox.queue)
    × Runs d.sending d.buffer r.outbox.running

-- ---- the whole of it

-- the temporary buffer, of which nothing shows byte 1, and the filters that its frame hit
abbrev pub Latest : Device → Records → Type 0
Latest d r = (drop 1 d.temp.bytes ≡ drop 1 (message r.latest).bytes) × (d.regs.hits ≡ r.latest.hits)

-- an entry of the history has a tag and a time tag; MTAG is of the tag last sent
abbrev pub entry_of : Message → List ℕ
entry_of m = take 3 m.bytes

abbrev pub Remembered : Device → Records → Type 0
Remembered d r = (map entry_of (waiting d.history) ≡ r.outbox.history) × (d.regs.mtag ≡ r.outbox.mtag)

-- What the code's arrays see to: "eight filters and eight masks of six bytes each", eight places in a queue, an
-- entry's three bytes among its sixteen. Here a message may be shorter, since a payload may be.
abbrev pub Banked : List Pattern → Type 0
Banked ps = (length ps ≡ 8) × Each (λ (p : Pattern). length p.bytes ≡ 6) ps

abbrev pub Entry : Message → Type 0
Entry m = (3 ≤ length m.bytes) × (length m.bytes ≤ 16)

abbrev pub Shaped : Device → Type 0
Shaped d =
    Banked d.filters × Banked d.masks
    × (length d.rx.items ≡ 8) × (length d.tx.items ≡ 8) × (length d.history.items ≡ 8)
    × Each Entry (waiting d.history) × (length d.serials.places ≡ 8)

pub record Holds (d : Device) (r : Records) : Type 0 where
  pub fits : device_in_range d ≡ true
  pub shaped : Shaped d
  pub settled : Settled d r
  pub counted : Counted d r
  pub timed : Timed d r
  pub seen : Seen d r
  pub raised : Raised d r
  pub latest : Latest d r
  pub whole : Whole d r
  pub last : LastGiven d r
  pub carries : Carries d r
  -- the accepted frames got their numbers in order
  pub ordered : Rises 0 r.arrivals (serials (frames r.ledger))
  pub arrived : AsArrived d r
  pub written : AsWritten d r
  pub remembered : Remembered d r
  -- what waits to be sent, and what runs, can have come by 0x12
  pub sendable : Each Sendable (in_flight r.outbox.running ∷ r.outbox.queue)
