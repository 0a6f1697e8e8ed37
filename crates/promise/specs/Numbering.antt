-- The arrival numbers (02, g)): what a device has of them, what a read takes by them, and any way to ask for them.
use Rattle.std.specs.Prelude.{◌≡◌, Bool, true, false, ◌&&◌, List, [], ◌∷◌, ◌++◌, map, ℕ, ◌+◌, ◌-◌, ◌<◌, ◌≤◌, length, get_or, drop, replicate, Result, Ok, Err}
use Rattle.base.specs.Bit.{byte}
use Rattle.base.specs.Pick.{flag}
use Rattle.fifo.specs.Queue.{ring}
use Rattle.chip.specs.declared.Device.{Device}
use Rattle.refusal.specs.declared.Refusal.{Refusal}
use Rattle.refusal.specs.declared.Refusal.TheVariants.{OutOfRange}
use Rattle.refusal.specs.Refusal.{number_of}
use Rattle.bus.specs.declared.types.Numbers.{Numbers}
use Rattle.promise.specs.Sequence.{Input, spi, wire, Given, Step, Machine, values, fate, done}
use Rattle.promise.specs.Commands.{message_reads, one_of}
use Rattle.promise.specs.Frames.{Frame}
use Rattle.promise.specs.Ledger.{Ledger, kept, left, oldest}
use Rattle.promise.specs.Ranges.{device_in_range}
use Rattle.promise.specs.Records.{Records}

abbrev pub serials : List Frame → List ℕ
serials fs = map (λ f. f.serial) fs

-- ---- what a device has

-- the numbers of the messages that wait, oldest first: each stands at its message's place
abbrev pub carried : Device → List ℕ
carried d = ring d.serials.places 0 d.rx.first d.rx.count

-- "demand 3's list": the numbers of the messages that reads took, then of those still waiting
abbrev pub listed : Device → Records → List ℕ
listed d r = serials r.ledger.taken ++ carried d

-- "from 1 after power-up and not reset by anything"
abbrev pub LastGiven : Device → Records → Type 0
LastGiven d r = d.serials.last ≡ r.arrivals

-- "The stored message carries it": in the queue, and in the temporary buffer
abbrev pub Carries : Device → Records → Type 0
Carries d r = (listed d r ≡ serials (kept r.ledger)) × (d.serials.temp ≡ r.latest.serial)

-- strictly rising: each above the one before it, the first above a number, and none above the last
abbrev pub Rises : ℕ → ℕ → List ℕ → Type 0
Rises above last [] = above ≤ last
Rises above last (n ∷ ns) = (above < n) × Rises n last ns

-- "In a queue the numbers rise strictly", from 1 at the least to the last at the most
abbrev pub Rising : Device → Records → Type 0
Rising d r = Rises 0 d.serials.last (carried d)

-- "so equal frames are distinct in demand 3's list"
abbrev pub Distinct : Device → Records → Type 0
Distinct d r = (i j : ℕ) → i < j → j < length (listed d r) → get_or (listed d r) i 0 ≡ get_or (listed d r) j 0 → ⊥

-- ---- what a read takes

abbrev pub reads_one : Input → Given → Bool
reads_one (spi bytes buffer) given = done given && one_of (byte bytes 1) message_reads
reads_one (wire e payload) given = false

-- The message whose number was first, which is the one that the reply shows (Registers, `replies`).
pub record FirstTaken (d : Device) (r : Records) (s : Step) (after : Records) : Type 0 where
  pub first : carried d ≡ (oldest r.ledger).serial ∷ carried s.device
  pub taken : after.ledger.taken ≡ r.ledger.taken ++ (oldest r.ledger ∷ [])

-- ---- how the count goes on

-- an event whose frame "is not answered A1 to A3": Queued, A4 or Queued-over-latest
abbrev pub gives_one : Given → Bool
gives_one given = one_of (fate (values given)) (0 ∷ 4 ∷ 6 ∷ [])

-- In every device: each of these counts one, and nothing else counts or resets.
abbrev pub CountsOn : Machine → Type 0
CountsOn step = (d : Device) (i : Input) → (step d i).device.serials.last ≡ d.serials.last + flag (gives_one (step d i).given)

-- ---- the question

-- of a device: its numbers
abbrev pub Lister : Type 0
Lister = Device → Result Numbers Refusal

-- In every device it is answered: 1, as a transfer and an event are, else 0.
abbrev pub ToldOfAny : Lister → Type 0
ToldOfAny list = (d : Device)
    → (device_in_range d ≡ true → number_of (list d) ≡ 0) × (device_in_range d ≡ false → list d ≡ Err OutOfRange)

-- the accepted frames that wait, as the ledger has them
abbrev pub untaken : Ledger → List Frame
untaken l = drop (length l.taken) (kept l)

-- eight places, the numbers in the first of them
abbrev pub in_eight : List ℕ → List ℕ
in_eight ns = ns ++ replicate (8 - length ns) 0

-- by the records: the last given, that of the latest frame, and those of the frames that wait, oldest first
abbrev pub Listed : Lister → Device → Records → Type 0
Listed list d r = list d ≡ Ok (record {
  last = r.arrivals;
  temp = r.latest.serial;
  count = left r.ledger;
  waiting = in_eight (serials (untaken r.ledger));
})
