-- Demand 1: every input in every device is answered, by 01's table of numbers (01, Numbers given back; 02, g)).
use Rattle.std.specs.Prelude.{◌≡◌, Bool, true, false, not, ◌&&◌, ◌||◌, List, [], ◌∷◌, ◌++◌, ◌↔◌, ℕ, zero, suc, ◌-◌, ◌^◌, ◌<◌, ◌≤◌, eqb, leb, ltb, length, Result, Err, is_err}
use Rattle.base.specs.Bit.{byte}
use Rattle.base.specs.Pick.{pick, among}
use Rattle.chip.specs.declared.Device.{Device}
use Rattle.chip.specs.State.{fresh, idle}
use Rattle.events.specs.declared.Event.{Event}
use Rattle.events.specs.declared.Event.TheVariants.{GoodFrame, ReceiveError, DominantBit, TransmitError, Begun}
use Rattle.events.specs.declared.Event.TheVariants.{Completed, ArbitrationLost, ElevenRecessive, BusQuiet, BusActivity}
use Rattle.events.specs.declared.Event.TheVariants.{Ticks, TxenPin, MrPin, Unknown}
use Rattle.refusal.specs.declared.Refusal.{Refusal}
use Rattle.refusal.specs.Refusal.{number_of}
use Rattle.promise.specs.Sequence.{Input, spi, wire, Given, replied, answered, Step, Machine, number, run}
use Rattle.promise.specs.Arrivals.{none_true, from_the_bus}
use Rattle.promise.specs.Commands.{message_reads, sets_up, same_for, is_command, lengths_of, transfer_fits}
use Rattle.promise.specs.Frames.{can_arrive}
use Rattle.promise.specs.Ranges.{device_in_range}
use Rattle.promise.specs.Settings.{normal, loopback, sleep, initialization, enables}

-- ---- what the table asks about a device

pub record Situation : Type 0 where
  -- every count, place and field is in its range
  pub device_fits : Bool
  pub acting : ℕ
  pub busoff : Bool
  -- by TXEN, TX1M or the pin
  pub enabled : Bool
  pub runs : Bool
  -- messages in the transmit FIFO, messages in the receive FIFO, entries in the history
  pub to_send : ℕ
  pub to_read : ℕ
  pub entries : ℕ
  -- the last arrival number has been given
  pub spent : Bool

-- 02, g): a number of "64 bits"
abbrev pub none_behind : ℕ → Bool
none_behind given = eqb given (2 ^ 64 - 1)

abbrev pub situation : Device → Situation
situation d = record {
  device_fits = device_in_range d;
  acting = d.acting;
  busoff = d.counters.busoff;
  enabled = enables d.regs.ctrl1 d.txenpin;
  runs = not (eqb d.sending idle);
  to_send = d.tx.count;
  to_read = d.rx.count;
  entries = d.history.count;
  spent = none_behind d.serials.last;
}

-- ---- 8

-- "an error or dominant-bit event in initialization, sleep or bus off"
abbrev pub no_errors : Situation → Bool
no_errors s = (eqb s.acting initialization || eqb s.acting sleep) || s.busoff

-- "a begin while one runs, with nothing to send or no enable or in a mode that can't send or in bus off"
abbrev pub can_begin : Situation → Bool
can_begin s =
    not s.runs && (not (eqb s.to_send 0) && (s.enabled &&
    ((eqb s.acting normal || eqb s.acting loopback) && not s.busoff)))

-- "an unknown kind", fields of a frame that can't be, "a completion, transmit error or lost arbitration with nothing
-- begun"
unfoldable pub cannot_be : Situation → Event → Bool
cannot_be s (GoodFrame h acknowledged count) = not (can_arrive h count)
cannot_be s (ReceiveError kind) = no_errors s
cannot_be s DominantBit = no_errors s
cannot_be s (TransmitError kind counted) = not s.runs || no_errors s
cannot_be s Begun = not (can_begin s)
cannot_be s Completed = not s.runs
cannot_be s ArbitrationLost = not s.runs
cannot_be s ElevenRecessive = false
cannot_be s BusQuiet = false
cannot_be s BusActivity = false
cannot_be s (Ticks count) = false
cannot_be s (TxenPin level) = false
cannot_be s MrPin = false
cannot_be s Unknown = true

-- ---- 12

-- 02, g): "Each good frame that is not answered A1 to A3 gets an arrival number"; "or loopback completion"
unfoldable pub gets_number : Situation → Event → Bool
gets_number s (GoodFrame h acknowledged count) = none_true (from_the_bus s.acting s.busoff acknowledged)
gets_number s Completed = eqb s.acting loopback
gets_number s (ReceiveError kind) = false
gets_number s DominantBit = false
gets_number s (TransmitError kind counted) = false
gets_number s Begun = false
gets_number s ArbitrationLost = false
gets_number s ElevenRecessive = false
gets_number s BusQuiet = false
gets_number s BusActivity = false
gets_number s (Ticks count) = false
gets_number s (TxenPin level) = false
gets_number s MrPin = false
gets_number s Unknown = false

-- ---- the table

abbrev pub empty_transfer : List ℕ → Bool
empty_transfer bytes = eqb (length bytes) 0

-- 7: "a receive FIFO or history read finds none"
unfoldable pub finds_none : Situation → ℕ → Bool
finds_none s c = among c (same_for message_reads (eqb s.to_read 0) ++ (0xEE, eqb s.entries 0) ∷ []) false

-- 01's rows, and 02's, in their order: whether number n applies
abbrev pub applies : Situation → Input → ℕ → Bool
applies s (spi bytes buffer) n =
    let c = byte bytes 1 in
    among n
    ((1, not s.device_fits) ∷
    (2, not (empty_transfer bytes) && not (is_command c)) ∷
    (3, empty_transfer bytes || not (transfer_fits bytes)) ∷
    (4, ltb (length buffer) (lengths_of c).out) ∷
    (5, not (eqb s.acting initialization) && sets_up c) ∷
    (6, eqb c 0x12 && leb 8 s.to_send) ∷
    (7, finds_none s c) ∷
    [])
    false
applies s (wire e payload) n =
    among n ((1, not s.device_fits) ∷ (8, cannot_be s e) ∷ (12, gets_number s e && s.spent) ∷ []) false

-- of m numbers from k on, the first that applies; 0 if none does
abbrev pub first_from : (ℕ → Bool) → ℕ → ℕ → ℕ
first_from says k zero = 0
first_from says k (suc m) = pick (says k) k (first_from says (suc k) m)

-- "Checks run in rising order; the first that applies is given, and none otherwise."
unfoldable pub number_due : Situation → Input → ℕ
number_due s i = first_from (applies s i) 1 12

-- ---- the promises

abbrev pub refuses : {A : Type 0} → Result A Refusal → Bool
refuses a = is_err a

-- a transfer is replied to and an event answered, as refused exactly if the number is not 0
abbrev pub Fits : Input → Given → Type 0
Fits (spi bytes buffer) (replied a after) = refuses a ≡ not (eqb (number_of a) 0)
Fits (spi bytes buffer) (answered a) = ⊥
Fits (wire e payload) (replied a after) = ⊥
Fits (wire e payload) (answered a) = refuses a ≡ not (eqb (number_of a) 0)

-- whether it is given as refused
abbrev pub is_refusal : Given → Bool
is_refusal (replied a after) = refuses a
is_refusal (answered a) = refuses a

-- what a refusal leaves: the device as it came, the lent buffer as it came, and nothing given but the refusal
abbrev pub Untouched : Device → Input → Step → Type 0
Untouched d (spi bytes buffer) s = (refusal : Refusal) × (s ≡ record { device = d; given = replied (Err refusal) buffer })
Untouched d (wire e payload) s = (refusal : Refusal) × (s ≡ record { device = d; given = answered (Err refusal) })

module _ (step : Machine) where
  abbrev pub number_given : Device → Input → ℕ
  number_given d i = number (step d i).given

  -- Every input in every device is answered, by one of 01's numbers, and as refused exactly if one applies.
  abbrev pub Answered : Type 0
  Answered = (d : Device) (i : Input)
      → (number_given d i ≤ 12) × Fits i (step d i).given
      × (is_refusal (step d i).given ≡ not (eqb (number_due (situation d) i) 0))

  -- The number is the first that applies, and 0 if none does.
  abbrev pub First : Type 0
  First = (d : Device) (i : Input) → number_given d i ≡ number_due (situation d) i

  -- Each number but 0 is given exactly when it applies and no lower one does.
  abbrev pub Exactly : Type 0
  Exactly = (d : Device) (i : Input) (n : ℕ) → 0 < n → n ≤ 12
      → (number_given d i ≡ n)
      ↔ ((applies (situation d) i n ≡ true) × ((m : ℕ) → 0 < m → m < n → applies (situation d) i m ≡ false))

  -- "A refusal leaves device and reply buffer unchanged."
  abbrev pub Refused : Type 0
  Refused = (d : Device) (i : Input) → (number_given d i ≡ 0 → ⊥) → Untouched d i (step d i)

  -- "No device reached from a fresh one … is ever given 1."
  abbrev pub NeverOne : Type 0
  NeverOne = (is : List Input) (i : Input) → number_given (run step fresh is) i ≡ 1 → ⊥
