-- The outbox: the messages that 0x12 brought and that are not sent, the one that runs, and the history (01, Bus
-- events).
use Rattle.std.specs.Prelude.{Bool, true, false, List, [], ◌∷◌, ◌++◌, ℕ, ◌/◌, ◌%◌, leb, length, get_or, drop}
use Rattle.base.specs.Pick.{pick}
use Rattle.promise.specs.Own.{Own, no_message}

pub data Running : Type 0 where
  none : Running
  -- the first of those that wait
  first : Own → Running
  -- one that 0x54 left alone
  alone : Own → Running

pub record Outbox : Type 0 where
  pub queue : List Own
  pub running : Running
  -- of each entry the tag, and the time tag's two bytes
  pub history : List (List ℕ)
  -- the last two bits of the tag last sent
  pub mtag : ℕ

-- "A reset ends and drops it and empties FIFO and history."
abbrev pub emptied : Outbox
emptied = record { queue = []; running = none; history = []; mtag = 0 }

abbrev pub queued : Outbox → Own → Outbox
queued o m = record { queue = o.queue ++ (m ∷ []); running = o.running; history = o.history; mtag = o.mtag }

-- "A begun message is copied to the transmit buffer"
abbrev pub begun : Outbox → Outbox
begun o = record {
  queue = o.queue;
  running = first (get_or o.queue 0 no_message);
  history = o.history;
  mtag = o.mtag;
}

-- "abort, an error or lost arbitration leaves it first in the FIFO"; after 0x54, "if it fails or is aborted it is gone"
abbrev pub halted : Outbox → Outbox
halted o = record { queue = o.queue; running = none; history = o.history; mtag = o.mtag }

-- "0x54 empties the FIFO, and the current message may still complete"
abbrev pub alone_after : Running → Running
alone_after none = none
alone_after (first m) = alone m
alone_after (alone m) = alone m

abbrev pub cleared_out : Outbox → Outbox
cleared_out o = record { queue = []; running = alone_after o.running; history = o.history; mtag = o.mtag }

-- the message that runs
abbrev pub in_flight : Running → Own
in_flight none = no_message
in_flight (first m) = m
in_flight (alone m) = m

-- it "leaves the FIFO when completed", unless 0x54 took it out before
abbrev pub remaining : List Own → Running → List Own
remaining queue none = queue
remaining queue (first m) = drop 1 queue
remaining queue (alone m) = queue

-- "Completion adds tag and time tag to the history; …: eight entries, a ninth is not stored."
abbrev pub entered_in : List (List ℕ) → Own → ℕ → List (List ℕ)
entered_in history m time =
    pick (leb 8 (length history)) history
    (history ++ ((m.tag ∷ time / 256 ∷ time % 256 ∷ []) ∷ []))

abbrev pub transmitted : Outbox → ℕ → Outbox
transmitted o time =
    let m = in_flight o.running in
    record {
      queue = remaining o.queue o.running;
      running = none;
      history = entered_in o.history m time;
      mtag = m.tag % 4;
    }

-- 0xEE takes the oldest entry
abbrev pub entry_taken : Outbox → Outbox
entry_taken o = record { queue = o.queue; running = o.running; history = drop 1 o.history; mtag = o.mtag }

-- "none in flight"
abbrev pub rests : Running → Bool
rests none = true
rests (first m) = false
rests (alone m) = false
