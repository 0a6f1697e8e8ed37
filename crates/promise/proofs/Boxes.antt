-- Transmit FIFO, transmit buffer and history hold what the outbox has. Assumes nothing.
use mathlib.Core.Path.{◌≡◌, refl, sym, ◌∙◌, ap}
use mathlib.Core.Bool.{Bool, true, false, false≢true}
use mathlib.Core.List.{List, [], ◌∷◌, ◌++◌, map, map-append}
use Prim.Native.Nat.{ℕ, zero, suc, ◌-◌, ◌≤◌}
use native.Mathlib.Omega.{arith}
use borrow.Author.Tests.{leb-true, leb-false}
use lib.Dec.{eqb, leb}
use lib.ListN.{length, get_or, drop, length-map, length-drop, get_or-map}
use Rattle.std.proofs.lemmas.List.{drop-map}
use Rattle.base.specs.Pick.{pick}
use Rattle.fifo.specs.declared.Fifo.{Fifo}
use Rattle.fifo.specs.declared.Message.{Message}
use Rattle.fifo.specs.Queue.{empty, full, waiting, put, take as take_off, next}
use Rattle.fifo.proofs.Waiting.{put_waits, take_waits}
use Rattle.chip.specs.State.{idle, first_in_fifo}
use Rattle.transmit.specs.Transmit.{left_alone, stamped, fifo_after, tag_bits}
use Rattle.promise.specs.Outbox.{Running, none, first, alone, Outbox, emptied, queued, begun, halted, alone_after, cleared_out, in_flight}
use Rattle.promise.specs.Outbox.{remaining, transmitted, entry_taken, rests}
use Rattle.promise.specs.Held.{Each, Runs, entry_of, Entry}
use Rattle.promise.specs.Own.{Own, no_message, own_message, Sendable}
use Rattle.promise.proofs.Choices.{pick_keeps}
use Rattle.promise.proofs.Each.{each_more, each_rest}
use Rattle.promise.proofs.Queues.{waiting_length, taken_items, put_items}
use Rattle.promise.proofs.Own.{own_few, none_sendable}

-- ---- the messages that wait

first_sendable : (ms : List Own) → Each Sendable ms → Sendable (get_or ms 0 no_message)
first_sendable [] all = none_sendable
first_sendable (m ∷ ms) all = all.0

alone_same : (r : Running) → in_flight (alone_after r) ≡ in_flight r
alone_same none = refl
alone_same (first m) = refl
alone_same (alone m) = refl

remaining_sendable : (ms : List Own) (r : Running) → Each Sendable ms → Each Sendable (remaining ms r)
remaining_sendable ms none all = all
remaining_sendable ms (first m) all = each_rest Sendable ms all
remaining_sendable ms (alone m) all = all

-- ---- a device's parts, and the outbox

stamped_entry : (m : Message) (time : ℕ) → length m.bytes ≤ 16 → Entry (stamped m time)
unfolding stamped
stamped_entry m time few = rw (length-drop 3 m.bytes) (omega arith, omega arith)

pub record Boxed (tx : Fifo) (buffer : Message) (sending : ℕ) (history : Fifo) (mtag : ℕ) (o : Outbox) : Type 0 where
  pub places : length tx.items ≡ 8
  pub queue : waiting tx ≡ map own_message o.queue
  pub runs : Runs sending buffer o.running
  pub pages : length history.items ≡ 8
  pub entries : map entry_of (waiting history) ≡ o.history
  pub tag : mtag ≡ o.mtag
  pub bound : Each Entry (waiting history)
  pub sendable : Each Sendable o.queue
  pub flying : Sendable (in_flight o.running)

pub empty_boxed : (buffer : Message) → Boxed empty buffer idle empty 0 emptied
unfolding empty
empty_boxed buffer = record { places = refl; queue = refl; runs = refl; pages = refl; entries = refl; tag = refl; bound = tt; sendable = tt; flying = none_sendable }

-- ---- what waits when the oldest was taken, if there was one

taken_cases : (n : ℕ) (q : Fifo) → q.count ≡ n → waiting (take_off q) ≡ drop 1 (waiting q)
unfolding take_off
taken_cases zero q count = rw count
taken_cases (suc n) q count = sym (ap (drop 1) (take_waits q n count))

taken_waits : (q : Fifo) → waiting (take_off q) ≡ drop 1 (waiting q)
taken_waits q = taken_cases q.count q refl

-- ---- each change

module _ (tx : Fifo) (buffer : Message) (sending : ℕ) (history : Fifo) (mtag : ℕ) (o : Outbox) (h : Boxed tx buffer sending history mtag o) where
  pub queue_length : length o.queue ≡ tx.count
  queue_length = sym (length-map o.queue own_message) ∙ rw (← h.queue) (waiting_length tx)

  pub history_length : length o.history ≡ history.count
  history_length = rw (← h.entries, length-map (waiting history) entry_of) (waiting_length history)

  -- nothing runs, as the device says it and as the outbox does
  rests_cases : (r : Running) → Runs sending buffer r → eqb sending idle ≡ rests r
  rests_cases none runs = rw runs
  rests_cases (first m) runs = rw runs.0
  rests_cases (alone m) runs = rw runs.0

  pub rests_same : eqb sending idle ≡ rests o.running
  rests_same = rests_cases o.running h.runs

  -- the message that runs is in the transmit buffer
  buffer_cases : (r : Running) → Runs sending buffer r → rests r ≡ false → buffer ≡ own_message (in_flight r)
  buffer_cases none runs some = absurd (false≢true (sym some))
  buffer_cases (first m) runs some = runs.1
  buffer_cases (alone m) runs some = runs.1

  pub buffer_runs : rests o.running ≡ false → buffer ≡ own_message (in_flight o.running)
  buffer_runs some = buffer_cases o.running h.runs some

  pub halted_boxed : Boxed tx buffer idle history mtag (halted o)
  halted_boxed = record {
    places = h.places;
    queue = h.queue;
    runs = refl;
    pages = h.pages;
    entries = h.entries;
    tag = h.tag;
    bound = h.bound;
    sendable = h.sendable;
    flying = none_sendable;
  }

  -- 0x12 that finds room
  pub written_boxed : (m : Own) → Sendable m → full tx ≡ false → Boxed (put tx (own_message m)) buffer sending history mtag (queued o m)
  written_boxed m sendable room = record {
    places = put_items tx (own_message m) ∙ h.places;
    queue =
        put_waits tx (own_message m) h.places (leb-false 8 tx.count room)
        ∙ rw map-append (ap (λ (w : List Message). w ++ (own_message m ∷ [])) h.queue);
    runs = h.runs;
    pages = h.pages;
    entries = h.entries;
    tag = h.tag;
    bound = h.bound;
    sendable = each_more Sendable o.queue m h.sendable sendable;
    flying = h.flying;
  }

  -- 0x54 leaves the message that runs alone
  alone_runs : (r : Running) → Runs sending buffer r → Runs (left_alone sending) buffer (alone_after r)
  unfolding left_alone
  alone_runs none runs = rw runs
  alone_runs (first m) runs = (rw runs.0, runs.1)
  alone_runs (alone m) runs = (rw runs.0, runs.1)

  pub cleared_boxed : Boxed empty buffer (left_alone sending) history mtag (cleared_out o)
  unfolding empty
  cleared_boxed = record {
    places = refl;
    queue = refl;
    runs = alone_runs o.running h.runs;
    pages = h.pages;
    entries = h.entries;
    tag = h.tag;
    bound = h.bound;
    sendable = tt;
    flying = rw (alone_same o.running) h.flying;
  }

  -- the first of a queue that isn't empty
  next_first : (n : ℕ) → tx.count ≡ suc n → next tx ≡ own_message (get_or o.queue 0 no_message)
  next_first n some =
      ap (λ (ms : List Message). get_or ms 0 (own_message no_message)) (sym (take_waits tx n some) ∙ h.queue)
      ∙ get_or-map own_message o.queue 0 no_message

  pub begun_boxed : leb 1 tx.count ≡ true → Boxed tx (next tx) first_in_fifo history mtag (begun o)
  begun_boxed some =
      let waits = leb-true 1 tx.count some in
      record {
        places = h.places;
        queue = h.queue;
        runs = (refl, next_first (tx.count - 1) (omega arith));
        pages = h.pages;
        entries = h.entries;
        tag = h.tag;
        bound = h.bound;
        sendable = h.sendable;
        flying = first_sendable o.queue h.sendable;
      }

  transmitted_queue : (r : Running) → Runs sending buffer r → waiting (fifo_after tx sending) ≡ map own_message (remaining o.queue r)
  unfolding fifo_after
  transmitted_queue none runs = rw runs h.queue
  transmitted_queue (first m) runs = rw runs.0 (taken_waits tx ∙ ap (drop 1) h.queue ∙ drop-map own_message 1 o.queue)
  transmitted_queue (alone m) runs = rw runs.0 h.queue

  -- an entry more, unless there are eight
  entered_same : (t : Bool) (m : Message) → leb 8 history.count ≡ t
      → map entry_of (waiting (put history m)) ≡ pick t o.history (o.history ++ (entry_of m ∷ []))
  unfolding put
  entered_same true m is = rw is h.entries
  entered_same false m is =
      rw (put_waits history m h.pages (leb-false 8 history.count is), map-append) (ap (λ (l : List (List ℕ)). l ++ (entry_of m ∷ [])) h.entries)

  bound_more : (t : Bool) (m : Message) → leb 8 history.count ≡ t → Entry m → Each Entry (waiting (put history m))
  unfolding put
  bound_more true m is fits = rw is h.bound
  bound_more false m is fits =
      rw (put_waits history m h.pages (leb-false 8 history.count is)) (each_more Entry (waiting history) m h.bound fits)

  pub transmitted_boxed : (time : ℕ) → rests o.running ≡ false
      → Boxed (fifo_after tx sending) buffer idle (put history (stamped buffer time)) (tag_bits buffer) (transmitted o time)
  unfolding fifo_after stamped
  transmitted_boxed time some = record {
    places = pick_keeps (λ (q : Fifo). length q.items ≡ 8) (eqb sending first_in_fifo) (take_off tx) tx (rw (taken_items tx) h.places) h.places;
    queue = transmitted_queue o.running h.runs;
    runs = refl;
    pages = put_items history (stamped buffer time) ∙ h.pages;
    entries = rw (history_length, buffer_runs some) (entered_same (leb 8 history.count) (stamped (own_message (in_flight o.running)) time) refl);
    tag = rw (buffer_runs some);
    bound = bound_more (leb 8 history.count) (stamped buffer time) refl (stamped_entry buffer time (rw (buffer_runs some) (own_few (in_flight o.running) h.flying)));
    sendable = remaining_sendable o.queue o.running h.sendable;
    flying = none_sendable;
  }

  -- 0xEE
  pub read_boxed : Boxed tx buffer sending (take_off history) mtag (entry_taken o)
  read_boxed = record {
    places = h.places;
    queue = h.queue;
    runs = h.runs;
    pages = rw (taken_items history) h.pages;
    entries = rw (taken_waits history, ← drop-map, h.entries);
    tag = h.tag;
    bound = rw (taken_waits history) (each_rest Entry (waiting history) h.bound);
    sendable = h.sendable;
    flying = h.flying;
  }
