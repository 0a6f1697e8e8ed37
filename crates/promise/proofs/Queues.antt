-- The receive FIFO holds what the ledger has left, with its numbers. Assumes nothing.
use mathlib.Core.Path.{◌≡◌, refl, sym, ◌∙◌, ap}
use mathlib.Core.Bool.{Bool, true, false}
use mathlib.Core.List.{List, [], ◌∷◌, ◌++◌, map, append_assoc, map-append}
use Prim.Native.Nat.{ℕ, zero, suc, ◌<◌, ◌≤◌, ◌+◌, ◌-◌, ◌%◌}
use native.Mathlib.Nat.{zero-add, suc-add}
use native.Mathlib.Omega.{arith}
use borrow.Author.Tests.{leb-true, leb-false, lt-leb, ne_eqb}
use lib.Dec.{leb}
use lib.ListN.{length, take, get_or, set, replicate, length-append, length-take, length-replicate, length-set, length-map, get_or-map}
use lib.Seq.{get_or-append_seam, get_or-append-add}
use Rattle.std.proofs.lemmas.List.{map-set}
use Rattle.base.specs.Tabulate.{tabulate}
use Rattle.fifo.specs.declared.Fifo.{Fifo}
use Rattle.fifo.specs.declared.Message.{Message}
use Rattle.fifo.specs.Queue.{absent, empty, full, is_empty, ring, waiting, put, place_over, put_over, next, latest, take as take_off}
use Rattle.fifo.proofs.Waiting.{ring_more, ring_less, ring_over, put_waits, latest_eighth, over_waits}
use Rattle.frame.specs.declared.Header.{Header}
use Rattle.frame.specs.Length.{data_bytes, data_of}
use Rattle.frame.proofs.Data.{data_bytes_le}
use Rattle.frame.specs.Received.{received}
use Rattle.frame.specs.Tables.{id_as_read}
use Rattle.promise.specs.Frames.{Frame, blank, message, Shows}
use Rattle.promise.specs.Ledger.{Accepted, Ledger, empty_ledger, frames, kept, left, oldest, newest, accepts, takes}
use Rattle.promise.specs.Held.{Each}
use Rattle.promise.specs.Numbering.{serials}
use Rattle.promise.proofs.Choices.{pick_under}
use Rattle.promise.proofs.Each.{each_more, each_at}
use Rattle.promise.proofs.Ledgers.{counted_once, last_stands, kept_more, kept_over}

-- ---- how long a message is

abbrev pub Sized : Message → Type 0
Sized m = (8 ≤ length m.bytes) × (length m.bytes ≤ 16)

pub data_length : (h : Header) (payload : List ℕ) → length (data_of h payload) ≤ 8
unfolding data_of
data_length h payload =
    let some = data_bytes_le h in
    rw (length-append (take (data_bytes h) payload) (replicate (8 - data_bytes h) 0), length-take (data_bytes h) payload, length-replicate {A = ℕ} (8 - data_bytes h) 0)
    (omega arith)

pub message_sized : (f : Frame) → Sized (message f)
unfolding received id_as_read
message_sized f =
    let few = data_length f.header f.payload in
    (omega arith, omega arith)

-- ---- queues

pub length_tabulate : {A : Type 0} (f : ℕ → A) (i n : ℕ) → length (tabulate f i n) ≡ n
length_tabulate f i zero = refl
length_tabulate f i (suc n) = ap suc (length_tabulate f (suc i) n)

pub waiting_length : (q : Fifo) → length (waiting q) ≡ q.count
waiting_length q = length_tabulate _ 0 q.count

pub taken_items : (q : Fifo) → (take_off q).items ≡ q.items
unfolding take_off
taken_items q = pick_under (λ (r : Fifo). r.items ≡ q.items) (is_empty q) _ _ (λ none. refl) (λ some. refl)

pub put_items : (q : Fifo) (m : Message) → length (put q m).items ≡ length q.items
unfolding put
put_items q m = pick_under (λ (r : Fifo). length r.items ≡ length q.items) (full q) _ _ (λ none. refl) (λ room. length-set q.items _ m)

over_items : (q : Fifo) (m : Message) → length (put_over q m).items ≡ length q.items
unfolding put_over
over_items q m = pick_under (λ (r : Fifo). length r.items ≡ length q.items) (full q) _ _ (λ none. length-set q.items _ m) (λ room. put_items q m)

-- an element of the second of two lists exchanged
set_behind : {A : Type 0} (xs ys : List A) (k : ℕ) (y : A) → set (xs ++ ys) (length xs + k) y ≡ xs ++ set ys k y
set_behind [] ys k y = rw (zero-add k)
set_behind {A = A} (x ∷ xs) ys k y = rw (suc-add (length xs) k) (ap (λ (l : List A). x ∷ l) (set_behind xs ys k y))

-- ---- the ledger, and a queue's places

-- Of each frame its message, or its number: what stands in the places of the queue is what the ledger has left.
module _ {A : Type 0} (of : Frame → A) (z : A) (xs : List A) (first count : ℕ) (l : Ledger) (whole : map of l.taken ++ ring xs z first count ≡ map of (kept l)) where
  taken_count : length l.taken + count ≡ length (kept l)
  taken_count =
      let total : length (map of l.taken) + length (ring xs z first count) ≡ length (map of (kept l)) =
      sym (length-append (map of l.taken) (ring xs z first count)) ∙ ap length whole in
      omega (arith, length_tabulate (λ k. get_or xs ((first + k) % 8) z) 0 count, length-map l.taken of, length-map (kept l) of)

  -- the oldest is taken
  module _ (n : ℕ) (some : count ≡ suc n) where
    abbrev next_is : A
    next_is = get_or xs ((first + 0) % 8) z

    abbrev rest : List A
    rest = ring xs z ((first + 1) % 8) n

    kept_is : map of (kept l) ≡ map of l.taken ++ (next_is ∷ rest)
    kept_is = sym whole ∙ ap (λ (w : List A). map of l.taken ++ w) (rw some (ring_less xs z first n))

    oldest_is : of (oldest l) ≡ next_is
    oldest_is =
        sym (get_or-map of (kept l) (length l.taken) blank)
        ∙ rw (kept_is, ← length-map l.taken of)
        (get_or-append_seam (map of l.taken) next_is rest (of blank))

    takes_is : map of (takes l).taken ++ rest ≡ map of (kept (takes l))
    takes_is = rw (map-append, oldest_is) (append_assoc (map of l.taken) _ _ ∙ sym kept_is)

  -- eight wait
  module _ (eight : count ≡ 8) where
    abbrev before : ℕ
    before = length l.taken + 7

    long_is : length (kept l) ≡ suc before
    long_is = omega (arith, taken_count)

    newest_is : of (newest l) ≡ get_or (ring xs z first count) 7 (of blank)
    newest_is =
        ap of (sym (last_stands l.accepted blank before long_is))
        ∙ sym (get_or-map of (kept l) before blank)
        ∙ rw (← whole, ← length-map l.taken of) (get_or-append-add (map of l.taken) (ring xs z first count) 7 (of blank))

    over_is : (f : Frame) (ys : List A) → ys ≡ set (ring xs z first count) 7 (of f) → map of l.taken ++ ys ≡ map of (kept (accepts l f true))
    over_is f ys exchanged =
        rw (exchanged, kept_over l.accepted f before long_is, map-set of (kept l) before f, ← whole, ← length-map l.taken of)
        (sym (set_behind (map of l.taken) (ring xs z first count) 7 (of f)))

  -- one finds room
  more_is : (f : Frame) (ys : List A) → ys ≡ ring xs z first count ++ (of f ∷ []) → map of l.taken ++ ys ≡ map of (kept (accepts l f false))
  more_is f ys longer =
      rw (longer, kept_more l.accepted f, map-append, ← whole)
      (sym (append_assoc (map of l.taken) (ring xs z first count) (of f ∷ [])))

-- ---- the ledger, and the receive FIFO with its numbers

abbrev pub Shown : Frame → Type 0
Shown f = Shows f (message f).bytes

abbrev serial_of : Frame → ℕ
serial_of f = f.serial

pub record HoldsLedger (q : Fifo) (numbers : List ℕ) (l : Ledger) : Type 0 where
  pub places : length q.items ≡ 8
  pub eight : length numbers ≡ 8
  pub whole : map message l.taken ++ waiting q ≡ map message (kept l)
  pub carried : serials l.taken ++ ring numbers 0 q.first q.count ≡ serials (kept l)
  pub shown : Each Shown (frames l)

pub empty_holds : (numbers : List ℕ) → length numbers ≡ 8 → HoldsLedger empty numbers empty_ledger
unfolding empty
empty_holds numbers eight = record { places = refl; eight = eight; whole = refl; carried = refl; shown = tt }

module _ (q : Fifo) (numbers : List ℕ) (l : Ledger) (h : HoldsLedger q numbers l) where
  pub taken_waits : length l.taken + q.count ≡ length (kept l)
  taken_waits = taken_count message absent q.items q.first q.count l h.whole

  pub left_waits : left l ≡ q.count
  left_waits = omega (arith, taken_waits, counted_once l.accepted)

  module _ (n : ℕ) (some : q.count ≡ suc n) where
    pub oldest_next : message (oldest l) ≡ next q
    unfolding next
    oldest_next = oldest_is message absent q.items q.first q.count l h.whole n some

    -- one less waits, from the next place on
    taken_count_is : (take_off q).count ≡ n
    unfolding take_off
    taken_count_is = rw (ne_eqb q.count 0 (λ none. omega (arith, some))) (omega (arith, some))

    taken_first_is : (take_off q).first ≡ (q.first + 1) % 8
    unfolding take_off
    taken_first_is = rw (ne_eqb q.count 0 (λ none. omega (arith, some)))

    -- the first number is that of the oldest
    pub oldest_first : ring numbers 0 q.first q.count ≡ (oldest l).serial ∷ ring numbers 0 (take_off q).first (take_off q).count
    oldest_first =
        rw (oldest_is serial_of 0 numbers q.first q.count l h.carried n some, taken_count_is, taken_first_is, some)
        (ring_less numbers 0 q.first n)

    pub takes_holds : HoldsLedger (take_off q) numbers (takes l)
    takes_holds = record {
      places = rw (taken_items q) h.places;
      eight = h.eight;
      whole = rw (taken_items q, taken_count_is, taken_first_is) (takes_is message absent q.items q.first q.count l h.whole n some);
      carried = rw (taken_count_is, taken_first_is) (takes_is serial_of 0 numbers q.first q.count l h.carried n some);
      shown = h.shown;
    }

  -- ---- eight wait

  module _ (eight : q.count ≡ 8) where
    pub kept_long : length (kept l) ≡ suc (length l.taken + 7)
    kept_long = long_is message absent q.items q.first q.count l h.whole eight

    -- the latest message is that of the last frame that was accepted
    pub newest_latest : message (newest l) ≡ latest q
    newest_latest = newest_is message absent q.items q.first q.count l h.whole eight ∙ latest_eighth q eight (message blank)

    pub newest_shown : Shown (newest l)
    newest_shown =
        each_at Shown (frames l) (length (frames l) - 1) blank
        (omega (arith, kept_long, counted_once l.accepted, length-map l.accepted (λ (a : Accepted). a.frame)))
        h.shown

    pub over_whole : (f : Frame) → map message l.taken ++ waiting (put_over q (message f)) ≡ map message (kept (accepts l f true))
    over_whole f =
        over_is message absent q.items q.first q.count l h.whole eight f (waiting (put_over q (message f))) (over_waits q eight (message f) h.places)

    -- what is set at the place that a message takes
    over_numbers : (m : Message) (x : ℕ) → ring (set numbers (place_over q) x) 0 (put_over q m).first (put_over q m).count ≡ set (ring numbers 0 q.first q.count) 7 x
    unfolding place_over put_over
    over_numbers m x = rw eight (ring_over numbers 0 q.first x h.eight)

    pub over_carried : (f : Frame) (ns : List ℕ) → ns ≡ set (ring numbers 0 q.first q.count) 7 f.serial → serials l.taken ++ ns ≡ serials (kept (accepts l f true))
    over_carried f ns = over_is serial_of 0 numbers q.first q.count l h.carried eight f ns

  -- ---- a frame that is queued, by whether eight wait

  module _ (f : Frame) where
    more_whole : q.count < 8 → map message l.taken ++ waiting (put_over q (message f)) ≡ map message (kept (accepts l f false))
    unfolding put_over
    more_whole room =
        more_is message absent q.items q.first q.count l h.whole f (waiting (put_over q (message f)))
        (rw (lt-leb 8 q.count room) (put_waits q (message f) h.places room))

    more_carried : q.count < 8 → serials l.taken ++ ring (set numbers (place_over q) f.serial) 0 (put_over q (message f)).first (put_over q (message f)).count ≡ serials (kept (accepts l f false))
    unfolding place_over put_over put
    more_carried room =
        more_is serial_of 0 numbers q.first q.count l h.carried f _
        (rw (lt-leb 8 q.count room) (ring_more numbers 0 q.first q.count f.serial h.eight room))

    accepted_whole : (over : Bool) → leb 8 q.count ≡ over → q.count ≤ 8 → map message l.taken ++ waiting (put_over q (message f)) ≡ map message (kept (accepts l f over))
    accepted_whole true full few = over_whole (omega (arith, leb-true 8 q.count full)) f
    accepted_whole false room few = more_whole (leb-false 8 q.count room)

    accepted_carried : (over : Bool) → leb 8 q.count ≡ over → q.count ≤ 8 → serials l.taken ++ ring (set numbers (place_over q) f.serial) 0 (put_over q (message f)).first (put_over q (message f)).count ≡ serials (kept (accepts l f over))
    accepted_carried true full few =
        let eight : q.count ≡ 8 = omega (arith, leb-true 8 q.count full) in
        over_carried eight f _ (over_numbers eight (message f) f.serial)
    accepted_carried false room few = more_carried (leb-false 8 q.count room)

    pub accepts_holds : (over : Bool) → leb 8 q.count ≡ over → q.count ≤ 8 → Shown f → HoldsLedger (put_over q (message f)) (set numbers (place_over q) f.serial) (accepts l f over)
    accepts_holds over full few shows = record {
      places = over_items q (message f) ∙ h.places;
      eight = length-set numbers (place_over q) f.serial ∙ h.eight;
      whole = accepted_whole over full few;
      carried = accepted_carried over full few;
      shown = rw map-append (each_more Shown (frames l) f h.shown shows);
    }
