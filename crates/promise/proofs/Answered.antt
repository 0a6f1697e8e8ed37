-- Each number is the first that 01's table gives, and a refusal leaves all as it came. Assumes nothing.
use mathlib.Core.Path.{◌≡◌, refl, sym, ◌∙◌, ap}
use mathlib.Core.Bool.{Bool, true, false, not, ◌&&◌}
use mathlib.Core.List.{List}
use Prim.Native.Nat.{ℕ, ◌≤◌}
use native.Mathlib.Omega.{arith}
use lib.Dec.{eqb, ltb}
use lib.ListN.{length, drop}
use Rattle.std.specs.Prelude.{Option, Some, None, Result, Ok, Err}
use Rattle.base.specs.Bit.{byte}
use Rattle.base.specs.Pick.{pick}
use Rattle.fifo.specs.Queue.{full, latest}
use Rattle.frame.specs.Received.{header_in}
use Rattle.chip.specs.declared.Device.{Device}
use Rattle.chip.specs.Proper.{proper}
use Rattle.chip.specs.State.{loopback, idle, filton, enabled, spent}
use Rattle.transmit.specs.Transmit.{sends, can_begin}
use Rattle.receive.specs.declared.Arrival.{Arrival}
use Rattle.receive.specs.declared.Arrival.TheVariants.{Queued, QueuedOver, A1, A2, A3, A4}
use Rattle.receive.specs.declared.Brought.{Brought}
use Rattle.receive.specs.Receive.{hits, over_latest, filters_and_room, reaches_temporary, own_frame}
use Rattle.events.specs.declared.Event.{Event}
use Rattle.events.specs.declared.Event.TheVariants.{GoodFrame, ReceiveError, DominantBit, TransmitError, Begun, Completed}
use Rattle.events.specs.declared.Event.TheVariants.{ArbitrationLost, ElevenRecessive, BusQuiet, BusActivity, Ticks, TxenPin, MrPin}
use Rattle.events.specs.declared.Event.TheVariants.{Unknown}
use Rattle.judged.specs.Judged.{quiet_mode, no_errors, runs, impossible_frame, impossible, takes_no_frames, unacknowledged, reason, said, gives_number, no_number_left}
use Rattle.judged.specs.Judged.{bus_frame, brings}
use Rattle.bus.specs.Event.{Answer, answered as answered_by, answer, event}
use Rattle.commands.specs.declared.Row.{Row}
use Rattle.commands.specs.Table.{rows, lookup}
use Rattle.refusal.specs.declared.Refusal.{Refusal}
use Rattle.refusal.specs.declared.Refusal.TheVariants.{OutOfRange, WrongLength, ShortBuffer, OutsideSetUp, FindsFull, FindsNone, Impossible, NoNumberLeft}
use Rattle.refusal.specs.Refusal.{number_of, number as number_for}
use Rattle.refused.specs.Refused.{length_fits, outside_set_up, finds_full, finds_none, row_judged, found_judged, verdict}
use Rattle.host.specs.Transfer.{transfer, outcome as transferred}
use Rattle.promise.specs.Promises.{EveryInputIsAnswered, TheFirstNumberIsGiven, EachNumberExactly, ARefusalChangesNothing}
use Rattle.promise.specs.Sequence.{Input, spi, wire, Given, replied, answered, shipped as step, number}
use Rattle.promise.specs.Commands.{transfer_fits}
use Rattle.promise.specs.Ranges.{device_in_range}
use Rattle.promise.specs.Numbers.{situation, applies, cannot_be, gets_number, number_due, refuses, Fits, is_refusal, number_given, Untouched}
use Rattle.promise.proofs.Ranges.{proper_same}
use Rattle.promise.proofs.Rows.{asked_same, no_command}
use Rattle.promise.proofs.Steps.{refusal_counts, by_transfer, by_event, said_of, outcome_of}
use Rattle.promise.proofs.Shown.{arrives_same}
use Rattle.promise.proofs.Own.{fits_same}
use Rattle.promise.proofs.Lowest.{lowest_first, first_lowest, lowest_le}

-- ---- transfers

number_of_verdict : (d : Device) (bytes : List ℕ) (v : Result Row Refusal) → number_of (transferred d bytes v).answer ≡ number_of v
number_of_verdict d bytes (Err refusal) = refl
number_of_verdict d bytes (Ok r) = refl

-- a check that refuses, before others
checked : (t : Bool) (refusal : Refusal) (v : Result Row Refusal) (n : ℕ) → number_of v ≡ n → number_of (pick t (Err refusal) v) ≡ pick t (number_for refusal) n
checked true refusal v n e = refl
checked false refusal v n e = e

module _ (d : Device) (bytes buffer : List ℕ) where
  length_same : (r : Row) → lookup rows (byte bytes 1) ≡ Some r → length_fits r bytes ≡ transfer_fits bytes
  unfolding length_fits transfer_fits
  length_same r at =
      let same = asked_same d (byte bytes 1) r at in
      rw (ap (λ x. x.1) same, ap (λ x. x.2) same, fits_same (drop 1 bytes))

  row_number : (r : Row) → number_of (row_judged d r bytes (length buffer))
      ≡ pick (not (length_fits r bytes)) 3
      (pick (ltb (length buffer) r.out) 4
      (pick (outside_set_up d.acting r.verb) 5
      (pick (finds_full d.tx.count r.verb) 6
      (pick (finds_none d.rx.count d.history.count r.verb) 7 0))))
  unfolding row_judged
  row_number r = checked _ WrongLength _ _ (checked _ ShortBuffer _ _ (checked _ OutsideSetUp _ _ (checked _ FindsFull _ _ (checked _ FindsNone (Ok r) 0 refl))))

  row_same : (r : Row) → lookup rows (byte bytes 1) ≡ Some r → eqb (length bytes) 0 ≡ false → device_in_range d ≡ true
      → number_of (row_judged d r bytes (length buffer)) ≡ number_due (situation d) (spi bytes buffer)
  unfolding number_due
  row_same r at some fits =
      let same = asked_same d (byte bytes 1) r at in
      row_number r
      ∙ rw (ap (λ x. x.0) same, ap (λ x. x.1) same, ap (λ x. x.3) same, ap (λ x. x.4) same, ap (λ x. x.5) same, length_same r at, fits, some)

  -- by whether the state is in range, the transfer empty, and by the row found
  judged_number : (p q : Bool) (f : Option Row) → device_in_range d ≡ p → eqb (length bytes) 0 ≡ q → lookup rows (byte bytes 1) ≡ f
      → number_of (pick p (pick q (Err WrongLength) (found_judged d f bytes (length buffer))) (Err OutOfRange)) ≡ number_due (situation d) (spi bytes buffer)
  unfolding number_due
  judged_number false q f fits some at = rw fits
  judged_number true true f fits some at = rw (fits, some)
  judged_number true false None fits some at = rw (fits, some, no_command (byte bytes 1) at)
  judged_number true false (Some r) fits some at = row_same r at some fits

  transfer_first : number_given step d (spi bytes buffer) ≡ number_due (situation d) (spi bytes buffer)
  unfolding transfer verdict
  transfer_first =
      number_of_verdict d bytes (verdict d bytes (length buffer))
      ∙ judged_number (proper d) (eqb (length bytes) 0) (lookup rows (byte bytes 1)) (sym (proper_same d)) refl refl

-- ---- events

begin_same : (t : Bool) (rest : Bool) → (t && rest) ≡ (not (not t) && rest)
begin_same true rest = refl
begin_same false rest = refl

pub impossible_same : (d : Device) (e : Event) → impossible d e ≡ cannot_be (situation d) e
unfolding impossible impossible_frame no_errors quiet_mode runs can_begin sends enabled cannot_be
impossible_same d (GoodFrame h acknowledged count) = ap not (arrives_same h count)
impossible_same d (ReceiveError kind) = refl
impossible_same d DominantBit = refl
impossible_same d (TransmitError kind counted) = refl
impossible_same d Begun = ap not (begin_same (eqb d.sending idle) _)
impossible_same d Completed = refl
impossible_same d ArbitrationLost = refl
impossible_same d ElevenRecessive = refl
impossible_same d BusQuiet = refl
impossible_same d BusActivity = refl
impossible_same d (Ticks count) = refl
impossible_same d (TxenPin level) = refl
impossible_same d MrPin = refl
impossible_same d Unknown = refl

pub told_out : (d : Device) (e : Event) (payload : List ℕ) (a : Answer) → (outcome_of d e payload a).answer ≡ a
told_out d e payload (Err refusal) = refl
told_out d e payload (Ok told) = refl

-- ---- 12

-- a frame that the mode takes reaches the temporary buffer, whatever filters and room say
room_reaches : (t full : Bool) (id : ℕ) (extended : Bool) → reaches_temporary (pick t A4 (pick full (QueuedOver id extended) Queued)) ≡ true
unfolding reaches_temporary
room_reaches true full id extended = refl
room_reaches false true id extended = refl
room_reaches false false id extended = refl

pub filters_reach : (d : Device) (set : ℕ) → reaches_temporary (filters_and_room d set) ≡ true
unfolding filters_and_room over_latest
filters_reach d set =
    let lost = header_in (latest d.rx).bytes in
    room_reaches (filton d && eqb set 0) (full d.rx) lost.id lost.extended

-- and one from the bus does, where none of A1 to A3 holds
bus_reaches : (a b c : Bool) (what : Arrival) → reaches_temporary what ≡ true
    → reaches_temporary (pick a A1 (pick b A2 (pick c A3 what))) ≡ (not a && (not b && (not c && true)))
unfolding reaches_temporary
bus_reaches true b c what reaches = refl
bus_reaches false true c what reaches = refl
bus_reaches false false true what reaches = refl
bus_reaches false false false what reaches = reaches

own_gives : (d : Device) (t : Bool) (b : Brought) → ((set : ℕ) → reaches_temporary (reason d b set) ≡ true)
    → let f = pick t (Some b) None in gives_number (said d f (hits d f)) ≡ t
unfolding said gives_number
own_gives d true b reaches = reaches (hits d (Some b))
own_gives d false b reaches = refl

gives_same : (d : Device) (e : Event) (payload : List ℕ) → gives_number (said_of d e payload) ≡ gets_number (situation d) e
unfolding said brings bus_frame own_frame reason takes_no_frames quiet_mode unacknowledged gives_number gets_number
gives_same d (GoodFrame h acknowledged count) payload =
    bus_reaches (takes_no_frames d.acting) d.counters.busoff (unacknowledged d.acting acknowledged) _ (filters_reach d _)
gives_same d Completed payload = own_gives d (eqb d.acting loopback) _ (filters_reach d)
gives_same d (ReceiveError kind) payload = refl
gives_same d DominantBit payload = refl
gives_same d (TransmitError kind counted) payload = refl
gives_same d Begun payload = refl
gives_same d ArbitrationLost payload = refl
gives_same d ElevenRecessive payload = refl
gives_same d BusQuiet payload = refl
gives_same d BusActivity payload = refl
gives_same d (Ticks count) payload = refl
gives_same d (TxenPin level) payload = refl
gives_same d MrPin payload = refl
gives_same d Unknown payload = refl

left_same : (d : Device) (e : Event) (payload : List ℕ) → no_number_left d (said_of d e payload) ≡ (gets_number (situation d) e && (situation d).spent)
unfolding no_number_left
left_same d e payload = ap (λ (t : Bool). t && spent d) (gives_same d e payload)

-- ---- the first of the three

answer_number : (p q s : Bool) (told : Option Arrival)
    → number_of (pick p (pick q (Err Impossible) (pick s (Err NoNumberLeft) (Ok told))) (Err OutOfRange)) ≡ pick (not p) 1 (pick q 8 (pick s 12 0))
answer_number false q s told = refl
answer_number true true s told = refl
answer_number true false true told = refl
answer_number true false false told = refl

event_first : (d : Device) (e : Event) (payload : List ℕ) → number_given step d (wire e payload) ≡ number_due (situation d) (wire e payload)
unfolding event answer answered_by number_due
event_first d e payload =
    ap number_of (told_out d e payload (answer d e payload))
    ∙ answer_number (proper d) (impossible d e) (no_number_left d (said_of d e payload)) (said_of d e payload)
    ∙ rw (proper_same d, impossible_same d e, left_same d e payload)

-- ---- the promises

pub first : TheFirstNumberIsGiven
first d (spi bytes buffer) = transfer_first d bytes buffer
first d (wire e payload) = event_first d e payload

-- a refusal is what has a number
by_number : {A : Type 0} (a : Result A Refusal) → refuses a ≡ not (eqb (number_of a) 0)
by_number (Ok said) = refl
by_number (Err refusal) = rw (refusal_counts refusal)

given_by_number : (given : Given) → is_refusal given ≡ not (eqb (number given) 0)
given_by_number (replied a buffer) = by_number a
given_by_number (answered a) = by_number a

fits : (d : Device) (i : Input) → Fits i (step d i).given
fits d (spi bytes buffer) = by_number (transfer d bytes (length buffer)).answer
fits d (wire e payload) = by_number (event d e payload).answer

where_due : (d : Device) (i : Input) → is_refusal (step d i).given ≡ not (eqb (number_due (situation d) i) 0)
where_due d i = given_by_number (step d i).given ∙ ap (λ n. not (eqb n 0)) (first d i)

below : (d : Device) (i : Input) → number_given step d i ≤ 12
unfolding number_due
below d i = rw (first d i) (lowest_le (applies (situation d) i) 12 1 12 (omega arith))

pub within : EveryInputIsAnswered
within d i = (below d i, fits d i, where_due d i)

pub exactly : EachNumberExactly
unfolding number_due
exactly d i n above below = (
  (λ is. lowest_first (applies (situation d) i) 12 1 n above (sym (first d i) ∙ is)),
  (λ says. first d i ∙ first_lowest (applies (situation d) i) 12 1 n above (omega arith) says),
)

pub refused : ARefusalChangesNothing
refused d (spi bytes buffer) =
    by_transfer (λ s. (number s.given ≡ 0 → ⊥) → Untouched d (spi bytes buffer) s) d bytes buffer
    (λ refusal e not_done. (refusal, refl))
    (λ r e at not_done. absurd (not_done refl))
refused d (wire e payload) =
    by_event (λ s. (number s.given ≡ 0 → ⊥) → Untouched d (wire e payload) s) d e payload
    (λ refusal not_done. (refusal, refl))
    (λ possible left not_done. absurd (not_done refl))
