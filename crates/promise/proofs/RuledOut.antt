-- No wrong device keeps its promise. Assumes nothing.
use mathlib.Core.Path.{◌≡◌, refl, sym, ◌∙◌, ap, ap₂}
use mathlib.Core.Bool.{Bool, true, false, not, ◌&&◌, ◌||◌, false≢true}
use mathlib.Core.List.{List, [], ◌∷◌, ◌++◌, map}
use mathlib.Core.Logic.{inl, inr}
use Prim.Native.Nat.{ℕ}
use native.Mathlib.Omega.{arith}
use borrow.Author.Tests.{lt-ltb, le-leb, ltb-true, eq-eqb, ne_eqb, eqb-true, eqb-false}
use lib.Dec.{eqb, ltb}
use lib.ListN.{length, replicate, get_or, set}
use Rattle.fifo.specs.declared.Message.{Message}
use Rattle.fifo.specs.Queue.{waiting}
use Rattle.frame.specs.Received.{received}
use Rattle.frame.specs.Tables.{id_bits, id_as_read}
use Rattle.std.specs.Prelude.{Option, Some, None, Result, Ok, Err, is_some}
use Rattle.base.specs.Bit.{bit, byte}
use Rattle.base.specs.Pick.{pick, flag}
use Rattle.base.proofs.Booleans.{and_left, and_right}
use Rattle.frame.specs.declared.Header.{Header}
use Rattle.receive.specs.declared.Arrival.TheVariants.{A4}
use Rattle.refusal.specs.declared.Refusal.{Refusal}
use Rattle.refusal.specs.declared.Refusal.TheVariants.{OutOfRange, Impossible}
use Rattle.refusal.specs.Refusal.{number_of}
use Rattle.events.specs.declared.Event.TheVariants.{GoodFrame}
use Rattle.why.specs.declared.Place.{Place}
use Rattle.why.specs.declared.Why.{Why}
use Rattle.why.specs.Why.{no_filter}
use Rattle.bus.specs.declared.types.Numbers.{Numbers as NumbersGiven}
use Rattle.bus.specs.Hits.{hits}
use Rattle.bus.specs.Numbers.{numbers as numbers_of}
use Rattle.bus.specs.Pins.{pins}
use Rattle.chip.specs.declared.Device.{Device}
use Rattle.chip.specs.State.{fresh}
use Rattle.promise.specs.Sequence.{Input, spi, wire, Given, Step, shipped, number, values, run}
use Rattle.promise.specs.Frames.{Frame, blank, message, identifier_read}
use Rattle.promise.specs.Numbers.{Answered, First, Refused, Untouched, number_given}
use Rattle.promise.specs.Outbox.{Running, none, first, alone}
use Rattle.promise.specs.Due.{Due}
use Rattle.promise.specs.Held.{Each, Runs, Settled, Counted, Timed, Seen, Raised, Pinned, Whole, AsArrived, AsWritten}
use Rattle.promise.specs.After.{recorded, After, Answers, LosesAsTold, TakesFirst, Same, Onward}
use Rattle.promise.specs.Arrivals.{over_latest}
use Rattle.promise.specs.Ledger.{frames, oldest, newest}
use Rattle.promise.specs.Losses.{says_over, NoneReplaced, LossTold}
use Rattle.promise.specs.Noted.{noted, by_the_rules}
use Rattle.promise.specs.Numbering.{carried, listed, LastGiven, Carries, Rises, Rising, Distinct, reads_one, FirstTaken, CountsOn, ToldOfAny, Listed}
use Rattle.promise.specs.Questions.{InEveryDevice, Told}
use Rattle.promise.specs.Frames.{can_arrive}
use Rattle.promise.specs.Ranges.{device_in_range}
use Rattle.promise.specs.Explanations.{TheDevices, counts_at, before, IsFirst, EachHasOne, Pointed}
use Rattle.promise.specs.Filters.{compared}
use Rattle.promise.specs.Settings.{patterns}
use Rattle.promise.specs.Records.{Records}
use Rattle.promise.specs.Own.{own_message}
use Rattle.promise.proofs.Cases.{Case, lost, undue, unsettled, miscounted, mistimed, unseen, unraised, unwritten, unlike, untold, misshown, unlike_itself}
use Rattle.promise.proofs.Cases.{misjudged, misanswered, changing, mistold, misasked, misled, mispointed, astray, cases}
use Rattle.promise.proofs.Cases.{uncounted, restarted, uncarried, unordered, repeated, untaken, mislisted, misnumbered}
use Rattle.promise.proofs.Explanations.{is-a4, a4_is}
use Rattle.promise.proofs.Queues.{Shown}
use Rattle.promise.proofs.Sides.{alike, alike_self, counted, lost_since, set_in, shown_hits, all_bytes, counts, setting_bytes, levels, numbers, numbers_due, buffered, running_bytes, pointed_at, waits_and_runs, rises, told_in, sides, differ}

-- the promise that a case breaks
abbrev pub Promise : Case → Type 0
Promise (lost w is) = After w Whole
Promise (undue w is i) = After w (Answers w)
Promise (unsettled w is) = After w Settled
Promise (miscounted w is) = After w Counted
Promise (mistimed w is) = After w Timed
Promise (unseen w is) = After w Seen
Promise (unraised w is) = After w Raised
Promise (unwritten w is) = After w AsWritten
Promise (unlike w is) = Same w
Promise (untold w is i) = After w (LosesAsTold w)
Promise (misshown look is) = After shipped (Pinned look)
Promise (unlike_itself w is) = After w AsArrived
Promise (misjudged w d i) = First w
Promise (misanswered w d i) = Answered w
Promise (changing w d i) = Refused w
Promise (mistold ask is h count payload) = After shipped (Told ask)
Promise (misasked ask d h count payload) = InEveryDevice ask
Promise (misled explain d h acknowledged count payload) = TheDevices shipped explain
Promise (mispointed explain d h acknowledged count payload at) = Pointed explain
Promise (uncounted w is) = After w LastGiven
Promise (restarted w d i) = CountsOn w
Promise (uncarried w is) = After w Carries
Promise (unordered w is) = After w Rising
Promise (repeated w is i j) = After w Distinct
Promise (untaken w is i) = After w (TakesFirst w)
Promise (mislisted list is) = After shipped (Listed list)
Promise (misnumbered list d) = ToldOfAny list
Promise (astray w d r h i) = Onward w pins hits numbers_of

-- ---- each promise makes its two sides equal

given_due : (r : Records) (i : Input) (given : Given) → Due r i given → numbers i given ≡ numbers_due r i
given_due r (spi bytes buffer) given is = rw (is.2, is.1)
given_due r (wire e payload) given is = rw (is.0, is.1)

runs_bytes : (sending : ℕ) (buffer : Message) (r : Running) → Runs sending buffer r → buffered buffer r ≡ running_bytes r
runs_bytes sending buffer none is = refl
runs_bytes sending buffer (first m) is = ap (λ (m : Message). m.bytes) is.1
runs_bytes sending buffer (alone m) is = ap (λ (m : Message). m.bytes) is.1

first_shown : (fs : List Frame) → Each Shown fs
    → map (byte (message (get_or fs 0 blank)).bytes) (4 ∷ 5 ∷ 6 ∷ 7 ∷ []) ≡ identifier_read (get_or fs 0 blank).header
unfolding received id_as_read id_bits
first_shown [] all = refl
first_shown (f ∷ fs) all = all.0.identifier

-- a loss that is told is of the eighth, and where none is told there is none
none_lost : (r after : Records) → NoneReplaced r after → lost_since r after ≡ 0
none_lost r after (inl same) = rw same (omega arith)
none_lost r after (inr cleared) = rw cleared (omega arith)

loss_sides : (d : Device) (r : Records) (s : Step) (after : Records) (t : Bool) → says_over s.given ≡ t → LossTold d r s after
    → pick t (length (waiting d.rx) ∷ values s.given ++ carried s.device ++ all_bytes (waiting s.device.rx)) (lost_since r after ∷ [])
    ≡ pick t (8 ∷ over_latest (newest r.ledger) ++ set (carried d) 7 after.latest.serial ++ all_bytes (set (waiting d.rx) 7 (message after.latest))) (0 ∷ [])
loss_sides d r s after true over told = rw ((told.0 over).eight, (told.0 over).named, (told.0 over).stands, (told.0 over).carries)
loss_sides d r s after false other told = ap (λ n. n ∷ []) (none_lost r after (told.1 other))

-- a question, by whether the device is in range and the frame can be
by_question : (p can : Bool) (set : ℕ) (given : Result ℕ Refusal) → given ≡ pick p (pick can (Ok set) (Err Impossible)) (Err OutOfRange)
    → shown_hits given ≡ shown_hits (pick p (pick can (Ok (set_in given)) (Err Impossible)) (Err OutOfRange))
by_question true true set given is = rw is
by_question true false set given is = rw is
by_question false can set given is = rw is

-- what a refusal leaves is the same device
untouched_device : (d : Device) (i : Input) (s : Step) → Untouched d i s → s.device ≡ d
untouched_device d (spi bytes buffer) s is = ap (λ (s : Step). s.device) is.1
untouched_device d (wire e payload) s is = ap (λ (s : Step). s.device) is.1

left_device : (t : Bool) (d : Device) (i : Input) (s : Step) → eqb (number s.given) 0 ≡ t → ((number s.given ≡ 0 → ⊥) → Untouched d i s)
    → pick t d s.device ≡ d
left_device true d i s is kept = refl
left_device false d i s is kept = untouched_device d i s (kept (eqb-false (number s.given) 0 is))

-- numbers that rise, and places of a list that differ
rises_true : (above last : ℕ) (ns : List ℕ) → Rises above last ns → rises above last ns ≡ true
rises_true above last [] h = le-leb above last h
rises_true above last (n ∷ ns) h = rw (lt-ltb above n h.0) (rises_true n last ns h.1)

apart : (before within same : Bool) → (before ≡ true → within ≡ true → same ≡ true → ⊥) → (before && (within && same)) ≡ false
apart true true true never = absurd (never refl refl refl)
apart true true false never = refl
apart true false same never = refl
apart false within same never = refl

-- what is told of a device, by whether it is in range
by_range : (t : Bool) (told : Result NumbersGiven Refusal) → (t ≡ true → number_of told ≡ 0) × (t ≡ false → told ≡ Err OutOfRange)
    → pick t (number_of told ∷ []) (told_in told) ≡ pick t (0 ∷ []) (told_in (Err OutOfRange))
by_range true told is = ap (λ n. n ∷ []) (is.0 refl)
by_range false told is = ap told_in (is.1 refl)

-- a read, by whether it is one
by_read : (t : Bool) (d : Device) (r : Records) (s : Step) (after : Records) → (t ≡ true → FirstTaken d r s after)
    → pick t (carried d) [] ≡ pick t ((oldest r.ledger).serial ∷ carried s.device) []
by_read true d r s after takes = (takes refl).first
by_read false d r s after takes = refl

-- a place that is the first
implied : (e : Bool) (x y : ℕ) → (e ≡ true → x ≡ y) → (not e || eqb x y) ≡ true
implied true x y alike = eq-eqb x y (alike refl)
implied false x y alike = refl

first_sides : (frame filter mask : List ℕ) (at : ℕ × ℕ) (p : Place) → IsFirst frame filter mask p → pointed_at frame filter mask at (Some p) ≡ 1 ∷ 0 ∷ 1 ∷ []
first_sides frame filter mask at p f =
    rw (
      f.counts,
      ne_eqb p.wanted p.came f.differ,
      implied (before at.0 at.1 p && counts_at mask at.0 at.1) (bit at.1 (byte frame at.0)) (bit at.1 (byte filter at.0))
          (λ e. f.first at.0 at.1 (and_left (before at.0 at.1 p) (counts_at mask at.0 at.1) e) (and_right (before at.0 at.1 p) (counts_at mask at.0 at.1) e)),
    )

module _ (d : Device) (h : Header) (payload : List ℕ) (at : ℕ × ℕ) (w : Why) where
  abbrev pointed : List ℕ
  pointed = pointed_at (compared h payload) (get_or (patterns d.filters) 0 []) (get_or (patterns d.masks) 0 []) at (get_or w.places 0 None)

  by_a4 : (t : Bool) → no_filter w.answer ≡ t
      → (w.answer ≡ Ok (Some A4) → EachHasOne d h payload w.places) × ((w.answer ≡ Ok (Some A4) → ⊥) → w.places ≡ replicate 8 None)
      → pick t pointed (map (λ (p : Option Place). flag (is_some p)) w.places) ≡ pick t (1 ∷ 0 ∷ 1 ∷ []) (replicate 8 0)
  by_a4 true e holds =
      let has = (holds.0 (is-a4 w.answer e)).1 0 (omega arith) in
      rw has.1 (first_sides _ _ _ at has.0 has.2)
  by_a4 false e holds = ap (map (λ (p : Option Place). flag (is_some p))) (holds.1 (λ a4. false≢true (sym e ∙ a4_is w.answer a4)))

equal : (c : Case) → Promise c → (sides c).0 ≡ (sides c).1
equal (lost w is) holds = ap all_bytes (holds is)
equal (undue w is i) holds = given_due (recorded w is) i (w (run w fresh is) i).given (holds is i)
equal (unsettled w is) holds = ap setting_bytes (holds is)
equal (miscounted w is) holds = ap counts (holds is)
equal (mistimed w is) holds = ap (λ n. n ∷ []) (holds is)
equal (unseen w is) holds = ap (λ n. n ∷ []) (holds is)
equal (unraised w is) holds = ap (λ n. n ∷ []) (holds is)
equal (unwritten w is) holds =
    rw (holds is).0
    (ap (λ l. all_bytes (map own_message (recorded w is).outbox.queue) ++ l)
    (runs_bytes (run w fresh is).sending (run w fresh is).buffer (recorded w is).outbox.running (holds is).1))
equal (unlike w is) holds = ap counted (holds is)
equal (untold w is i) holds =
    let d = run w fresh is in
    let r = recorded w is in
    loss_sides d r (w d i) (noted by_the_rules r i (w d i).given) (says_over (w d i).given) refl (holds is i)
equal (misshown look is) holds = ap levels (holds is)
equal (unlike_itself w is) holds = first_shown (frames (recorded w is).ledger) (holds is).1
equal (misjudged w d i) holds = ap (λ n. n ∷ []) (holds d i)
equal (misanswered w d i) holds = ap (λ t. flag t ∷ []) (holds d i).2
equal (changing w d i) holds = ap waits_and_runs (left_device (eqb (number_given w d i) 0) d i (w d i) refl (holds d i))
equal (mistold ask is h count payload) holds = ap shown_hits (holds is h count payload)
equal (misasked ask d h count payload) holds =
    let is = holds d h count payload in
    by_question (device_in_range d) (can_arrive h count) is.0 (ask d h count payload) is.1
equal (misled explain d h acknowledged count payload) holds =
    ap (numbers (wire (GoodFrame h acknowledged count) payload)) (holds d h acknowledged count payload)
equal (mispointed explain d h acknowledged count payload at) holds =
    let w = explain d h acknowledged count payload in
    by_a4 d h payload at w (no_filter w.answer) refl (holds d h acknowledged count payload)
equal (uncounted w is) holds = ap (λ n. n ∷ []) (holds is)
equal (restarted w d i) holds = ap (λ n. n ∷ []) (holds d i)
equal (uncarried w is) holds = ap₂ (λ n ns. n ∷ ns) (holds is).1 (holds is).0
equal (unordered w is) holds = ap (λ t. flag t ∷ []) (rises_true 0 (run w fresh is).serials.last (carried (run w fresh is)) (holds is))
equal (repeated w is i j) holds =
    let ns = listed (run w fresh is) (recorded w is) in
    ap (λ t. flag t ∷ [])
    (apart (ltb i j) (ltb j (length ns)) (eqb (get_or ns i 0) (get_or ns j 0))
    (λ before within same. holds is i j (ltb-true i j before) (ltb-true j (length ns) within) (eqb-true (get_or ns i 0) (get_or ns j 0) same)))
equal (untaken w is i) holds =
    let d = run w fresh is in
    let r = recorded w is in
    by_read (reads_one i (w d i).given) d r (w d i) (noted by_the_rules r i (w d i).given) (holds is i)
equal (mislisted list is) holds = ap told_in (holds is)
equal (misnumbered list d) holds = by_range (device_in_range d) (list d) (holds d)
equal (astray w d r h i) holds = given_due r i (w d i).given ((holds d r h).1 i)

-- ---- and in no case are they

out : (c : Case) → alike (sides c).0 (sides c).1 ≡ false → Promise c → ⊥
out c differs kept = false≢true (sym differs ∙ rw (equal c kept) (alike_self (sides c).1))

each_out : (cs : List Case) → map (λ c. alike (sides c).0 (sides c).1) cs ≡ replicate (length cs) false → Each (λ c. Promise c → ⊥) cs
each_out [] e = tt
each_out (c ∷ cs) e = (out c (cc), each_out cs (cc))

pub ruled_out : Each (λ c. Promise c → ⊥) cases
ruled_out = each_out cases differ
