-- Each event that is done keeps the device to the records, and says what is due. Assumes nothing.
use mathlib.Core.Path.{◌≡◌, refl, sym, ◌∙◌, ap, subst}
use mathlib.Core.Bool.{Bool, true, false, not, ◌&&◌, false≢true}
use mathlib.Core.List.{List, []}
use Prim.Native.Nat.{ℕ, ◌≤◌}
use native.Mathlib.Omega.{arith}
use borrow.Author.Tests.{not-true, not-false}
use lib.Bits.{bit_or}
use lib.Dec.{eqb}
use Rattle.std.specs.Prelude.{Option, Some, None, Ok}
use Rattle.base.specs.Pick.{pick}
use Rattle.base.proofs.Booleans.{and_left, and_right}
use Rattle.counters.specs.Rules.{receive_error, dominant_bit, transmit_error, completed, eleven_recessive}
use Rattle.fifo.specs.Queue.{is_empty}
use Rattle.frame.specs.Length.{possible, data_fits}
use Rattle.chip.specs.declared.Device.{Device}
use Rattle.chip.specs.State.{loopback, idle, bor, spent}
use Rattle.flags.specs.Flags.{raised, bus_error}
use Rattle.transmit.specs.Transmit.{can_begin, without_tx1m as tx1m_cleared, ctrl1_begun, begun, stopped, counted_completion, transmitted}
use Rattle.receive.specs.declared.Arrival.{Arrival}
use Rattle.receive.specs.declared.Brought.{Brought}
use Rattle.receive.specs.Receive.{hits, reaches_temporary, arrived, own_header, own_data, own_frame}
use Rattle.events.specs.declared.ErrorKind.{ErrorKind}
use Rattle.events.specs.declared.ErrorKind.TheVariants.{Stuff, Ack, Crc, Form, Bit}
use Rattle.events.specs.declared.Event.{Event}
use Rattle.events.specs.declared.Event.TheVariants.{GoodFrame, ReceiveError, DominantBit, TransmitError, Begun, Completed}
use Rattle.events.specs.declared.Event.TheVariants.{ArbitrationLost, ElevenRecessive, BusQuiet, BusActivity, Ticks, TxenPin, MrPin}
use Rattle.events.specs.declared.Event.TheVariants.{Unknown}
use Rattle.judged.specs.Judged.{runs, impossible_frame, impossible, reason, said, gives_number, no_number_left, bus_frame, brings}
use Rattle.changed.specs.Changed.{err_bit, counted_receive_error, receive_error_met, dominant_met, counted_transmit_error, transmit_error_met}
use Rattle.changed.specs.Changed.{recessive_met, ticked, pin_set, arrival, after}
use Rattle.bus.specs.Event.{arrival_values, values_of, changed}
use Rattle.promise.specs.Counting.{group_met}
use Rattle.promise.specs.Flags.{txcplt, kind_bit}
use Rattle.promise.specs.Frames.{Frame}
use Rattle.promise.specs.Outbox.{in_flight, rests}
use Rattle.promise.specs.Arrivals.{arriving, own, frame, nothing, due_of, values_due}
use Rattle.promise.specs.Noted.{begun_met, completed_met, arrival_met, happened}
use Rattle.promise.specs.Own.{Own}
use Rattle.promise.specs.Records.{Records}
use Rattle.promise.specs.Sequence.{fate}
use Rattle.promise.specs.Settings.{Settings, settings_of, with_ctrl1, without_tx1m, with_pin, osm, bor as bor_bit}
use Rattle.promise.proofs.Steps.{said_of, outcome_of}
use Rattle.promise.proofs.Arrivals.{reason_of, bus_due, own_due, finds, own_reaches, own_taken, arrival_kept, frame_kept}
use Rattle.promise.proofs.Boxes.{rests_same, buffer_runs, halted_boxed, begun_boxed, transmitted_boxed}
use Rattle.promise.proofs.Fits.{some_wait}
use Rattle.promise.proofs.Kept.{Kept}
use Rattle.promise.proofs.Own.{header_possible, header_of, eight_of}
use Rattle.promise.proofs.ModesKept.{reset_kept, quiet_kept, activity_kept}

kind_same : (kind : ErrorKind) → err_bit kind ≡ kind_bit kind
unfolding err_bit
kind_same Stuff = refl
kind_same Ack = refl
kind_same Crc = refl
kind_same Form = refl
kind_same Bit = refl

module _ (d : Device) (r : Records) (h : Kept d r) where
  acts : d.acting ≡ r.settings.acting
  acts = ap (λ (s : Settings). s.acting) h.0

  -- ---- transmissions

  pub transmitted_kept : rests r.outbox.running ≡ false → Kept (transmitted d) (completed_met r)
  unfolding transmitted raised tx1m_cleared counted_completion completed
  transmitted_kept some = (
    ap without_tx1m h.0,
    h.1,
    (rw (h.2.0, acts), h.2.1, h.2.2, ap (λ bits. bit_or bits txcplt) h.2.3),
    h.3,
    rw (← h.2.1) (transmitted_boxed _ _ _ _ _ _ h.4 d.time some),
  )

  one_shot : (t : Bool) (s : Settings) (v : ℕ) → with_ctrl1 s (pick t v s.ctrl1) ≡ pick t (with_ctrl1 s v) s
  one_shot true s v = refl
  one_shot false s v = refl

  pub begun_kept : can_begin d ≡ true → Kept (begun d) (begun_met r)
  unfolding begun can_begin ctrl1_begun tx1m_cleared
  begun_kept can = (
    one_shot (osm (settings_of d)) (settings_of d) _ ∙ ap (λ (s : Settings). pick (osm s) (without_tx1m s) s) h.0,
    h.1,
    h.2,
    h.3,
    begun_boxed _ _ _ _ _ _ h.4 (some_wait d.tx.count (and_left (not (is_empty d.tx)) _ (and_right (eqb d.sending idle) _ can))),
  )

-- ---- what an event says, and leaves

-- where 12 is not due, a frame that gets a number finds one
pub finds_number : (d : Device) (what : Arrival) → no_number_left d (Some what) ≡ false → reaches_temporary what ≡ true → spent d ≡ false
unfolding no_number_left gives_number
finds_number d what left reaches = sym (ap (λ (t : Bool). t && spent d) reaches) ∙ left

module _ (d : Device) (r : Records) (h : Kept d r) (few : d.rx.count ≤ 8) where
  runs_some : runs d ≡ true → rests r.outbox.running ≡ false
  unfolding runs
  runs_some is = not-true (rests r.outbox.running) (rw (rests_same _ _ _ _ _ _ h.4) at is)

  -- ---- a completion: in loopback the own message arrives first

  module _ (some : rests r.outbox.running ≡ false) where
    abbrev m : Own
    m = in_flight r.outbox.running

    abbrev b : Brought
    b = record { own = true; acknowledged = true; header = own_header d; payload = own_data d }

    abbrev set : ℕ
    set = hits d (Some b)

    abbrev told : Arrival
    told = reason d b set

    header_is : b.header ≡ m.header
    header_is = rw (buffer_runs _ _ _ _ _ _ h.4 some) (header_of m h.4.flying)

    data_is : b.payload ≡ m.eight
    data_is = rw (buffer_runs _ _ _ _ _ _ h.4 some) (eight_of m h.4.flying)

    own_same : arriving r b.header b.payload ≡ own r
    own_same = rw (header_is, data_is)

    own_possible : possible b.header ≡ true
    own_possible = rw header_is (header_possible m h.4.flying)

    own_left : no_number_left d (Some told) ≡ false → spent d ≡ false
    own_left left = finds_number d told left (own_reaches d r h few b own_possible refl)

    own_says : arrival_values told ≡ due_of r (frame (own r) [])
    own_says = own_due d r h few b own_possible refl ∙ ap (λ (f : Frame). due_of r (frame f [])) own_same

    own_kept : spent d ≡ false → Kept (arrival d b set told) (completed_met (arrival_met r (own r) (reason_of told)))
    own_kept left =
        rw (own_taken d r h few b own_possible refl)
        (subst (λ (f : Frame). Kept (transmitted (arrived d b set told)) (completed_met (arrival_met r f (reason_of told)))) own_same
        (transmitted_kept (arrived d b set told) (arrival_met r (arriving r b.header b.payload) (reason_of told))
        (arrival_kept d r h few b own_possible told (finds d r h few b own_possible) left) some))

    -- what comes back of it, if it does
    abbrev back : Bool → Option Brought
    back t = pick t (Some b) None

    abbrev said_back : Bool → Option Arrival
    said_back t = said d (back t) (hits d (back t))

    -- by whether it does, as the device and as the records have it
    abbrev Agreeing : Bool → Bool → Type 0
    Agreeing t u =
        Kept
        (changed d Completed (back t) (hits d (back t)) (said_back t))
        (completed_met (pick u (arrival_met r (own r) (fate (due_of r (pick u (frame (own r) []) nothing)))) r))
        × (values_of (Ok (said_back t)) ≡ due_of r (pick u (frame (own r) []) nothing))

    by_mode : (t : Bool) → no_number_left d (said_back t) ≡ false → Agreeing t t
    unfolding said after values_of
    by_mode true left = (
      subst (λ (n : ℕ). Kept (arrival d b set told) (completed_met (arrival_met r (own r) n))) (ap fate own_says) (own_kept (own_left left)),
      own_says,
    )
    by_mode false left = (transmitted_kept d r h some, refl)

    own_agrees : no_number_left d (said_back (eqb d.acting loopback)) ≡ false → Agreeing (eqb d.acting loopback) (eqb r.settings.acting loopback)
    own_agrees left =
        subst (λ (u : Bool). Agreeing (eqb d.acting loopback) u) (ap (λ a. eqb a loopback) (acts d r h)) (by_mode (eqb d.acting loopback) left)

  -- ---- each event

  -- the device keeps to the records, and the answer has the values that are due
  abbrev Agrees : Event → List ℕ → Option Arrival → Type 0
  Agrees e payload told =
      Kept (outcome_of d e payload (Ok told)).device (happened r e payload (fate (values_due r e payload)))
      × (values_of (Ok told) ≡ values_due r e payload)

  pub event_agrees : (e : Event) (payload : List ℕ) → impossible d e ≡ false → no_number_left d (said_of d e payload) ≡ false → Agrees e payload (said_of d e payload)
  unfolding said brings bus_frame own_frame after happened impossible impossible_frame receive_error_met bus_error raised counted_receive_error receive_error dominant_met dominant_bit
      transmit_error_met counted_transmit_error transmit_error stopped recessive_met eleven_recessive ticked pin_set values_of
  event_agrees (GoodFrame header acknowledged count) payload can left =
      let b : Brought = bus_frame header acknowledged payload in
      let ok = and_left (possible header) _ (not-false (possible header && data_fits header count) can) in
      let what = reason d b (hits d (Some b)) in
      let due = bus_due d r h few b ok refl in (
        rw (← due) (frame_kept d r h few b ok what (finds d r h few b ok) refl (finds_number d what left)),
        due,
      )
  event_agrees (ReceiveError kind) payload can left = (
    (
      h.0,
      h.1,
      (rw (h.2.0, acts d r h), h.2.1, rw (kind_same kind, h.2.2), rw h.2.3),
      h.3,
      h.4,
    ),
    refl,
  )
  event_agrees DominantBit payload can left = ((h.0, h.1, (rw (h.2.0, acts d r h), h.2.1, h.2.2, h.2.3), h.3, h.4), refl)
  event_agrees (TransmitError kind counted) payload can left = (
    (
      h.0,
      h.1,
      (rw (h.2.0, acts d r h), h.2.1, rw (kind_same kind, h.2.2), rw h.2.3),
      h.3,
      halted_boxed _ _ _ _ _ _ h.4,
    ),
    refl,
  )
  event_agrees Begun payload can left = (begun_kept d r h (not-false (can_begin d) can), refl)
  event_agrees Completed payload can left = own_agrees (runs_some (not-false (runs d) can)) left
  event_agrees ArbitrationLost payload can left = ((h.0, h.1, h.2, h.3, halted_boxed _ _ _ _ _ _ h.4), refl)
  event_agrees ElevenRecessive payload can left = (
    (
      h.0,
      h.1,
      (ap (λ c. group_met c (bor d)) h.2.0 ∙ ap (λ s. group_met r.counters (bor_bit s)) h.0, h.2.1, h.2.2, h.2.3),
      h.3,
      h.4,
    ),
    refl,
  )
  event_agrees BusQuiet payload can left = (quiet_kept d r h, refl)
  event_agrees BusActivity payload can left = (activity_kept d r h, refl)
  event_agrees (Ticks count) payload can left = ((h.0, h.1, (h.2.0, rw h.2.1 (omega arith), h.2.2, h.2.3), h.3, h.4), refl)
  event_agrees (TxenPin level) payload can left = ((ap (λ s. with_pin s level) h.0, h.1, h.2, h.3, h.4), refl)
  event_agrees MrPin payload can left = (reset_kept d r h, refl)
  event_agrees Unknown payload can left = absurd (false≢true (sym can))
