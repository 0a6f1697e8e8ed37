-- In every device the count of arrival numbers goes on by one exactly where a frame gets one. Assumes nothing.
use mathlib.Core.Path.{◌≡◌, refl, sym, ◌∙◌, ap}
use mathlib.Core.Bool.{Bool, true, false, ◌&&◌}
use mathlib.Core.List.{List}
use Prim.Native.Nat.{ℕ, ◌+◌}
use native.Mathlib.Nat.{add-zero}
use lib.Dec.{eqb}
use lib.ListN.{length}
use Rattle.std.specs.Prelude.{Option, Some, None, Ok}
use Rattle.base.specs.Bit.{byte}
use Rattle.base.specs.Pick.{pick, flag}
use Rattle.chip.specs.declared.Device.{Device}
use Rattle.chip.specs.State.{mode_of, sleep, reset_bit, wakeup, spent}
use Rattle.flags.specs.Flags.{raised, bus_error}
use Rattle.flags.specs.Reset.{reset}
use Rattle.transmit.specs.Transmit.{aborted, cleared, stopped, begun, transmitted}
use Rattle.modes.specs.Modes.{mode_changed, ctrl0_written, can_sleep, bus_quiet, bus_activity}
use Rattle.receive.specs.declared.Arrival.{Arrival}
use Rattle.receive.specs.declared.Arrival.TheVariants.{Queued, QueuedOver, A1, A2, A3, A4}
use Rattle.receive.specs.declared.Brought.{Brought}
use Rattle.receive.specs.Receive.{hits, reaches_temporary, next_serial, serials_after, arrived}
use Rattle.events.specs.declared.Event.{Event}
use Rattle.events.specs.declared.Event.TheVariants.{GoodFrame, ReceiveError, DominantBit, TransmitError, Begun, Completed}
use Rattle.events.specs.declared.Event.TheVariants.{ArbitrationLost, ElevenRecessive, BusQuiet, BusActivity, Ticks, TxenPin, MrPin}
use Rattle.events.specs.declared.Event.TheVariants.{Unknown}
use Rattle.judged.specs.Judged.{reason, said, no_number_left, brings}
use Rattle.changed.specs.Changed.{heard, taken, receive_error_met, dominant_met, transmit_error_met, recessive_met, ticked, pin_set, arrival, after}
use Rattle.bus.specs.Event.{arrival_values, values_of, changed}
use Rattle.done.specs.Done.{register_changed, message_taken, entry_taken, receive_cleared, time_reset, message_written, filter_written}
use Rattle.done.specs.Done.{mask_written, rec_written, tec_written, deeds, does}
use Rattle.promise.specs.Promises.{NothingElseMovesTheCount}
use Rattle.promise.specs.Sequence.{spi, wire, answered, Step}
use Rattle.promise.specs.Numbering.{gives_one}
use Rattle.promise.proofs.Among.{◌and◌, among_keeps}
use Rattle.promise.proofs.Choices.{pick_keeps}
use Rattle.promise.proofs.EventsKept.{finds_number}
use Rattle.promise.proofs.Steps.{refused_transfer, done_transfer, by_transfer, refused_event, by_event}

module _ (d : Device) where
  abbrev Same : Device → Type 0
  Same e = e.serials.last ≡ d.serials.last

  -- ---- a command leaves the count

  ctrl0_same : (v : ℕ) → Same (ctrl0_written d v)
  unfolding ctrl0_written mode_changed raised stopped reset
  ctrl0_same v =
      pick_keeps Same (reset_bit v) _ _ refl
      (pick_keeps Same (eqb (mode_of v) sleep) _ _ refl (pick_keeps Same (eqb (mode_of v) d.acting) _ _ refl refl))

  does_same : (v k : ℕ) (bytes : List ℕ) → Same (does d v k bytes)
  unfolding does message_taken entry_taken aborted stopped cleared reset time_reset receive_cleared message_written rec_written tec_written filter_written mask_written register_changed
  does_same v k bytes =
      among_keeps (λ v e. Same e) v (deeds d k bytes) (register_changed d v (byte bytes 2))
      (refl and refl and refl and refl and refl and refl and refl and refl and refl and refl
      and pick_keeps Same (eqb (length bytes) 0) _ _ refl refl
      and ctrl0_same (byte bytes 2)
      and refl and refl and refl and refl and tt)
      (λ out. refl)

  -- ---- and so does an event that brings no frame

  activity_same : Same (bus_activity d)
  unfolding bus_activity mode_changed raised
  activity_same = pick_keeps Same (eqb d.acting sleep && wakeup d) _ _ refl refl

  quiet_same : Same (bus_quiet d)
  unfolding bus_quiet mode_changed raised
  quiet_same = pick_keeps Same (can_sleep d) _ _ refl refl

  after_same : (e : Event) → Same (after d e)
  unfolding after receive_error_met dominant_met transmit_error_met bus_error raised stopped begun transmitted recessive_met ticked pin_set reset
  after_same (GoodFrame h acknowledged count) = refl
  after_same (ReceiveError kind) = refl
  after_same DominantBit = refl
  after_same (TransmitError kind counted) = refl
  after_same Begun = refl
  after_same Completed = refl
  after_same ArbitrationLost = refl
  after_same ElevenRecessive = refl
  after_same BusQuiet = quiet_same
  after_same BusActivity = activity_same
  after_same (Ticks count) = refl
  after_same (TxenPin level) = refl
  after_same MrPin = refl
  after_same Unknown = refl

  -- ---- a frame that comes

  -- one that reaches the temporary buffer finds a number
  arrived_next : spent d ≡ false → (b : Brought) (set : ℕ) (what : Arrival) → (arrived d b set what).serials.last ≡ d.serials.last + 1
  unfolding arrived raised serials_after next_serial
  arrived_next left b set what = rw left

  arrival_cases : (t : Bool) (b : Brought) (set : ℕ) (what : Arrival) → reaches_temporary what ≡ t → (reaches_temporary what ≡ true → spent d ≡ false)
      → (pick t (taken (arrived d b set what) b.own) (bus_activity d)).serials.last ≡ d.serials.last + flag t
  unfolding taken heard transmitted raised
  arrival_cases true b set what reaches left =
      let next = arrived_next (left reaches) b set what in
      pick_keeps (λ (e : Device). e.serials.last ≡ d.serials.last + 1) b.own _ _ next next
  arrival_cases false b set what out left = activity_same ∙ sym (add-zero d.serials.last)

  arrival_counts : (b : Brought) (set : ℕ) (what : Arrival) → no_number_left d (Some what) ≡ false
      → (arrival d b set what).serials.last ≡ d.serials.last + flag (reaches_temporary what)
  unfolding arrival
  arrival_counts b set what left = arrival_cases (reaches_temporary what) b set what refl (finds_number d what left)

  -- ---- every input

  abbrev Counts : Step → Type 0
  Counts s = s.device.serials.last ≡ d.serials.last + flag (gives_one s.given)

  stays : (s : Step) → Same s.device → gives_one s.given ≡ false → Counts s
  stays s same none = rw (same, none) (sym (add-zero d.serials.last))

  gives-one : (what : Arrival) → reaches_temporary what ≡ gives_one (answered (Ok (Some what)))
  unfolding reaches_temporary values_of arrival_values
  gives-one Queued = refl
  gives-one (QueuedOver id extended) = refl
  gives-one A1 = refl
  gives-one A2 = refl
  gives-one A3 = refl
  gives-one A4 = refl

  -- by whether a frame comes
  event_cases : (e : Event) (b : Option Brought) → let told = said d b (hits d b) in no_number_left d told ≡ false
      → Counts (record { device = changed d e b (hits d b) told; given = answered (Ok told) })
  unfolding said values_of
  event_cases e None left = stays (record { device = after d e; given = answered (Ok None) }) (after_same e) refl
  event_cases e (Some b) left =
      let set = hits d (Some b) in
      let what = reason d b set in
      arrival_counts b set what left ∙ ap (λ (t : Bool). d.serials.last + flag t) (gives-one what)

pub counts_on : NothingElseMovesTheCount
unfolding values_of
counts_on d (spi bytes buffer) =
    by_transfer (Counts d) d bytes buffer
    (λ refusal e. stays d (refused_transfer d refusal buffer) refl refl)
    (λ row e at. stays d (done_transfer d row bytes buffer) (does_same d row.verb row.index bytes) refl)
counts_on d (wire e payload) =
    by_event (Counts d) d e payload
    (λ refusal. stays d (refused_event d refusal) refl refl)
    (λ can left. event_cases d e (brings d e payload) left)
