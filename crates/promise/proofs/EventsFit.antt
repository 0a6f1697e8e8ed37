-- Every event that is possible keeps a device in its ranges. Assumes nothing.
use mathlib.Core.Path.{◌≡◌, refl}
use mathlib.Core.Bool.{Bool, true, false, not, ◌&&◌}
use mathlib.Core.List.{List}
use Prim.Native.Nat.{ℕ, ◌+◌}
use native.Mathlib.Omega.{arith}
use borrow.Author.Tests.{le-leb, not-false}
use lib.Dec.{eqb, leb, ltb}
use Rattle.std.specs.Prelude.{Option, Some, None, Ok}
use Rattle.base.specs.Bit.{byte}
use Rattle.base.proofs.Booleans.{and_left, and_right}
use Rattle.counters.specs.Rules.{receive_error, dominant_bit, good_frame, transmit_error, completed, eleven_recessive, groups_after}
use Rattle.fifo.specs.Queue.{is_empty, in_range}
use Rattle.chip.specs.declared.Device.{Device}
use Rattle.chip.specs.State.{mode_of, normal, sleep, monitor, bor, wakeup, idle, first_in_fifo}
use Rattle.flags.specs.Flags.{raised, bus_error}
use Rattle.transmit.specs.Transmit.{stopped, begun, can_begin, transmitted, fifo_after, counted_completion}
use Rattle.modes.specs.Modes.{mode_changed, bus_quiet, bus_activity, can_sleep}
use Rattle.receive.specs.declared.Arrival.{Arrival}
use Rattle.receive.specs.declared.Brought.{Brought}
use Rattle.receive.specs.Receive.{hits, arrived, queue_after, is_queued, reaches_temporary}
use Rattle.events.specs.declared.ErrorKind.{ErrorKind}
use Rattle.events.specs.declared.Event.{Event}
use Rattle.events.specs.declared.Event.TheVariants.{GoodFrame, ReceiveError, DominantBit, TransmitError, Begun, Completed, ArbitrationLost, ElevenRecessive}
use Rattle.events.specs.declared.Event.TheVariants.{BusQuiet, BusActivity, Ticks, TxenPin, MrPin, Unknown}
use Rattle.judged.specs.Judged.{impossible, reason, said, brings}
use Rattle.changed.specs.Changed.{err_bit, counted_frame, heard, taken, counted_receive_error, receive_error_met, dominant_met, counted_transmit_error}
use Rattle.changed.specs.Changed.{transmit_error_met, recessive_met, ticked, pin_set, arrival, after}
use Rattle.bus.specs.Event.{changed}
use Rattle.promise.proofs.Choices.{pick_under}
use Rattle.promise.proofs.Ranges.{InRange, put_fits, over_fits, take_fits}
use Rattle.promise.proofs.Fits.{Grouped, woken, errs_more, tag_fits, some_wait}
use Rattle.promise.proofs.CommandsFit.{reset_in, stopped_in}
use Rattle.promise.proofs.Steps.{said_of, outcome_of}

module _ (d : Device) (h : InRange d) where
  heard_in : InRange (heard d)
  unfolding heard counted_frame good_frame
  heard_in =
      (h.0, h.1, h.2, pick_under Grouped (eqb d.acting normal) _ _ (λ counts. h.3) (λ stands. h.3), h.4, h.5, h.6, h.7)

  arrived_in : (b : Brought) (set : ℕ) (what : Arrival) → InRange (arrived d b set what)
  unfolding arrived raised queue_after
  arrived_in b set what = (
    pick_under (λ q. in_range q ≡ true) (is_queued what) _ _ (λ queued. over_fits d.rx _ h.0) (λ refused. h.0),
    h.1,
    h.2,
    h.3,
    h.4,
    h.5,
    h.6,
    h.7,
  )

  activity_in : InRange (bus_activity d)
  unfolding bus_activity mode_changed raised
  activity_in =
      pick_under InRange (eqb d.acting sleep && wakeup d) _ _
      (λ wakes. (h.0, h.1, h.2, h.3, h.4, h.5, h.6, rw (woken d.regs.ctrl0)))
      (λ stays. h)

  quiet_in : InRange (bus_quiet d)
  unfolding bus_quiet mode_changed raised can_sleep
  quiet_in =
      pick_under InRange (can_sleep d) _ _
      (λ sleeps. (h.0, h.1, h.2, h.3, h.4, h.5, h.6, rw (and_left (eqb (mode_of d.regs.ctrl0) sleep) _ sleeps)))
      (λ stays. h)

  errors_in : (kind : ErrorKind) → leb (bus_error d (err_bit kind)).regs.errs 31 ≡ true
  unfolding bus_error raised
  errors_in kind = errs_more d.regs.errs kind h.4

  received_in : (kind : ErrorKind) → InRange (receive_error_met d kind)
  unfolding receive_error_met bus_error raised counted_receive_error receive_error
  received_in kind =
      (h.0, h.1, h.2, pick_under Grouped (eqb d.acting monitor) _ _ (λ stands. h.3) (λ counts. h.3), errors_in kind, h.5, h.6, h.7)

  dominant_in : InRange (dominant_met d)
  unfolding dominant_met dominant_bit
  dominant_in =
      (h.0, h.1, h.2, pick_under Grouped (eqb d.acting monitor) _ _ (λ stands. h.3) (λ counts. h.3), h.4, h.5, h.6, h.7)

  transmit_groups : (counted : Bool) → leb (counted_transmit_error d.counters d.acting counted).groups 128 ≡ true
  unfolding counted_transmit_error transmit_error
  transmit_groups counted =
      pick_under Grouped counted _ _
      (λ counts. pick_under Grouped (eqb d.acting monitor) _ _
      (λ stands. h.3)
      (λ moves. pick_under Grouped d.counters.busoff _ _
      (λ off. h.3)
      (λ on. pick_under Grouped (ltb 255 (d.counters.tec + 8)) _ _ (λ over. refl) (λ under. h.3))))
      (λ exempt. h.3)

  transmit_error_in : (kind : ErrorKind) (counted : Bool) → InRange (transmit_error_met d kind counted)
  unfolding transmit_error_met stopped bus_error raised
  transmit_error_in kind counted =
      (h.0, h.1, h.2, transmit_groups counted, errors_in kind, h.5, refl, h.7)

  completion_groups : leb (counted_completion d.counters d.acting).groups 128 ≡ true
  unfolding counted_completion completed
  completion_groups =
      pick_under Grouped (eqb d.acting monitor) _ _
      (λ stands. h.3)
      (λ moves. pick_under Grouped d.counters.busoff _ _ (λ off. h.3) (λ on. h.3))

  transmitted_in : InRange (transmitted d)
  unfolding transmitted raised fifo_after
  transmitted_in = (
    h.0,
    pick_under (λ q. in_range q ≡ true) (eqb d.sending first_in_fifo) _ _ (λ own. take_fits d.tx h.1) (λ gone. h.1),
    put_fits d.history _ h.2,
    completion_groups,
    h.4,
    tag_fits (byte d.buffer.bytes 1),
    refl,
    h.7,
  )

  begun_in : can_begin d ≡ true → InRange (begun d)
  unfolding begun can_begin
  begun_in can = (
    h.0,
    h.1,
    h.2,
    h.3,
    h.4,
    h.5,
    some_wait d.tx.count (and_left (not (is_empty d.tx)) _ (and_right (eqb d.sending idle) _ can)),
    h.7,
  )

  ticked_in : (count : ℕ) → InRange (ticked d count)
  unfolding ticked
  ticked_in count = h

  pin_in : (level : Bool) → InRange (pin_set d level)
  unfolding pin_set
  pin_in level = h

  recessive_groups : leb (recessive_met d).counters.groups 128 ≡ true
  unfolding recessive_met eleven_recessive
  recessive_groups =
      pick_under Grouped d.counters.busoff _ _
      (λ off. pick_under Grouped (eqb (groups_after d.counters) 128 && bor d) _ _
      (λ ends. refl)
      (λ goes_on. le-leb (groups_after d.counters) 128 (omega arith)))
      (λ on. h.3)

  recessive_in : InRange (recessive_met d)
  unfolding recessive_met
  recessive_in = (h.0, h.1, h.2, recessive_groups, h.4, h.5, h.6, h.7)

-- a frame that is taken arrives first
arrival_in : (d : Device) → InRange d → (b : Brought) (set : ℕ) (what : Arrival) → InRange (arrival d b set what)
unfolding arrival taken
arrival_in d h b set what =
    let arrives = arrived_in d h b set what in
    pick_under InRange (reaches_temporary what) _ _
    (λ reaches. pick_under InRange b.own _ _ (λ own. transmitted_in (arrived d b set what) arrives) (λ bus. heard_in (arrived d b set what) arrives))
    (λ stays. activity_in d h)

-- an event that brings no frame
after_in : (d : Device) → InRange d → (e : Event) → impossible d e ≡ false → InRange (after d e)
unfolding impossible after
after_in d h (GoodFrame header acknowledged n) possible = h
after_in d h Completed possible = transmitted_in d h
after_in d h (ReceiveError kind) possible = received_in d h kind
after_in d h DominantBit possible = dominant_in d h
after_in d h (TransmitError kind counted) possible = transmit_error_in d h kind counted
after_in d h Begun possible = begun_in d h (not-false (can_begin d) possible)
after_in d h ArbitrationLost possible = stopped_in d h
after_in d h ElevenRecessive possible = recessive_in d h
after_in d h BusQuiet possible = quiet_in d h
after_in d h BusActivity possible = activity_in d h
after_in d h (Ticks count) possible = ticked_in d h count
after_in d h (TxenPin level) possible = pin_in d h level
after_in d h MrPin possible = reset_in d h
after_in d h Unknown possible = h

-- by whether it brings one
changed_in : (d : Device) → InRange d → (e : Event) → impossible d e ≡ false → (b : Option Brought) → InRange (changed d e b (hits d b) (said d b (hits d b)))
unfolding said
changed_in d h e possible None = after_in d h e possible
changed_in d h e possible (Some b) = arrival_in d h b (hits d (Some b)) (reason d b (hits d (Some b)))

-- every event that is possible
pub event_in : (d : Device) → InRange d → (e : Event) (payload : List ℕ) → impossible d e ≡ false → InRange (outcome_of d e payload (Ok (said_of d e payload))).device
event_in d h e payload possible = changed_in d h e possible (brings d e payload)
