-- A frame that arrives: what it is told, and what the device and the records make of it. Assumes nothing.
use mathlib.Core.Path.{◌≡◌, refl, sym, ◌∙◌, ap, ap₂, subst}
use mathlib.Core.Bool.{Bool, true, false, ◌&&◌, false≢true}
use mathlib.Core.List.{List, [], ◌∷◌, map-append}
use Prim.Native.Nat.{ℕ, ◌+◌, ◌≤◌}
use native.Mathlib.Omega.{arith}
use borrow.Author.Tests.{leb-true}
use lib.Bits.{bit_or}
use lib.Dec.{eqb, leb}
use lib.ListN.{drop, set as set_at}
use Rattle.std.specs.Prelude.{Some}
use Rattle.base.specs.Pick.{pick, flag}
use Rattle.counters.specs.Rules.{good_frame}
use Rattle.fifo.specs.Queue.{full, place_over, put_over, latest}
use Rattle.fifo.specs.declared.Message.{Message}
use Rattle.frame.specs.declared.Header.{Header}
use Rattle.frame.specs.Length.{possible}
use Rattle.frame.specs.Received.{header_in}
use Rattle.frame.proofs.ReadBack.{header_back}
use Rattle.chip.specs.declared.Device.{Device}
use Rattle.chip.specs.State.{filton, spent}
use Rattle.flags.specs.Flags.{raised}
use Rattle.transmit.specs.Transmit.{transmitted}
use Rattle.modes.specs.Modes.{bus_activity}
use Rattle.receive.specs.declared.Arrival.{Arrival}
use Rattle.receive.specs.declared.Brought.{Brought}
use Rattle.receive.specs.declared.Arrival.TheVariants.{Queued, QueuedOver, A1, A2, A3, A4}
use Rattle.receive.specs.Receive.{matching, hits, over_latest as over_latest_of, filters_and_room, is_queued, reaches_temporary, queued_flag, filter_flag}
use Rattle.receive.specs.Receive.{queue_after, next_serial, serials_after, message as message_at, arrived}
use Rattle.judged.specs.Judged.{quiet_mode, takes_no_frames, unacknowledged, reason}
use Rattle.changed.specs.Changed.{counted_frame, heard, taken, arrival}
use Rattle.bus.specs.Event.{arrival_values}
use Rattle.promise.specs.Counting.{frame_heard}
use Rattle.promise.specs.Flags.{rxtmp, together}
use Rattle.promise.specs.Filters.{compared}
use Rattle.promise.specs.Frames.{Frame, message}
use Rattle.promise.specs.Hits.{filhit_of}
use Rattle.promise.specs.Ledger.{Ledger, frames, left, newest, accepts}
use Rattle.promise.specs.Arrivals.{matching as matching_by, arriving, first_true, from_the_bus, reasons, over_latest, told_by}
use Rattle.promise.specs.Noted.{activity_met, reaches, joins, entered, arrival_met, frame_met}
use Rattle.promise.specs.Numbering.{serials, Rises}
use Rattle.promise.specs.Records.{Records, with_counters}
use Rattle.promise.specs.Sequence.{fate}
use Rattle.promise.specs.Settings.{Settings, patterns, filton as filton_bit}
use Rattle.promise.proofs.Banks.{bank_patterns}
use Rattle.promise.proofs.Answered.{filters_reach}
use Rattle.promise.proofs.Flags.{filter_flags, flags_risen}
use Rattle.promise.proofs.Kept.{Kept}
use Rattle.promise.proofs.ModesKept.{activity_kept}
use Rattle.promise.proofs.Queues.{HoldsLedger, left_waits, newest_latest, newest_shown, accepts_holds}
use Rattle.promise.proofs.Matching.{hits_same as hits-alike, filhit_same}
use Rattle.promise.proofs.Rises.{rises_more, rises_on}
use Rattle.promise.proofs.Shown.{compared_same, shows_fields, shown_possible}

-- ---- what an arrival's first value says

abbrev pub reason_of : Arrival → ℕ
reason_of what = fate (arrival_values what)

queued_same : (what : Arrival) → is_queued what ≡ joins (reason_of what)
unfolding is_queued arrival_values
queued_same Queued = refl
queued_same (QueuedOver id extended) = refl
queued_same A1 = refl
queued_same A2 = refl
queued_same A3 = refl
queued_same A4 = refl

reaches_same : (what : Arrival) → reaches_temporary what ≡ reaches (reason_of what)
unfolding reaches_temporary arrival_values
reaches_same Queued = refl
reaches_same (QueuedOver id extended) = refl
reaches_same A1 = refl
reaches_same A2 = refl
reaches_same A3 = refl
reaches_same A4 = refl

by_bus : (l : Ledger) (a b c : Bool) (what : Arrival) (n : ℕ) → arrival_values what ≡ told_by l n
    → arrival_values (pick a A1 (pick b A2 (pick c A3 what))) ≡ told_by l (pick a 1 (pick b 2 (pick c 3 n)))
unfolding arrival_values
by_bus l true b c what n is = refl
by_bus l false true c what n is = refl
by_bus l false false true what n is = refl
by_bus l false false false what n is = is

-- the filters, then the room
by_match : (l : Ledger) (t full : Bool) (over : Arrival) → leb 8 (left l) ≡ full → (full ≡ true → arrival_values over ≡ over_latest (newest l))
    → arrival_values (pick t A4 (pick full over Queued)) ≡ told_by l (pick t 4 0)
unfolding arrival_values
by_match l true full over is named = refl
by_match l false true over is named = named refl ∙ ap (λ (t : Bool). pick t (over_latest (newest l)) (0 ∷ [])) (sym is)
by_match l false false over is named = ap (λ (t : Bool). pick t (over_latest (newest l)) (0 ∷ [])) (sym is)

-- a frame that is queued is told that it went over another exactly if eight wait
own_room : (t full : Bool) (id : ℕ) (extended : Bool) → let what = pick t A4 (pick full (QueuedOver id extended) Queued) in
    is_queued what ≡ true → full ≡ eqb (reason_of what) 6
unfolding is_queued arrival_values
own_room true full id extended queued = absurd (false≢true queued)
own_room false true id extended queued = refl
own_room false false id extended queued = refl

bus_room : (full a b c : Bool) (what : Arrival) → (is_queued what ≡ true → full ≡ eqb (reason_of what) 6)
    → let told = pick a A1 (pick b A2 (pick c A3 what)) in is_queued told ≡ true → full ≡ eqb (reason_of told) 6
unfolding is_queued
bus_room full true b c what room queued = absurd (false≢true queued)
bus_room full false true c what room queued = absurd (false≢true queued)
bus_room full false false true what room queued = absurd (false≢true queued)
bus_room full false false false what room queued = room queued

module _ (d : Device) (r : Records) (h : Kept d r) where
  -- ---- the filters, and the message that is lost

  pub matching_same : (header : Header) (payload : List ℕ) → possible header ≡ true → matching d header payload ≡ matching_by r.settings header payload
  unfolding matching
  matching_same header payload ok =
      rw (bank_patterns d.filters h.1.0.0, bank_patterns d.masks h.1.1.0, compared_same header payload ok, hits-alike (patterns d.filters) (patterns d.masks) (compared header payload))
      (ap (λ (s : Settings). matching_by s header payload) h.0)

  abbrev l : Ledger
  l = r.ledger

  waits : left l ≡ d.rx.count
  waits = left_waits d.rx d.serials.places l h.3.2

  -- with eight waiting, the one that is named is the last that was accepted
  over_named : d.rx.count ≡ 8 → arrival_values (over_latest_of d.rx) ≡ over_latest (newest l)
  unfolding over_latest_of arrival_values
  over_named eight =
      let lost = newest l in
      ap (λ (g : Header). 6 ∷ g.id ∷ flag g.extended ∷ [])
      (ap (λ (m : Message). header_in m.bytes) (sym (newest_latest d.rx d.serials.places l h.3.2 eight))
      ∙ header_back lost.header lost.payload lost.time (filhit_of lost.hits) (shown_possible lost (newest_shown d.rx d.serials.places l h.3.2 eight)))

  -- a frame that comes
  module _ (few : d.rx.count ≤ 8) (b : Brought) (ok : possible b.header ≡ true) where
    abbrev f : Frame
    f = arriving r b.header b.payload

    abbrev set : ℕ
    set = hits d (Some b)

    hits_same : hits d (Some b) ≡ f.hits
    unfolding hits
    hits_same =
        rw (matching_same b.header b.payload ok)
        (ap (λ (s : Settings). pick (filton_bit s) (matching_by r.settings b.header b.payload) 0) h.0)

    message_same : message_at d b.header b.payload set ≡ message f
    message_same = rw (hits_same, filhit_same f.hits, h.2.1)

    -- ---- what it is told

    by_filters : arrival_values (filters_and_room d set) ≡ told_by l (first_true (reasons (filton_bit r.settings) f []))
    unfolding filters_and_room
    by_filters =
        by_match l (filton d && eqb set 0) (full d.rx) (over_latest_of d.rx) (rw waits) (λ full. over_named (omega (arith, few, leb-true 8 d.rx.count full)))
        ∙ rw hits_same (ap (λ (s : Settings). told_by l (pick (filton_bit s && eqb f.hits 0) 4 0)) h.0)

    -- what becomes of a frame from the bus
    abbrev of_the_bus : Arrival
    of_the_bus =
        pick (takes_no_frames d.acting) A1
        (pick d.counters.busoff A2 (pick (unacknowledged d.acting b.acknowledged) A3 (filters_and_room d set)))

    own_reason : b.own ≡ true → reason d b set ≡ filters_and_room d set
    unfolding reason
    own_reason own = ap (λ (t : Bool). pick t (filters_and_room d set) of_the_bus) own

    bus_reason : b.own ≡ false → reason d b set ≡ of_the_bus
    unfolding reason
    bus_reason bus = ap (λ (t : Bool). pick t (filters_and_room d set) of_the_bus) bus

    pub own_due : b.own ≡ true → arrival_values (reason d b set) ≡ told_by l (first_true (reasons (filton_bit r.settings) f []))
    own_due own = ap arrival_values (own_reason own) ∙ by_filters

    pub bus_due : b.own ≡ false
        → arrival_values (reason d b set)
        ≡ told_by l (first_true (reasons (filton_bit r.settings) f (from_the_bus r.settings.acting r.counters.busoff b.acknowledged)))
    unfolding takes_no_frames quiet_mode unacknowledged
    bus_due bus =
        ap arrival_values (bus_reason bus)
        ∙ by_bus l (takes_no_frames d.acting) d.counters.busoff (unacknowledged d.acting b.acknowledged) (filters_and_room d set)
        (first_true (reasons (filton_bit r.settings) f [])) by_filters
        ∙ rw (h.2.0, ap (λ (s : Settings). s.acting) h.0)

    -- ---- and if it is queued, that goes by the room

    filters_find : is_queued (filters_and_room d set) ≡ true → full d.rx ≡ eqb (reason_of (filters_and_room d set)) 6
    unfolding filters_and_room over_latest_of
    filters_find =
        let lost = header_in (latest d.rx).bytes in
        own_room (filton d && eqb set 0) (full d.rx) lost.id lost.extended

    finds' : (own : Bool) → b.own ≡ own → is_queued (reason d b set) ≡ true → full d.rx ≡ eqb (reason_of (reason d b set)) 6
    finds' true own = rw (own_reason own) filters_find
    finds' false bus =
        rw (bus_reason bus)
        (bus_room (full d.rx) (takes_no_frames d.acting) d.counters.busoff (unacknowledged d.acting b.acknowledged) (filters_and_room d set) filters_find)

    pub finds : is_queued (reason d b set) ≡ true → full d.rx ≡ eqb (reason_of (reason d b set)) 6
    finds = finds' b.own refl

    -- one of our own is taken in any case
    pub own_reaches : b.own ≡ true → reaches_temporary (reason d b set) ≡ true
    own_reaches own = ap reaches_temporary (own_reason own) ∙ filters_reach d set

    pub own_taken : b.own ≡ true → arrival d b set (reason d b set) ≡ transmitted (arrived d b set (reason d b set))
    unfolding arrival taken
    own_taken own =
        let arrives = arrived d b set (reason d b set) in
        ap₂ (λ (t o : Bool). pick t (pick o (transmitted arrives) (heard arrives)) (bus_activity d)) (own_reaches own) own

    -- ---- the device and the records after it

    module _ (what : Arrival) (room : is_queued what ≡ true → full d.rx ≡ eqb (reason_of what) 6) where
      arrival_flags : bit_or (bit_or (bit_or d.regs.intf rxtmp) (queued_flag (is_queued what))) (filter_flag set)
          ≡ together (arrival_met r f (reason_of what)).flags
      unfolding queued_flag
      arrival_flags =
          filter_flags (bit_or (bit_or d.regs.intf rxtmp) (queued_flag (is_queued what))) set
          ∙ rw (hits_same, filhit_same f.hits, queued_same what, h.2.3) (sym (flags_risen (joins (reason_of what)) (filhit_of f.hits) r.flags))

      -- it gets the next number, in its place if it is queued
      next_same : spent d ≡ false → next_serial d.serials.last ≡ f.serial
      unfolding next_serial
      next_same left = rw (left, h.3.4.0)

      queue_cases : (t : Bool) → is_queued what ≡ t
          → HoldsLedger (pick t (put_over d.rx (message f)) d.rx) (pick t (set_at d.serials.places (place_over d.rx) f.serial) d.serials.places)
          (pick t (accepts l f (eqb (reason_of what) 6)) l)
      queue_cases true queued = accepts_holds d.rx d.serials.places l h.3.2 f (eqb (reason_of what) 6) (room queued) few (shows_fields f ok)
      queue_cases false out = h.3.2

      arrival_queue : spent d ≡ false → HoldsLedger (queue_after d.rx (message f) (joins (reason_of what))) (serials_after d.serials d.rx (joins (reason_of what))).places (entered l f (reason_of what))
      unfolding queue_after serials_after
      arrival_queue left = rw (next_same left) (queue_cases (joins (reason_of what)) (queued_same what))

      -- one more in order, or none
      ordered_cases : (t : Bool) → Rises 0 (r.arrivals + 1) (serials (frames (pick t (accepts l f (eqb (reason_of what) 6)) l)))
      ordered_cases true = rw (map-append, map-append) (rises_more 0 r.arrivals (serials (frames l)) h.3.4.2)
      ordered_cases false = rises_on 0 r.arrivals (serials (frames l)) h.3.4.2

      pub arrival_kept : spent d ≡ false → Kept (arrived d b set what) (arrival_met r f (reason_of what))
      unfolding arrived raised serials_after
      arrival_kept left = (
        h.0,
        h.1,
        (h.2.0, h.2.1, h.2.2, arrival_flags),
        (
          ap (λ (m : Message). drop 1 m.bytes) message_same,
          hits_same,
          rw (message_same, queued_same what) (arrival_queue left),
          shows_fields f ok,
          (next_same left, next_same left, ordered_cases (joins (reason_of what))),
        ),
        h.4,
      )

      counted_same : counted_frame d.counters d.acting ≡ frame_heard r.counters r.settings.acting
      unfolding counted_frame good_frame
      counted_same = rw (h.2.0, ap (λ (s : Settings). s.acting) h.0)

      -- one that isn't taken gets no number, so that none need be left
      frame_cases : (t : Bool) → reaches_temporary what ≡ t → (reaches_temporary what ≡ true → spent d ≡ false)
          → Kept (pick t (heard (arrived d b set what)) (bus_activity d))
          (pick t (with_counters (arrival_met r f (reason_of what)) (frame_heard r.counters r.settings.acting)) (activity_met r))
      unfolding heard arrived raised
      frame_cases true reaches left =
          let k = arrival_kept (left reaches) in
          (k.0, k.1, (counted_same, k.2.1, k.2.2, k.2.3), k.3, k.4)
      frame_cases false out left = activity_kept d r h

      pub frame_kept : b.own ≡ false → (reaches_temporary what ≡ true → spent d ≡ false) → Kept (arrival d b set what) (frame_met r f (reason_of what))
      unfolding arrival taken
      frame_kept bus left =
          subst
          (λ (o : Bool). Kept (pick (reaches_temporary what) (taken (arrived d b set what) o) (bus_activity d)) (frame_met r f (reason_of what)))
          (sym bus)
          (rw (← reaches_same what) (frame_cases (reaches_temporary what) refl left))
