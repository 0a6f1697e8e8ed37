-- A machine that holds what the records have, before an input and after it, and gives what is due, loses what it tells
-- and nothing else. Assumes nothing.
use mathlib.Core.Path.{◌≡◌, refl, sym, ◌∙◌, ap, subst}
use mathlib.Core.Bool.{Bool, true, false, ◌&&◌, ◌||◌, false≢true}
use mathlib.Core.List.{List, [], ◌∷◌, ◌++◌, map}
use mathlib.Core.Logic.{inl, inr}
use Prim.Native.Nat.{ℕ}
use native.Mathlib.Omega.{arith}
use borrow.Author.Tests.{eqb-true, leb-true}
use lib.Dec.{eqb, leb}
use lib.ListN.{length, set}
use Rattle.std.proofs.lemmas.List.{append_cancel_left}
use Rattle.base.specs.Bit.{byte}
use Rattle.base.specs.Pick.{pick}
use Rattle.fifo.specs.declared.Fifo.{Fifo}
use Rattle.fifo.specs.Queue.{absent, waiting, put_over}
use Rattle.fifo.proofs.Waiting.{latest_eighth, over_waits}
use Rattle.chip.specs.declared.Device.{Device}
use Rattle.events.specs.declared.Event.{Event}
use Rattle.events.specs.declared.Event.TheVariants.{GoodFrame, ReceiveError, DominantBit, TransmitError, Begun, Completed}
use Rattle.events.specs.declared.Event.TheVariants.{ArbitrationLost, ElevenRecessive, BusQuiet, BusActivity, Ticks, TxenPin, MrPin}
use Rattle.events.specs.declared.Event.TheVariants.{Unknown}
use Rattle.promise.specs.Sequence.{Input, spi, wire, Step, values, fate, done}
use Rattle.promise.specs.Arrivals.{arriving, own, Reason, first_true, from_the_bus, reasons, over_latest, told_by, frame, nothing, due_of, values_due}
use Rattle.promise.specs.Due.{Due}
use Rattle.promise.specs.Frames.{Frame, blank, message}
use Rattle.promise.specs.Held.{Each, Holds}
use Rattle.promise.specs.Ledger.{Ledger, kept, replaced, left, newest, accepts}
use Rattle.promise.specs.Losses.{says_over, Exchanged, NoneReplaced, LossTold}
use Rattle.promise.specs.Numbering.{serials, carried}
use Rattle.promise.specs.Noted.{reset, mode_changed, ctrl0_written, quiet_met, activity_met, reaches, joins, entered, arrival_met, frame_met, completed_met}
use Rattle.promise.specs.Noted.{happened, deeds, commanded, noted, by_the_rules}
use Rattle.promise.specs.Outbox.{halted, rests}
use Rattle.promise.specs.Records.{Records, with_settings, with_counters, with_flags, with_outbox}
use Rattle.promise.specs.Settings.{Settings, loopback, sleep, filton, asks_reset, mode_written, asleep, awake, wakeup, setting_writes}
use Rattle.promise.specs.Counting.{frame_heard}
use Rattle.promise.specs.Flags.{mchg, wakeup_flag}
use Rattle.promise.proofs.Among.{AtKeys, ◌and◌, among_keeps}
use Rattle.promise.proofs.Choices.{pick_keeps, pick_under}
use Rattle.promise.proofs.Held.{held_in, held_kept}
use Rattle.promise.proofs.Ledgers.{counted_once, out_same, out_more}
use Rattle.promise.proofs.Queues.{HoldsLedger, waiting_length, left_waits, kept_long, newest_latest, over_whole, over_carried}
use Rattle.promise.proofs.Ranges.{count_below}

-- ---- what the records have as replaced

module _ (r : Records) where
  abbrev l : Ledger
  l = r.ledger

  -- by a command
  settings_same : (writes : List (ℕ × Settings)) → AtKeys (λ c after. NoneReplaced r after) (map (λ w. (w.0, with_settings r w.1)) writes)
  settings_same [] = tt
  settings_same (w ∷ writes) = (inl refl, settings_same writes)

  ctrl0_same : (value : ℕ) → NoneReplaced r (ctrl0_written r value)
  ctrl0_same value =
      let s = mode_written r.settings value in
      let other = with_outbox (mode_changed r s) (halted r.outbox) in
      let same = eqb s.acting r.settings.acting in
      pick_keeps (NoneReplaced r) (asks_reset value) (reset r 0x88) (pick same (with_settings r s) other) (inr refl)
      (pick_keeps (NoneReplaced r) same (with_settings r s) other (inl refl) (inl refl))

  command_same : (bytes : List ℕ) → NoneReplaced r (commanded r bytes)
  unfolding commanded
  command_same bytes =
      among_keeps (λ c after. NoneReplaced r after) (byte bytes 1) (deeds r bytes) r
      (inl refl and inl refl and inl refl and inl refl
      and inl refl and inl refl and inl refl and inl refl and inl refl
      and inr refl and inl refl and inr refl and inl refl
      and ctrl0_same (byte bytes 2)
      and inl refl and inl refl
      and settings_same (setting_writes r.settings bytes))
      (λ out. inl refl)

  -- by a quiet bus, and by activity
  quiet_same : NoneReplaced r (quiet_met r)
  quiet_same =
      pick_keeps (NoneReplaced r) (r.settings.waits && (eqb (length r.outbox.queue) 0 && rests r.outbox.running))
      (mode_changed r (asleep r.settings)) r (inl refl) (inl refl)

  activity_ledger : (activity_met r).ledger ≡ l
  activity_ledger =
      pick_keeps (λ (after : Records). after.ledger ≡ l) (eqb r.settings.acting sleep && wakeup r.settings)
      (with_flags (with_settings r (awake r.settings)) (wakeup_flag ∷ mchg ∷ r.flags)) r refl refl

  -- ---- a frame that comes

  module _ (f : Frame) (told : ℕ) where
    -- it is not told Queued-over-latest
    entered_same : eqb told 6 ≡ false → replaced (entered l f told) ≡ replaced l
    entered_same other =
        pick_keeps (λ (m : Ledger). replaced m ≡ replaced l) (joins told) (accepts l f (eqb told 6)) l (rw other (out_same l.accepted f)) refl

    -- one that isn't taken doesn't enter the ledger
    untaken : (t u : Bool) → eqb told 0 ≡ t → eqb told 6 ≡ u → reaches told ≡ false → pick (t || u) (accepts l f u) l ≡ l
    untaken true u zeroth sixth out = absurd (false≢true (sym out ∙ ap reaches (eqb-true told 0 zeroth)))
    untaken false true zeroth sixth out = absurd (false≢true (sym out ∙ ap reaches (eqb-true told 6 sixth)))
    untaken false false zeroth sixth out = refl

    frame_ledger : (frame_met r f told).ledger ≡ entered l f told
    frame_ledger =
        pick_under (λ (after : Records). after.ledger ≡ entered l f told) (reaches told)
        (with_counters (arrival_met r f told) (frame_heard r.counters r.settings.acting)) (activity_met r)
        (λ taken. refl)
        (λ out. activity_ledger ∙ sym (untaken (eqb told 0) (eqb told 6) refl refl out))

-- ---- what a frame is told

-- 6 is no reason's number
none_sixth : (rs : List Reason) → Each (λ x. eqb x.1 6 ≡ false) rs → eqb (first_true rs) 6 ≡ false
none_sixth [] others = refl
none_sixth (x ∷ rs) others = pick_keeps (λ n. eqb n 6 ≡ false) x.0 x.1 (first_true rs) others.0 (none_sixth rs others.1)

-- so it is told where eight wait, and with it what is lost
over_due : (l : Ledger) (reason : ℕ) (none full : Bool) → eqb reason 0 ≡ none → leb 8 (left l) ≡ full → eqb reason 6 ≡ false
    → eqb (fate (pick none (pick full (over_latest (newest l)) (0 ∷ [])) (reason ∷ []))) 6 ≡ true
    → (leb 8 (left l) ≡ true) × (pick none (pick full (over_latest (newest l)) (0 ∷ [])) (reason ∷ []) ≡ over_latest (newest l))
over_due l reason true true is waits other over = (waits, refl)
over_due l reason true false is waits other over = absurd (false≢true over)
over_due l reason false full is waits other over = absurd (false≢true (sym other ∙ over))

-- ---- the step

module _ (d : Device) (r : Records) (s : Step) (before : Holds d r) where
  abbrev q : Fifo
  q = d.rx

  abbrev q' : Fifo
  q' = s.device.rx

  abbrev numbers : List ℕ
  numbers = d.serials.places

  abbrev numbers' : List ℕ
  numbers' = s.device.serials.places

  h : HoldsLedger q numbers r.ledger
  h = (held_kept d r before).3.2

  over_is : (v : List ℕ) → values s.given ≡ v → says_over s.given ≡ eqb (fate v) 6
  over_is v is = ap (λ (v : List ℕ). eqb (fate v) 6) is

  -- no frame comes
  unsaid : (after : Records) → values s.given ≡ [] → NoneReplaced r after → LossTold d r s after
  unsaid after silent same = (λ over. absurd (false≢true (sym (over_is [] silent) ∙ over)), λ other. same)

  -- a frame comes
  module _ (f : Frame) (after : Records) (behind : HoldsLedger q' numbers' after.ledger) where
    exchanged : after.ledger ≡ accepts r.ledger f true → after.latest ≡ f → leb 8 (left r.ledger) ≡ true → values s.given ≡ over_latest (newest r.ledger)
        → Exchanged d r s after
    exchanged grown came full told =
        let l = r.ledger in
        let eight : q.count ≡ 8 = omega (arith, leb-true 8 (left l) full, left_waits q numbers l h, count_below q (held_in d r before).0) in
        record {
          eight = waiting_length q ∙ eight;
          eighth = latest_eighth q eight absent ∙ sym (newest_latest q numbers l h eight);
          stands =
              append_cancel_left (map message l.taken) (waiting q') (waiting (put_over q (message f)))
              (subst (λ (m : Ledger). map message m.taken ++ waiting q' ≡ map message (kept m)) grown behind.whole ∙ sym (over_whole q numbers l h eight f))
              ∙ over_waits q eight (message f) h.places ∙ ap (λ (g : Frame). set (waiting q) 7 (message g)) (sym came);
          carries =
              append_cancel_left (serials l.taken) (carried s.device) (set (carried d) 7 f.serial)
              (subst (λ (m : Ledger). serials m.taken ++ carried s.device ≡ serials (kept m)) grown behind.carried ∙ sym (over_carried q numbers l h eight f _ refl))
              ∙ ap (λ (g : Frame). set (carried d) 7 g.serial) (sym came);
          named = told;
          lost = ap replaced grown ∙ out_more l.accepted f blank (omega (arith, kept_long q numbers l h eight, counted_once l.accepted));
        }

    frame_told : (reason : ℕ) → let told = told_by r.ledger reason in
        eqb reason 6 ≡ false → values s.given ≡ told → after.ledger ≡ entered r.ledger f (fate told) → (eqb (fate told) 6 ≡ true → after.latest ≡ f) → LossTold d r s after
    frame_told reason other is grown came =
        let l = r.ledger in
        let told = told_by l reason in (
          λ over.
              let sixth = sym (over_is told is) ∙ over in
              let due = over_due l reason (eqb reason 0) (leb 8 (left l)) refl refl other sixth in
              exchanged (grown ∙ ap (entered l f) (eqb-true (fate told) 6 sixth)) (came sixth) due.0 (is ∙ due.1),
          λ not-over. inl (ap replaced grown ∙ entered_same r f (fate told) (sym (over_is told is) ∙ not-over)),
        )

  -- ---- an event that was done

  -- a completion, by whether our own message comes back
  abbrev due : Bool → List ℕ
  due t = due_of r (pick t (frame (own r) []) nothing)

  abbrev completed : Bool → Records
  completed t = completed_met (pick t (arrival_met r (own r) (fate (due t))) r)

  completes : (t : Bool) → HoldsLedger q' numbers' (completed t).ledger → values s.given ≡ due t → LossTold d r s (completed t)
  completes true behind is =
      let asked = reasons (filton r.settings) (own r) [] in
      frame_told (own r) (completed true) behind (first_true asked) (none_sixth asked (refl and tt)) is refl (λ over. refl)
  completes false behind is = unsaid (completed false) is (inl refl)

  module _ (payload : List ℕ) where
    abbrev after : Event → Records
    after e = happened r e payload (fate (values_due r e payload))

    happens : (e : Event) → HoldsLedger q' numbers' (after e).ledger → values s.given ≡ values_due r e payload → LossTold d r s (after e)
    unfolding happened
    happens (GoodFrame header acknowledged count) behind is =
        let f = arriving r header payload in
        let earlier = from_the_bus r.settings.acting r.counters.busoff acknowledged in
        let asked = reasons (filton r.settings) f earlier in
        let told = fate (told_by r.ledger (first_true asked)) in
        frame_told f (frame_met r f told) behind (first_true asked) (none_sixth asked (refl and refl and refl and refl and tt)) is (frame_ledger r f told)
        (λ over. ap (λ (t : ℕ). (frame_met r f t).latest) (eqb-true told 6 over))
    happens Completed behind is = completes (eqb r.settings.acting loopback) behind is
    happens (ReceiveError kind) behind is = unsaid _ is (inl refl)
    happens DominantBit behind is = unsaid _ is (inl refl)
    happens (TransmitError kind counted) behind is = unsaid _ is (inl refl)
    happens Begun behind is = unsaid _ is (inl refl)
    happens ArbitrationLost behind is = unsaid _ is (inl refl)
    happens ElevenRecessive behind is = unsaid _ is (inl refl)
    happens BusQuiet behind is = unsaid (quiet_met r) is (quiet_same r)
    happens BusActivity behind is = unsaid (activity_met r) is (inl (ap replaced (activity_ledger r)))
    happens (Ticks count) behind is = unsaid _ is (inl refl)
    happens (TxenPin level) behind is = unsaid _ is (inl refl)
    happens MrPin behind is = unsaid _ is (inr refl)
    happens Unknown behind is = unsaid r is (inl refl)

  -- ---- every input

  event_told : (e : Event) (payload : List ℕ) (t : Bool) → let after = pick t (happened r e payload (fate (values_due r e payload))) r in
      HoldsLedger q' numbers' after.ledger → values s.given ≡ pick t (values_due r e payload) [] → LossTold d r s after
  event_told e payload true behind is = happens payload e behind is
  event_told e payload false behind is = unsaid r is (inl refl)

  pub losses_told : (i : Input) → Holds s.device (noted by_the_rules r i s.given) → Due r i s.given → LossTold d r s (noted by_the_rules r i s.given)
  losses_told (spi bytes buffer) held given =
      unsaid _ (ap values given.2) (pick_keeps (NoneReplaced r) (done s.given) (commanded r bytes) r (command_same r bytes) (inl refl))
  losses_told (wire e payload) held given =
      event_told e payload (done s.given) (held_kept _ _ held).3.2 (rw given.0 given.1)
