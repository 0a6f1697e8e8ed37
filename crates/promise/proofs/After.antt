-- In any device that holds what the records have every answer is the one that is due, and so it goes on: after every
-- sequence from a fresh one, too. Assumes nothing.
use mathlib.Core.Path.{◌≡◌, refl, sym, ◌∙◌, ap}
use mathlib.Core.Bool.{Bool, true, false, not, false≢true}
use mathlib.Core.List.{List, [], ◌∷◌, ◌++◌, foldl}
use Prim.Native.Nat.{ℕ, ◌<◌, ◌≤◌, ◌+◌, ◌%◌}
use native.Mathlib.Omega.{arith}
use native.Mathlib.Nat.{mod-eq_of_lt}
use borrow.Author.Tests.{le-leb, ltb-false, not-false}
use lib.Dec.{eqb, leb}
use lib.ListN.{length, take, drop, length-take}
use Rattle.std.proofs.lemmas.Bool.{or_parts}
use Rattle.base.specs.Bit.{byte}
use Rattle.std.specs.Prelude.{Result, Some, Ok, Err}
use Rattle.base.specs.Pick.{pick}
use Rattle.base.proofs.Booleans.{and_right}
use Rattle.chip.specs.declared.Device.{Device}
use Rattle.chip.specs.State.{fresh}
use Rattle.drawn.specs.Drawn.{int, stat, gp}
use Rattle.events.specs.declared.Event.{Event}
use Rattle.judged.specs.Judged.{impossible, no_number_left}
use Rattle.bus.specs.Event.{values_of}
use Rattle.refusal.specs.declared.Refusal.{Refusal}
use Rattle.refusal.specs.Refusal.{number as number_for, number_of}
use Rattle.bus.specs.Hits.{hits}
use Rattle.bus.specs.Pins.{pins}
use Rattle.commands.specs.declared.Row.{Row}
use Rattle.commands.specs.Table.{rows, lookup}
use Rattle.refused.specs.Refused.{finds_full, finds_none}
use Rattle.shown.specs.Shown.{shows}
use Rattle.promise.specs.Promises.{EachAnswerIsDue, SettingsAreThoseWritten, CountersAreTheRulesSum, TheTimeTagIsTheTicks, ErrIsTheKindsSeen}
use Rattle.promise.specs.Promises.{IntfIsTheFlagsRaised, PinsShowTheRecords, OnlyTheReplacedAreLost, EachLossIsTold, FieldsStandAsTheyArrived, OwnMessagesAreThoseWritten}
use Rattle.promise.specs.Promises.{TheLastNumberCountsTheArrivals, EachCarriesItsNumber, TheNumbersRise, NoTwoAreAlike, AReadTakesTheFirst, TheNumbersAreTold}
use Rattle.promise.specs.Promises.{TheAnswersKeepTheRecords, TheFiltersAreToldAsWritten, AnyDeviceGoesOnSo}
use Rattle.promise.specs.Sequence.{Input, spi, wire, Given, replied, Step, shipped as step, number, values, fate, done, run, conversation}
use Rattle.promise.specs.Commands.{lengths_of, transfer_fits}
use Rattle.promise.specs.Own.{message_fits}
use Rattle.promise.specs.Numbers.{situation, applies, number_due}
use Rattle.promise.specs.Due.{Due, situation_of, filled}
use Rattle.promise.specs.Held.{Pinned, Holds}
use Rattle.promise.specs.After.{recorded, LosesAsTold, TakesFirst}
use Rattle.promise.specs.Arrivals.{values_due}
use Rattle.promise.specs.Ledger.{kept as kept_in}
use Rattle.promise.specs.Noted.{noted, by_the_rules, by_the_answers, happened}
use Rattle.promise.specs.Records.{Records, start}
use Rattle.promise.specs.Questions.{Told}
use Rattle.promise.specs.Registers.{pins_shown, shown}
use Rattle.promise.specs.Settings.{Settings}
use Rattle.promise.proofs.Answered.{first}
use Rattle.promise.proofs.CommandsKept.{command_kept}
use Rattle.promise.proofs.EventsKept.{event_agrees}
use Rattle.promise.proofs.Held.{held_in, held_kept, kept_held}
use Rattle.promise.proofs.Kept.{Kept, fresh_kept, situation_same}
use Rattle.promise.proofs.Losses.{losses_told}
use Rattle.promise.proofs.Lowest.{lowest_none}
use Rattle.promise.proofs.Numbering.{rising, distinct, listed_in, takes_first}
use Rattle.promise.proofs.Proper.{stays, fresh_in}
use Rattle.promise.proofs.Queues.{taken_waits}
use Rattle.promise.proofs.Questions.{told_kept}
use Rattle.promise.proofs.Ranges.{InRange, count_below}
use Rattle.promise.proofs.Replies.{command_shows, intf_same, statf_same}
use Rattle.promise.proofs.Rows.{asked_same}
use Rattle.promise.proofs.Steps.{refusal_counts, keeps, noted_more, refused_transfer, done_transfer, by_transfer, refused_event, said_of, done_event, by_event}

module _ (d : Device) (r : Records) (range : InRange d) (h : Kept d r) where
  -- the device after an input keeps to the records after it, and what was given is due
  abbrev Agrees : Input → Step → Type 0
  Agrees i s = Kept s.device (noted by_the_rules r i s.given) × Due r i s.given

  -- the number that is given is the one that the records say
  number_same : (i : Input) → number (step d i).given ≡ number_due (situation_of r) i
  number_same i = first d i ∙ ap (λ s. number_due s i) (situation_same d r range h)

  -- ---- transfers

  module _ (bytes buffer : List ℕ) where
    abbrev a_transfer : Input
    a_transfer = spi bytes buffer

    refused_agrees : (refusal : Refusal) → number_for refusal ≡ number_due (situation_of r) a_transfer → Agrees a_transfer (refused_transfer d refusal buffer)
    refused_agrees refusal is = (rw (refusal_counts refusal) h, (Err refusal, is, rw (← is, refusal_counts refusal)))

    module _ (row : Row) (at : lookup rows (byte bytes 1) ≡ Some row) (is : 0 ≡ number_due (situation_of r) a_transfer) where
      -- no number of 01's table applies
      unsaid : (n : ℕ) → 1 ≤ n → n < 13 → applies (situation d) a_transfer n ≡ false
      unfolding number_due
      unsaid n = lowest_none (applies (situation d) a_transfer) 12 1 n (omega arith) (ap (λ s. number_due s a_transfer) (situation_same d r range h) ∙ sym is)

      some : eqb (length bytes) 0 ≡ false
      some = (or_parts (eqb (length bytes) 0) _ (unsaid 3 (omega arith) (omega arith))).0

      fits_its_length : pick (eqb (byte bytes 1) 0x12) (message_fits (drop 1 bytes)) true ≡ true
      unfolding transfer_fits
      fits_its_length =
          let right : transfer_fits bytes ≡ true = not-false (transfer_fits bytes) (or_parts (eqb (length bytes) 0) (not (transfer_fits bytes)) (unsaid 3 (omega arith) (omega arith))).1 in
          and_right (leb (length bytes) ((lengths_of (byte bytes 1)).most + 1)) _ (and_right (leb ((lengths_of (byte bytes 1)).least + 1) (length bytes)) _ right)

      finds_room : finds_full d.tx.count row.verb ≡ false
      finds_room = sym (ap (λ x. x.4) (asked_same d (byte bytes 1) row at)) ∙ unsaid 6 (omega arith) (omega arith)

      finds_one : finds_none d.rx.count d.history.count row.verb ≡ false
      finds_one = sym (ap (λ x. x.5) (asked_same d (byte bytes 1) row at)) ∙ unsaid 7 (omega arith) (omega arith)

      long_enough : row.out ≤ length buffer
      long_enough =
          let out_is = ap (λ x. x.1.out) (asked_same d (byte bytes 1) row at) in
          rw (← out_is) (ltb-false (length buffer) (lengths_of (byte bytes 1)).out (unsaid 4 (omega arith) (omega arith)))

      abbrev reply : List ℕ
      reply = take row.out (shows d row.verb row.index)

      fits : length reply ≤ length buffer
      fits = omega (arith, long_enough, length-take row.out (shows d row.verb row.index))

      done_agrees : Agrees a_transfer (done_transfer d row bytes buffer)
      done_agrees = (
        command_kept d r h bytes some row at (finds_room, finds_one, fits_its_length),
        (Ok tt, is, rw (← is, le-leb (length reply) (length buffer) fits, command_shows d r range h (byte bytes 1) row at finds_one)),
      )

    transfer_agrees : Agrees a_transfer (step d a_transfer)
    transfer_agrees =
        by_transfer (Agrees a_transfer) d bytes buffer
        (λ refusal e. refused_agrees refusal (ap (λ (s : Step). number s.given) (sym e) ∙ number_same a_transfer))
        (λ row e at. done_agrees row at (ap (λ (s : Step). number s.given) (sym e) ∙ number_same a_transfer))

  -- ---- events

  module _ (e : Event) (payload : List ℕ) where
    abbrev an_event : Input
    an_event = wire e payload

    refused_event_agrees : (refusal : Refusal) → number_for refusal ≡ number_due (situation_of r) an_event → Agrees an_event (refused_event d refusal)
    unfolding values_of
    refused_event_agrees refusal is = (rw (refusal_counts refusal) h, (is, rw (← is, refusal_counts refusal)))

    done_event_agrees : impossible d e ≡ false → no_number_left d (said_of d e payload) ≡ false → 0 ≡ number_due (situation_of r) an_event
        → Agrees an_event (done_event d e payload (said_of d e payload))
    done_event_agrees can left is =
        let agrees = event_agrees d r h (count_below d.rx range.0) e payload can left in
        (agrees.0, (is, rw (← is) agrees.1))

    event_kept : Agrees an_event (step d an_event)
    event_kept =
        by_event (λ s. number s.given ≡ number_due (situation_of r) an_event → Agrees an_event s) d e payload
        refused_event_agrees done_event_agrees (number_same an_event)

  agrees : (i : Input) → Agrees i (step d i)
  agrees (spi bytes buffer) = transfer_agrees bytes buffer
  agrees (wire e payload) = event_kept e payload

  -- ---- the pins

  half_same : (x : ℕ) → x % 16 % 16 ≡ x % 16
  half_same x = mod-eq_of_lt (omega arith)

  pins_same : pins d ≡ pins_shown r
  unfolding pins int stat gp
  pins_same =
      rw (
        half_same d.regs.gpine,
        statf_same d r range h,
        intf_same d r range h,
        ap (λ (s : Settings). s.inte) h.0,
        ap (λ (s : Settings). s.statfe) h.0,
        ap (λ (s : Settings). s.gpine) h.0,
      )

-- ---- in any device

module _ (d : Device) (r : Records) (h : Holds d r) where
  range : InRange d
  range = held_in d r h

  kept : Kept d r
  kept = held_kept d r h

  holds_on : (i : Input) → Holds (step d i).device (noted by_the_rules r i (step d i).given)
  holds_on i = kept_held _ _ (stays d i range) (agrees d r range kept i).0

  due_in : (i : Input) → Due r i (step d i).given
  due_in i = (agrees d r range kept i).1

  pinned_in : Pinned pins d r
  pinned_in = pins_same d r range kept

  losses_in : LosesAsTold step d r
  losses_in i = losses_told d r (step d i) h i (holds_on i) (due_in i)

  takes_in : TakesFirst step d r
  takes_in i = takes_first d r (step d i) i h (holds_on i)

  told_in : Told hits d r
  told_in = told_kept d r range kept

pub onward : AnyDeviceGoesOnSo
onward d r h = (pinned_in d r h, due_in d r h, holds_on d r h, losses_in d r h, takes_in d r h, told_in d r h, listed_in d r h)

-- ---- along a sequence

pub fresh_holds : Holds fresh start
fresh_holds = kept_held fresh start fresh_in fresh_kept

always : (is : List Input) → Holds (run step fresh is) (recorded step is)
always is = keeps (noted by_the_rules) Holds (λ d r i h. holds_on d r h i) fresh start is fresh_holds

pub due : EachAnswerIsDue
due is = due_in (run step fresh is) (recorded step is) (always is)

pub settled : SettingsAreThoseWritten
settled is = (always is).settled

pub counted : CountersAreTheRulesSum
counted is = (always is).counted

pub timed : TheTimeTagIsTheTicks
timed is = (always is).timed

pub seen : ErrIsTheKindsSeen
seen is = (always is).seen

pub raised : IntfIsTheFlagsRaised
raised is = (always is).raised

pub pinned : PinsShowTheRecords
pinned is = pinned_in (run step fresh is) (recorded step is) (always is)

pub told : TheFiltersAreToldAsWritten
told is = told_in (run step fresh is) (recorded step is) (always is)

pub whole : OnlyTheReplacedAreLost
whole is = (always is).whole

pub losses : EachLossIsTold
losses is = losses_in (run step fresh is) (recorded step is) (always is)

pub last_counts : TheLastNumberCountsTheArrivals
last_counts is = (always is).last

pub carries : EachCarriesItsNumber
carries is = (always is).carries

pub rise : TheNumbersRise
rise is = rising (run step fresh is) (recorded step is) (always is)

pub no_two : NoTwoAreAlike
no_two is = distinct (run step fresh is) (recorded step is) (always is)

pub reads_first : AReadTakesTheFirst
reads_first is = takes_in (run step fresh is) (recorded step is) (always is)

pub numbers_told : TheNumbersAreTold
numbers_told is = listed_in (run step fresh is) (recorded step is) (always is)

pub as_arrived : FieldsStandAsTheyArrived
as_arrived is = (always is).arrived

pub as_written : OwnMessagesAreThoseWritten
as_written is = (always is).written

-- ---- by what was answered

told_same : (t : Bool) (r : Records) (e : Event) (payload told : List ℕ) (n : ℕ) → eqb n 0 ≡ t → told ≡ pick (eqb n 0) (values_due r e payload) []
    → pick t (happened r e payload (fate told)) r ≡ pick t (happened r e payload (fate (values_due r e payload))) r
told_same true r e payload told n is due = rw (due, is)
told_same false r e payload told n is due = refl

noted_same : (r : Records) (i : Input) (given : Given) → Due r i given → noted by_the_answers r i given ≡ noted by_the_rules r i given
noted_same r (spi bytes buffer) given due = refl
noted_same r (wire e payload) given due =
    told_same (done given) r e payload (values given) (number given) refl (rw due.0 due.1)

along_same : (d : Device) (r : Records) (is : List Input) → Holds d r
    → foldl (λ r x. noted by_the_answers r x.0 x.1) r (conversation step d is) ≡ foldl (λ r x. noted by_the_rules r x.0 x.1) r (conversation step d is)
along_same d r [] h = refl
along_same d r (i ∷ is) h =
    ap (λ (r : Records). foldl (λ r x. noted by_the_answers r x.0 x.1) r (conversation step (step d i).device is))
    (noted_same r i (step d i).given (due_in d r h i))
    ∙ along_same (step d i).device (noted by_the_rules r i (step d i).given) is (holds_on d r h i)

pub same : TheAnswersKeepTheRecords
same is = along_same fresh start is fresh_holds

-- ---- for a caller's proof

-- a sequence with one input more
pub recorded_more : (is : List Input) (i : Input)
    → recorded step (is ++ (i ∷ [])) ≡ noted by_the_rules (recorded step is) i (step (run step fresh is) i).given
recorded_more is i = noted_more (noted by_the_rules) fresh start is i

-- how many were taken and how many wait
pub taken_and_left : (is : List Input)
    → length (recorded step is).ledger.taken + (run step fresh is).rx.count ≡ length (kept_in (recorded step is).ledger)
taken_and_left is = taken_waits (run step fresh is).rx (run step fresh is).serials.places (recorded step is).ledger (kept (run step fresh is) (recorded step is) (always is)).3.2

-- only what is done has the number 0
done_alone : (answer : Result (Unit {0}) Refusal) → number_of answer ≡ 0 → answer ≡ Ok tt
done_alone (Ok tt) none = refl
done_alone (Err refusal) none = absurd (false≢true (sym (refusal_counts refusal) ∙ ap (λ n. eqb n 0) none))

-- a transfer for which no number is due is done, and the buffer begins with its reply
pub done_due : (r : Records) (bytes buffer : List ℕ) (given : Given) → Due r (spi bytes buffer) given
    → number_due (situation_of r) (spi bytes buffer) ≡ 0
    → given ≡ replied (Ok tt) (filled (shown r (byte bytes 1)) buffer)
done_due r bytes buffer given due passes =
    due.2 ∙ ap (λ answer. replied answer _) (done_alone due.0 (due.1 ∙ passes)) ∙ rw passes
