-- What is shipped is the code. Assumes nothing.
use mathlib.Core.Path.{refl, sym, ap}
use lib.ListN.{length}
use package.base.Stored.{coded_list, coded_ℕ}
use Rattle.chip.specs.State.{fresh}
use Rattle.bus.specs.Event
use Rattle.bus.specs.Hits
use Rattle.bus.specs.Numbers
use Rattle.bus.specs.Pins
use Rattle.host.specs.Transfer
use Rattle.bus.specs.contracts as bus
use Rattle.chip.specs.contracts as chip
use Rattle.host.specs.contracts as host
use Rattle.why.specs.Why
use Rattle.why.specs.contracts as why
use Rattle.one.specs.Law.{read_off}
use Rattle.one.specs.Shapes.{result_is, result-and-content-are}
use Rattle.promise.specs.Promises.{TheMachineIsTheCode}
use Rattle.promise.specs.Sequence.{Given, replied, answered, Step, shipped}
use Rattle.promise.specs.Calls.{Transfers, Events, Asked, Looks, Tells, Lists, Explains, Begins}
use Rattle.promise.proofs.Answered.{told_out}

module _ (M : Type 1) where
  transfers : Transfers M shipped
  transfers =
      read_off
      (result-and-content-are (λ _. host.transfer.clauses) (coded_list coded_ℕ) (λ _ w. w.1.1.0) (λ _ v. (tt, (tt, (v, tt))))
      (λ _ d bytes reply. Transfer.transfer d bytes.now (length reply.now))
      (λ _ d bytes reply. Transfer.reply_after d bytes.now reply.now) refl)
      Step (λ a x. record { device = x.0.device; given = replied x.0.answer x.1 }) _ (λ a. refl)

  events : Events M shipped
  events =
      read_off (result_is (λ _. bus.event.clauses) (λ _. Event.event) refl)
      Step (λ a o. record { device = o.device; given = answered o.answer }) _ (λ a. refl)

  asked : Asked M shipped
  unfolding Event.event
  asked =
      read_off (result_is (λ _. bus.answer.clauses) (λ _. Event.answer) refl) Given (λ a o. answered o) _
      (λ a. ap answered (sym (told_out a.1.0 a.1.1.0 a.1.1.1.0 (Event.answer a.1.0 a.1.1.0 a.1.1.1.0))))

  looks : Looks M Pins.pins
  looks = result_is (λ _. bus.pins.clauses) (λ _. Pins.pins) refl

  tells : Tells M Hits.hits
  tells = result_is (λ _. bus.hits.clauses) (λ _. Hits.hits) refl

  lists : Lists M Numbers.numbers
  lists = result_is (λ _. bus.numbers.clauses) (λ _. Numbers.numbers) refl

  explains : Explains M Why.explained
  explains = result_is (λ _. why.explained.clauses) (λ _. Why.explained) refl

  begins : Begins M fresh
  begins = result_is (λ _. chip.Device.fresh.clauses) (λ _. fresh) refl

pub is_the_code : TheMachineIsTheCode
is_the_code M = (transfers M, events M, asked M, looks M, tells M, lists M, explains M, begins M)
