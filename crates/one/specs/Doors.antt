-- One result for each public function of receive, refused, shown, done, host, judged, changed, bus and why. `Frames`
-- says how to read a line.
use Rattle.std.specs.Prelude.{refl, length}
use Rattle.std.specs.Coded.{coded_list, coded_ℕ}
use Rattle.receive.specs.Receive
use Rattle.refused.specs.Refused
use Rattle.shown.specs.Shown
use Rattle.done.specs.Done
use Rattle.host.specs.Transfer
use Rattle.judged.specs.Judged
use Rattle.changed.specs.Changed
use Rattle.bus.specs.Event
use Rattle.bus.specs.Hits
use Rattle.bus.specs.Numbers
use Rattle.bus.specs.Pins
use Rattle.why.specs.Why
use Rattle.why.specs.Fields
use Rattle.receive.specs.contracts as receive
use Rattle.refused.specs.contracts as refused
use Rattle.shown.specs.contracts as shown
use Rattle.done.specs.contracts as done
use Rattle.host.specs.contracts as host
use Rattle.judged.specs.contracts as judged
use Rattle.changed.specs.contracts as changed
use Rattle.bus.specs.contracts as bus
use Rattle.why.specs.contracts as why
use Rattle.one.specs.Law.{OneResult}
use Rattle.one.specs.Shapes.{result, result_and_content}

module _ (M : Type 1) where
  -- ---- receive
  pub receive-matching : OneResult M receive.matching.ended (λ _. receive.matching.spec)
  receive-matching = result (λ _. receive.matching.clauses) (λ _. Receive.matching) refl

  pub receive-hits : OneResult M receive.hits.ended (λ _. receive.hits.spec)
  receive-hits = result (λ _. receive.hits.clauses) (λ _. Receive.hits) refl

  pub receive-filters_and_room : OneResult M receive.filters_and_room.ended (λ _. receive.filters_and_room.spec)
  receive-filters_and_room = result (λ _. receive.filters_and_room.clauses) (λ _. Receive.filters_and_room) refl

  pub receive-reaches_temporary : OneResult M receive.reaches_temporary.ended (λ _. receive.reaches_temporary.spec)
  receive-reaches_temporary = result (λ _. receive.reaches_temporary.clauses) (λ _. Receive.reaches_temporary) refl

  pub receive-own_frame : OneResult M receive.own_frame.ended (λ _. receive.own_frame.spec)
  receive-own_frame = result (λ _. receive.own_frame.clauses) (λ _. Receive.own_frame) refl

  pub receive-arrived : OneResult M receive.arrived.ended (λ _. receive.arrived.spec)
  receive-arrived = result (λ _. receive.arrived.clauses) (λ _. Receive.arrived) refl

  -- ---- refused
  pub refused-judge : OneResult M refused.judge.ended (λ _. refused.judge.spec)
  refused-judge = result (λ _. refused.judge.clauses) (λ _ d bytes lent. Refused.verdict d bytes.now lent) refl

  -- ---- shown
  pub shown-shows : OneResult M shown.shows.ended (λ _. shown.shows.spec)
  shown-shows = result (λ _. shown.shows.clauses) (λ _. Shown.shows) refl

  -- ---- done
  pub done-does : OneResult M done.does.ended (λ _. done.does.spec)
  done-does = result (λ _. done.does.clauses) (λ _ d v k bytes. Done.does d v k bytes.now) refl

  -- ---- host
  pub host-transfer : OneResult M host.transfer.ended (λ _. host.transfer.spec)
  host-transfer =
      result_and_content (λ _. host.transfer.clauses) (coded_list coded_ℕ) (λ _ w. w.1.1.0) (λ _ v. (tt, (tt, (v, tt))))
      (λ _ d bytes reply. Transfer.transfer d bytes.now (length reply.now))
      (λ _ d bytes reply. Transfer.reply_after d bytes.now reply.now) refl

  -- ---- judged
  pub judged-impossible : OneResult M judged.impossible.ended (λ _. judged.impossible.spec)
  judged-impossible = result (λ _. judged.impossible.clauses) (λ _. Judged.impossible) refl

  pub judged-impossible_frame : OneResult M judged.impossible_frame.ended (λ _. judged.impossible_frame.spec)
  judged-impossible_frame = result (λ _. judged.impossible_frame.clauses) (λ _. Judged.impossible_frame) refl

  pub judged-brings : OneResult M judged.brings.ended (λ _. judged.brings.spec)
  judged-brings = result (λ _. judged.brings.clauses) (λ _. Judged.brings) refl

  pub judged-reason : OneResult M judged.reason.ended (λ _. judged.reason.spec)
  judged-reason = result (λ _. judged.reason.clauses) (λ _. Judged.reason) refl

  pub judged-said : OneResult M judged.said.ended (λ _. judged.said.spec)
  judged-said = result (λ _. judged.said.clauses) (λ _. Judged.said) refl

  pub judged-no_number_left : OneResult M judged.no_number_left.ended (λ _. judged.no_number_left.spec)
  judged-no_number_left = result (λ _. judged.no_number_left.clauses) (λ _. Judged.no_number_left) refl

  -- ---- changed
  pub changed-arrival : OneResult M changed.arrival.ended (λ _. changed.arrival.spec)
  changed-arrival = result (λ _. changed.arrival.clauses) (λ _. Changed.arrival) refl

  pub changed-after : OneResult M changed.after.ended (λ _. changed.after.spec)
  changed-after = result (λ _. changed.after.clauses) (λ _. Changed.after) refl

  -- ---- bus
  pub bus-answer : OneResult M bus.answer.ended (λ _. bus.answer.spec)
  bus-answer = result (λ _. bus.answer.clauses) (λ _. Event.answer) refl

  pub bus-event : OneResult M bus.event.ended (λ _. bus.event.spec)
  bus-event = result (λ _. bus.event.clauses) (λ _. Event.event) refl

  pub bus-hits : OneResult M bus.hits.ended (λ _. bus.hits.spec)
  bus-hits = result (λ _. bus.hits.clauses) (λ _. Hits.hits) refl

  pub bus-numbers : OneResult M bus.numbers.ended (λ _. bus.numbers.spec)
  bus-numbers = result (λ _. bus.numbers.clauses) (λ _. Numbers.numbers) refl

  pub bus-pins : OneResult M bus.pins.ended (λ _. bus.pins.spec)
  bus-pins = result (λ _. bus.pins.clauses) (λ _. Pins.pins) refl

  -- ---- why
  pub why-explained : OneResult M why.explained.ended (λ _. why.explained.spec)
  why-explained = result (λ _. why.explained.clauses) (λ _. Why.explained) refl

  pub why-field_at : OneResult M why.field_at.ended (λ _. why.field_at.spec)
  why-field_at = result (λ _. why.field_at.clauses) (λ _. Fields.field_at) refl
