-- One result for each public function of counters, levels and fifo. `Frames` says how to read a line.
use Rattle.std.specs.Prelude.{refl}
use Rattle.counters.specs.Rules
use Rattle.levels.specs.Levels
use Rattle.fifo.specs.Queue
use Rattle.counters.specs.contracts as counters
use Rattle.counters.specs.contracts.Counters
use Rattle.levels.specs.contracts as levels
use Rattle.fifo.specs.contracts as fifo
use Rattle.fifo.specs.contracts.Fifo
use Rattle.one.specs.Law.{OneResult}
use Rattle.one.specs.Shapes.{result, lent}

module _ (M : Type 1) where
  -- ---- counters
  pub Counters-receive_error : OneResult M Counters.receive_error.ended (λ _. Counters.receive_error.spec)
  Counters-receive_error = result (λ _. Counters.receive_error.clauses) (λ _. Rules.receive_error) refl

  pub Counters-dominant_bit : OneResult M Counters.dominant_bit.ended (λ _. Counters.dominant_bit.spec)
  Counters-dominant_bit = result (λ _. Counters.dominant_bit.clauses) (λ _. Rules.dominant_bit) refl

  pub Counters-good_frame : OneResult M Counters.good_frame.ended (λ _. Counters.good_frame.spec)
  Counters-good_frame = result (λ _. Counters.good_frame.clauses) (λ _. Rules.good_frame) refl

  pub Counters-transmit_error : OneResult M Counters.transmit_error.ended (λ _. Counters.transmit_error.spec)
  Counters-transmit_error = result (λ _. Counters.transmit_error.clauses) (λ _. Rules.transmit_error) refl

  pub Counters-completed : OneResult M Counters.completed.ended (λ _. Counters.completed.spec)
  Counters-completed = result (λ _. Counters.completed.clauses) (λ _. Rules.completed) refl

  pub Counters-eleven_recessive : OneResult M Counters.eleven_recessive.ended (λ _. Counters.eleven_recessive.spec)
  Counters-eleven_recessive = result (λ _. Counters.eleven_recessive.clauses) (λ _. Rules.eleven_recessive) refl

  pub Counters-test_rec : OneResult M Counters.test_rec.ended (λ _. Counters.test_rec.spec)
  Counters-test_rec = result (λ _. Counters.test_rec.clauses) (λ _. Rules.test_rec) refl

  pub Counters-test_tec : OneResult M Counters.test_tec.ended (λ _. Counters.test_tec.spec)
  Counters-test_tec = result (λ _. Counters.test_tec.clauses) (λ _. Rules.test_tec) refl

  pub counters-lent-receive_error : OneResult M counters.lent.receive_error.ended (λ _. counters.lent.receive_error.spec)
  counters-lent-receive_error = lent Counters.the_type Rules.receive_error

  pub counters-lent-good_frame : OneResult M counters.lent.good_frame.ended (λ _. counters.lent.good_frame.spec)
  counters-lent-good_frame = lent Counters.the_type Rules.good_frame

  pub counters-lent-transmit_error : OneResult M counters.lent.transmit_error.ended (λ _. counters.lent.transmit_error.spec)
  counters-lent-transmit_error = lent Counters.the_type Rules.transmit_error

  pub counters-lent-completed : OneResult M counters.lent.completed.ended (λ _. counters.lent.completed.spec)
  counters-lent-completed = lent Counters.the_type Rules.completed

  -- ---- levels
  pub levels-errw : OneResult M levels.errw.ended (λ _. levels.errw.spec)
  levels-errw = result (λ _. levels.errw.clauses) (λ _. Levels.errw) refl

  pub levels-errp : OneResult M levels.errp.ended (λ _. levels.errp.spec)
  levels-errp = result (λ _. levels.errp.clauses) (λ _. Levels.errp) refl

  pub levels-level_bits : OneResult M levels.level_bits.ended (λ _. levels.level_bits.spec)
  levels-level_bits = result (λ _. levels.level_bits.clauses) (λ _. Levels.level_bits) refl

  pub levels-tec_shown : OneResult M levels.tec_shown.ended (λ _. levels.tec_shown.spec)
  levels-tec_shown = result (λ _. levels.tec_shown.clauses) (λ _. Levels.tec_shown) refl

  pub levels-groups_shown : OneResult M levels.groups_shown.ended (λ _. levels.groups_shown.spec)
  levels-groups_shown = result (λ _. levels.groups_shown.clauses) (λ _. Levels.groups_shown) refl

  -- ---- fifo
  pub Fifo-empty : OneResult M Fifo.empty.ended (λ _. Fifo.empty.spec)
  Fifo-empty = result (λ _. Fifo.empty.clauses) (λ _. Queue.empty) refl

  pub fifo-eight_wait : OneResult M fifo.eight_wait.ended (λ _. fifo.eight_wait.spec)
  fifo-eight_wait = result (λ _. fifo.eight_wait.clauses) (λ _. Queue.eight_wait) refl

  pub fifo-none_waits : OneResult M fifo.none_waits.ended (λ _. fifo.none_waits.spec)
  fifo-none_waits = result (λ _. fifo.none_waits.clauses) (λ _. Queue.none_waits) refl

  pub Fifo-full : OneResult M Fifo.full.ended (λ _. Fifo.full.spec)
  Fifo-full = result (λ _. Fifo.full.clauses) (λ _. Queue.full) refl

  pub Fifo-is_empty : OneResult M Fifo.is_empty.ended (λ _. Fifo.is_empty.spec)
  Fifo-is_empty = result (λ _. Fifo.is_empty.clauses) (λ _. Queue.is_empty) refl

  pub Fifo-place : OneResult M Fifo.place.ended (λ _. Fifo.place.spec)
  Fifo-place = result (λ _. Fifo.place.clauses) (λ _. Queue.place) refl

  pub Fifo-put : OneResult M Fifo.put.ended (λ _. Fifo.put.spec)
  Fifo-put = result (λ _. Fifo.put.clauses) (λ _. Queue.put) refl

  pub Fifo-place_over : OneResult M Fifo.place_over.ended (λ _. Fifo.place_over.spec)
  Fifo-place_over = result (λ _. Fifo.place_over.clauses) (λ _. Queue.place_over) refl

  pub Fifo-put_over : OneResult M Fifo.put_over.ended (λ _. Fifo.put_over.spec)
  Fifo-put_over = result (λ _. Fifo.put_over.clauses) (λ _. Queue.put_over) refl

  pub Fifo-take : OneResult M Fifo.take.ended (λ _. Fifo.take.spec)
  Fifo-take = result (λ _. Fifo.take.clauses) (λ _. Queue.take) refl

  pub Fifo-next : OneResult M Fifo.next.ended (λ _. Fifo.next.spec)
  Fifo-next = result (λ _. Fifo.next.clauses) (λ _. Queue.next) refl

  pub Fifo-latest : OneResult M Fifo.latest.ended (λ _. Fifo.latest.spec)
  Fifo-latest = result (λ _. Fifo.latest.clauses) (λ _. Queue.latest) refl

  pub Fifo-in_range : OneResult M Fifo.in_range.ended (λ _. Fifo.in_range.spec)
  Fifo-in_range = result (λ _. Fifo.in_range.clauses) (λ _. Queue.in_range) refl
