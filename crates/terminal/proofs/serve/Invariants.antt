-- `terminal::serve` reads as often as messages wait.
use Rattle.terminal.proofs.Turns.{Serving}
use Rattle.terminal.proofs.serve.Given as goal

abbrev pub invariant-loop-s : goal.invariant-loop-s
invariant-loop-s l = Serving l.initial.page l.initial.s l.page l.used l.s

abbrev pub decreases-loop-s : goal.decreases-loop-s
decreases-loop-s l = l.s.device.rx.count
