use Rattle.std.proofs.Common.{refl, arith}
use Rattle.line.proofs.Digits.{number_cut, to_most, most_cuts, most_twice}
use Rattle.line.proofs.numbers.capped.Goals as goal

pub returns : goal.returns
returns c =
    number_cut to_most c.args.base _ most_twice (most_cuts c.args.base (omega arith)) (λ a b m p. omega arith) refl c.args.word.now c.number.result c.number.ensures
