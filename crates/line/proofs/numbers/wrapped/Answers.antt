-- `line::numbers::wrapped` meets its contract: cutting before a digit makes no difference after it. Assumes nothing.
use Rattle.std.proofs.Common.{refl, arith}
use Rattle.line.proofs.Digits.{number_cut, to_16_bits, bits_cut, bits_twice}
use Rattle.line.proofs.numbers.wrapped.Goals as goal

pub returns : goal.returns
returns c = number_cut to_16_bits 10 _ bits_twice bits_cut (λ a b m p. omega arith) refl c.args.word.now c.number.result c.number.ensures
