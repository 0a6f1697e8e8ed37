-- `line::words::next_word` meets its contract: a word stands between the end of the blanks and that of its letters.
use Rattle.std.proofs.Common.{arith, not}
use Rattle.std.proofs.lemmas.List.Sums.{prefix_len-le-length}
use Rattle.line.specs.Words.{is_blank}
use Rattle.line.proofs.Cuts.{cut}
use Rattle.line.proofs.words.next_word.Goals as goal

pub split_at-requires : goal.split_at-requires
split_at-requires c = omega (arith, prefix_len-le-length is_blank c.args.s.now)

pub split_at-requires-2 : goal.split_at-requires-2
split_at-requires-2 c = omega (arith, prefix_len-le-length (λ b. not (is_blank b)) c.split_at.result.1.now)

pub returns : goal.returns
returns c =
    rw (c.split_at-2.ensures.front, c.split_at-2.ensures.back, c.letters.ensures, c.split_at.ensures.back, c.blanks.ensures)
    (cut c.args.s.now)
