-- `line::words::uncommented` meets its contract. Assumes nothing.
use Rattle.std.proofs.Common.{arith, not}
use Rattle.std.proofs.lemmas.List.Sums.{prefix_len-le-length}
use Rattle.line.specs.Words.{is_comment}
use Rattle.line.proofs.Cuts.{uncommented_taken}
use Rattle.line.proofs.words.uncommented.Goals as goal

pub split_at-requires : goal.split_at-requires
split_at-requires c = omega (arith, prefix_len-le-length (λ b. not (is_comment b)) c.args.s.now)

pub returns : goal.returns
returns c = rw (c.split_at.ensures.front, c.before_comment.ensures) (uncommented_taken c.args.s.now)
