-- The loop of `line::data::gather`: with the words that are left, the data so far are the data of all.
use Rattle.std.proofs.Common.{◌≡◌, length}
use Rattle.line.specs.Words.{words_of}
use Rattle.line.specs.Data.{data_of}
use Rattle.line.proofs.Gathering.{gathered}
use Rattle.line.proofs.data.gather.Given as goal

abbrev pub invariant-loop-word : goal.invariant-loop-word
invariant-loop-word l = gathered l.data (words_of l.rest) ≡ data_of (words_of l.s)

abbrev pub decreases-loop-word : goal.decreases-loop-word
decreases-loop-word l = length l.rest
