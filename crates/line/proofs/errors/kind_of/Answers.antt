-- `line::errors::kind_of` meets its contract: a word of so many letters is those letters. Assumes nothing.
use Rattle.std.proofs.Common.{sym, ap, arith, rules}
use Rattle.std.proofs.lemmas.Slice.Eq.{text_from_reads}
use Rattle.line.specs.Text.{ascii}
use Rattle.line.specs.Request.{kind_of}
use Rattle.line.proofs.errors.kind_of.Goals as goal

pub returns-in-stuff : goal.returns-in-stuff
unfolding kind_of
returns-in-stuff c = sym (ap kind_of (text_from_reads c.args.word.now (ascii "stuff") (omega arith) (search rules)))
