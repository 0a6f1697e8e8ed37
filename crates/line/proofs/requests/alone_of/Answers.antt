-- `line::requests::alone_of` meets its contract: a word of so many letters is those letters. Assumes nothing.
use Rattle.std.proofs.Common.{ap, sym, arith, rules}
use Rattle.std.proofs.lemmas.Slice.Eq.{text_from_reads}
use Rattle.line.specs.Text.{ascii}
use Rattle.line.specs.Request.{alone_of}
use Rattle.line.proofs.requests.alone_of.Goals as goal

pub returns-in-dominant : goal.returns-in-dominant
unfolding alone_of
returns-in-dominant c = sym (ap alone_of (text_from_reads c.args.word.now (ascii "dominant") (omega arith) (search rules)))

pub returns-in-begin : goal.returns-in-begin
unfolding alone_of
returns-in-begin c = sym (ap alone_of (text_from_reads c.args.word.now (ascii "begin") (omega arith) (search rules)))

pub returns-in-done : goal.returns-in-done
unfolding alone_of
returns-in-done c = sym (ap alone_of (text_from_reads c.args.word.now (ascii "done") (omega arith) (search rules)))

pub returns-in-lost : goal.returns-in-lost
unfolding alone_of
returns-in-lost c = sym (ap alone_of (text_from_reads c.args.word.now (ascii "lost") (omega arith) (search rules)))

pub returns-in-recessive : goal.returns-in-recessive
unfolding alone_of
returns-in-recessive c = sym (ap alone_of (text_from_reads c.args.word.now (ascii "recessive") (omega arith) (search rules)))

pub returns-in-quiet : goal.returns-in-quiet
unfolding alone_of
returns-in-quiet c = sym (ap alone_of (text_from_reads c.args.word.now (ascii "quiet") (omega arith) (search rules)))

pub returns-in-activity : goal.returns-in-activity
unfolding alone_of
returns-in-activity c = sym (ap alone_of (text_from_reads c.args.word.now (ascii "activity") (omega arith) (search rules)))

pub returns-in-pins : goal.returns-in-pins
unfolding alone_of
returns-in-pins c = sym (ap alone_of (text_from_reads c.args.word.now (ascii "pins") (omega arith) (search rules)))

pub returns-in-numbers : goal.returns-in-numbers
unfolding alone_of
returns-in-numbers c = sym (ap alone_of (text_from_reads c.args.word.now (ascii "numbers") (omega arith) (search rules)))
