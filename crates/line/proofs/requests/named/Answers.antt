-- `line::requests::named` meets its contract: a word of so many letters is those letters, and what is read otherwise is
-- none of the words, as the byte shows at which the match leaves it. Assumes nothing.
use Rattle.std.proofs.Common.{◌≡◌, arith, rules}
use Rattle.std.proofs.lemmas.Slice.Eq.{text_from_reads}
use Rattle.line.specs.Text.{ascii}
use Rattle.line.specs.Request.{named_of}
use Rattle.line.proofs.requests.named.Goals as goal
use Rattle.line.proofs.requests.named.Goals.{
  in_default-word-via-then-word-lt3,
  in_default-word-via-else-word-lt3+then-word-lt4+in-115+in-112+in_default-1,
  in_default-word-via-else-word-lt3+then-word-lt4+in-115+in_default-1,
  in_default-word-via-else-word-lt3+then-word-lt4+in_default-1,
  in_default-word-via-else-word-lt3+else-word-lt4+then-word-lt5+in-104+in-105+in-116+in_default-1,
  in_default-word-via-else-word-lt3+else-word-lt4+then-word-lt5+in-104+in-105+in_default-1,
  in_default-word-via-else-word-lt3+else-word-lt4+then-word-lt5+in-104+in_default-1,
  in_default-word-via-else-word-lt3+else-word-lt4+then-word-lt5+in-116+in-120+in-101+in_default-1,
  in_default-word-via-else-word-lt3+else-word-lt4+then-word-lt5+in-116+in-120+in_default-1,
  in_default-word-via-else-word-lt3+else-word-lt4+then-word-lt5+in-116+in_default-1,
  in_default-word-via-else-word-lt3+else-word-lt4+then-word-lt5+in_default-1,
  in_default-word-via-else-word-lt3+else-word-lt4+else-word-lt5+then-word-lt6+in-102+in-114+in-97+in-109+in_default-1,
  in_default-word-via-else-word-lt3+else-word-lt4+else-word-lt5+then-word-lt6+in-102+in-114+in-97+in_default-1,
  in_default-word-via-else-word-lt3+else-word-lt4+else-word-lt5+then-word-lt6+in-102+in-114+in_default-1,
  in_default-word-via-else-word-lt3+else-word-lt4+else-word-lt5+then-word-lt6+in-102+in_default-1,
  in_default-word-via-else-word-lt3+else-word-lt4+else-word-lt5+then-word-lt6+in-114+in-120+in-101+in-114-word-18+in_default-1,
  in_default-word-via-else-word-lt3+else-word-lt4+else-word-lt5+then-word-lt6+in-114+in-120+in-101+in_default-1,
  in_default-word-via-else-word-lt3+else-word-lt4+else-word-lt5+then-word-lt6+in-114+in-120+in_default-1,
  in_default-word-via-else-word-lt3+else-word-lt4+else-word-lt5+then-word-lt6+in-114+in_default-1,
  in_default-word-via-else-word-lt3+else-word-lt4+else-word-lt5+then-word-lt6+in-116+in-120+in-101+in-114+in_default-1,
  in_default-word-via-else-word-lt3+else-word-lt4+else-word-lt5+then-word-lt6+in-116+in-120+in-101+in_default-1,
  in_default-word-via-else-word-lt3+else-word-lt4+else-word-lt5+then-word-lt6+in-116+in-120+in_default-1,
  in_default-word-via-else-word-lt3+else-word-lt4+else-word-lt5+then-word-lt6+in-116+in-105+in-99+in-107+in_default-1,
  in_default-word-via-else-word-lt3+else-word-lt4+else-word-lt5+then-word-lt6+in-116+in-105+in-99+in_default-1,
  in_default-word-via-else-word-lt3+else-word-lt4+else-word-lt5+then-word-lt6+in-116+in-105+in_default-1,
  in_default-word-via-else-word-lt3+else-word-lt4+else-word-lt5+then-word-lt6+in-116+in_default-1,
  in_default-word-via-else-word-lt3+else-word-lt4+else-word-lt5+then-word-lt6+in_default-1,
  in_default-word-via-else-word-lt3+else-word-lt4+else-word-lt5+else-word-lt6,
}

pub returns-in-frame : goal.returns-in-frame
unfolding named_of
returns-in-frame c =
    let word : c.args.word.now ≡ ascii "frame" = text_from_reads _ _ (omega arith) (search rules) in
    rw word (search rules)

pub returns-in-hits : goal.returns-in-hits
unfolding named_of
returns-in-hits c =
    let word : c.args.word.now ≡ ascii "hits" = text_from_reads _ _ (omega arith) (search rules) in
    rw word (search rules)

pub returns-in-rxerr : goal.returns-in-rxerr
unfolding named_of
returns-in-rxerr c =
    let word : c.args.word.now ≡ ascii "rxerr" = text_from_reads _ _ (omega arith) (search rules) in
    rw word (search rules)

pub returns-in-txerr : goal.returns-in-txerr
unfolding named_of
returns-in-txerr c =
    let word : c.args.word.now ≡ ascii "txerr" = text_from_reads _ _ (omega arith) (search rules) in
    rw word (search rules)

pub returns-in-ticks : goal.returns-in-ticks
unfolding named_of
returns-in-ticks c =
    let word : c.args.word.now ≡ ascii "ticks" = text_from_reads _ _ (omega arith) (search rules) in
    rw word (search rules)

pub returns-in-txen : goal.returns-in-txen
unfolding named_of
returns-in-txen c =
    let word : c.args.word.now ≡ ascii "txen" = text_from_reads _ _ (omega arith) (search rules) in
    rw word (search rules)

pub returns-in_default-word : goal.returns-in_default-word
unfolding named_of
returns-in_default-word c =
    elim c.in_default-word.branch [
      | in_default-word-via-then-word-lt3 w ↦ search rules
      | in_default-word-via-else-word-lt3+then-word-lt4+in-115+in-112+in_default-1 w ↦ search rules
      | in_default-word-via-else-word-lt3+then-word-lt4+in-115+in_default-1 w ↦ search rules
      | in_default-word-via-else-word-lt3+then-word-lt4+in_default-1 w ↦ search rules
      | in_default-word-via-else-word-lt3+else-word-lt4+then-word-lt5+in-104+in-105+in-116+in_default-1 w ↦ search rules
      | in_default-word-via-else-word-lt3+else-word-lt4+then-word-lt5+in-104+in-105+in_default-1 w ↦ search rules
      | in_default-word-via-else-word-lt3+else-word-lt4+then-word-lt5+in-104+in_default-1 w ↦ search rules
      | in_default-word-via-else-word-lt3+else-word-lt4+then-word-lt5+in-116+in-120+in-101+in_default-1 w ↦ search rules
      | in_default-word-via-else-word-lt3+else-word-lt4+then-word-lt5+in-116+in-120+in_default-1 w ↦ search rules
      | in_default-word-via-else-word-lt3+else-word-lt4+then-word-lt5+in-116+in_default-1 w ↦ search rules
      | in_default-word-via-else-word-lt3+else-word-lt4+then-word-lt5+in_default-1 w ↦ search rules
      | in_default-word-via-else-word-lt3+else-word-lt4+else-word-lt5+then-word-lt6+in-102+in-114+in-97+in-109+in_default-1 w ↦ search rules
      | in_default-word-via-else-word-lt3+else-word-lt4+else-word-lt5+then-word-lt6+in-102+in-114+in-97+in_default-1 w ↦ search rules
      | in_default-word-via-else-word-lt3+else-word-lt4+else-word-lt5+then-word-lt6+in-102+in-114+in_default-1 w ↦ search rules
      | in_default-word-via-else-word-lt3+else-word-lt4+else-word-lt5+then-word-lt6+in-102+in_default-1 w ↦ search rules
      | in_default-word-via-else-word-lt3+else-word-lt4+else-word-lt5+then-word-lt6+in-114+in-120+in-101+in-114-word-18+in_default-1 w ↦ search rules
      | in_default-word-via-else-word-lt3+else-word-lt4+else-word-lt5+then-word-lt6+in-114+in-120+in-101+in_default-1 w ↦ search rules
      | in_default-word-via-else-word-lt3+else-word-lt4+else-word-lt5+then-word-lt6+in-114+in-120+in_default-1 w ↦ search rules
      | in_default-word-via-else-word-lt3+else-word-lt4+else-word-lt5+then-word-lt6+in-114+in_default-1 w ↦ search rules
      | in_default-word-via-else-word-lt3+else-word-lt4+else-word-lt5+then-word-lt6+in-116+in-120+in-101+in-114+in_default-1 w ↦ search rules
      | in_default-word-via-else-word-lt3+else-word-lt4+else-word-lt5+then-word-lt6+in-116+in-120+in-101+in_default-1 w ↦ search rules
      | in_default-word-via-else-word-lt3+else-word-lt4+else-word-lt5+then-word-lt6+in-116+in-120+in_default-1 w ↦ search rules
      | in_default-word-via-else-word-lt3+else-word-lt4+else-word-lt5+then-word-lt6+in-116+in-105+in-99+in-107+in_default-1 w ↦ search rules
      | in_default-word-via-else-word-lt3+else-word-lt4+else-word-lt5+then-word-lt6+in-116+in-105+in-99+in_default-1 w ↦ search rules
      | in_default-word-via-else-word-lt3+else-word-lt4+else-word-lt5+then-word-lt6+in-116+in-105+in_default-1 w ↦ search rules
      | in_default-word-via-else-word-lt3+else-word-lt4+else-word-lt5+then-word-lt6+in-116+in_default-1 w ↦ search rules
      | in_default-word-via-else-word-lt3+else-word-lt4+else-word-lt5+then-word-lt6+in_default-1 w ↦ search rules
      | in_default-word-via-else-word-lt3+else-word-lt4+else-word-lt5+else-word-lt6 w ↦ search rules
    ]
