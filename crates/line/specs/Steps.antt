-- Steps of reading a request from left to right. The first word that is wrong decides and is told; a missing word is
-- read as an empty one, and so is wrong.
use Rattle.std.specs.Prelude.{List, ℕ, Option, Some, None, Result, Ok, Err}
use denote.Ref.{Bor}
use Rattle.line.specs.declared.Expected.{Expected}
use Rattle.line.specs.declared.words.Misread.{Misread}
use Rattle.line.specs.Words.{words_of, first, rest}

-- what was read, or else what was expected and the word that stands there
abbrev pub Read : Type 0 → Type 0
Read A = Result A (Expected × List ℕ)

infixl 10 ◌>>=◌
abbrev pub ◌>>=◌ : {A B : Type 0} → Read A → (A → Read B) → Read B
Ok x >>= next = next x
Err wrong >>= next = Err wrong

-- w, where e is expected, by what it means there
abbrev pub meant : {A : Type 0} → Option A → Expected → List ℕ → Read A
meant (Some x) e w = Ok x
meant None e w = Err (e, w)

-- the first of the words, and those that follow it
abbrev pub word_as : {A : Type 0} → (List ℕ → Option A) → Expected → List (List ℕ) → Read (A × List (List ℕ))
word_as meaning e ws = do
  x ← meant (meaning (first ws)) e (first ws)
  Ok (x, rest ws)

-- ---- what the reader's own steps return

abbrev pub read : {A : Type 0} → Result A Misread → Read A
read (Ok x) = Ok x
read (Err m) = Err (m.expected, m.word.now)

-- with what is left of the line
abbrev pub read_on : {A : Type 0} → Result (A × Bor (List ℕ)) Misread → Read (A × List (List ℕ))
read_on (Ok p) = Ok (p.0, words_of p.1.now)
read_on (Err m) = Err (m.expected, m.word.now)
