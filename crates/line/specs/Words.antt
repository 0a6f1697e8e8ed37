-- A line's words. A line is a list of bytes, without the newline that ended it.
use Rattle.std.specs.Prelude.{◌≡◌, Bool, true, false, not, ◌||◌, List, [], ◌∷◌, Option, Some, None, ℕ, ◌<◌, eqb, length, drop, get_or}
use Rattle.std.specs.Cmp.Lexicographic.{pointwise}
use Rattle.std.specs.List.{prefix_len}
use Rattle.base.specs.Pick.{pick}

-- What follows `#` is passed over: the bytes before the first one.
abbrev pub is_comment : ℕ → Bool
is_comment b = eqb b 0x23

abbrev pub uncommented : List ℕ → List ℕ
uncommented [] = []
uncommented (b ∷ s) = pick (is_comment b) [] (b ∷ uncommented s)

-- Blanks are space, tab and carriage return.
abbrev pub is_blank : ℕ → Bool
is_blank b = eqb b 0x20 || (eqb b 0x09 || eqb b 0x0D)

-- A list of words is read from the left. Where a word is missing, an empty one is read, which no rule takes for a word.
abbrev pub first : List (List ℕ) → List ℕ
first ws = get_or ws 0 []

abbrev pub rest : List (List ℕ) → List (List ℕ)
rest ws = drop 1 ws

-- A byte that isn't blank stands before s, whose words are ws: it is a word by itself where s ends or begins with a
-- blank, and else the first letter of the first word of s.
abbrev pub joined : ℕ → List ℕ → List (List ℕ) → List (List ℕ)
joined b s ws = pick (is_blank (get_or s 0 0x20)) ((b ∷ []) ∷ ws) ((b ∷ first ws) ∷ rest ws)

-- Words are what blanks part.
abbrev pub words_of : List ℕ → List (List ℕ)
words_of [] = []
words_of (b ∷ s) = pick (is_blank b) (words_of s) (joined b s (words_of s))

-- Words are exact.
abbrev pub same : List ℕ → List ℕ → Bool
same s t = pointwise eqb s t

-- one word of two: whether it is the first of them
unfoldable pub choice_of : List ℕ → List ℕ → List ℕ → Option Bool
choice_of w one other = pick (same w one) (Some true) (pick (same w other) (Some false) None)

-- A table of words: what is said of the first that w is, or what holds otherwise.
abbrev pub among_words : {A : Type 0} → List ℕ → List (List ℕ × A) → A → A
among_words w [] other = other
among_words w (c ∷ cases) other = pick (same w c.0) c.1 (among_words w cases other)

-- ---- for the reader's own steps

-- how many bytes stand before a comment
abbrev pub before_comment : List ℕ → ℕ
before_comment s = prefix_len (λ b. not (is_comment b)) s

-- how many blanks a line begins with, and how many letters
abbrev pub blanks : List ℕ → ℕ
blanks s = prefix_len is_blank s

abbrev pub letters : List ℕ → ℕ
letters s = prefix_len (λ b. not (is_blank b)) s

-- s as its first word w, empty where s has none, and what stands after it
pub record Cut (s w after : List ℕ) : Type 0 where
  pub none : length w ≡ 0 → words_of s ≡ []
  pub some : 0 < length w → words_of s ≡ w ∷ words_of after
  pub word : w ≡ first (words_of s)
  pub others : words_of after ≡ rest (words_of s)
  pub shorter : 0 < length w → length after < length s
