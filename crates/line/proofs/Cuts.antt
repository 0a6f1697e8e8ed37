-- A line's words from the places where blanks and letters end. Assumes nothing.
use mathlib.Core.Path.{◌≡◌, refl, ap, sym, ◌∙◌}
use mathlib.Core.Bool.{Bool, true, false, not, true≢false}
use mathlib.Core.List.{List, [], ◌∷◌}
use Prim.Native.Nat.{ℕ, zero, suc, ◌+◌, ◌<◌}
use native.Mathlib.Omega.{arith}
use lib.ListN.{take, drop, get_or, length-drop}
use Rattle.std.proofs.lemmas.List.Folds.{length-prefix_len}
use Rattle.std.proofs.lemmas.List.Sums.{prefix_len-le-length}
use Rattle.base.specs.Pick.{pick}
use Rattle.line.specs.Words.{uncommented, is_comment, before_comment, is_blank, blanks, letters, first, rest, joined, words_of, Cut}

one_more : (n : ℕ) → 1 + n ≡ suc n
one_more n = omega arith

pub uncommented_taken : (s : List ℕ) → take (before_comment s) s ≡ uncommented s
uncommented_taken [] = refl
uncommented_taken (b ∷ s) = go (is_comment b) (uncommented_taken s)
  where
    go : (t : Bool) → take (before_comment s) s ≡ uncommented s
        → take (pick (not t) (1 + before_comment s) 0) (b ∷ s) ≡ pick t [] (b ∷ uncommented s)
    go true p = refl
    go false p = rw (one_more, p)

-- blanks before words make no difference
blanks_passed : (s : List ℕ) → words_of (drop (blanks s) s) ≡ words_of s
blanks_passed [] = refl
blanks_passed (b ∷ s) = go (is_blank b) refl (blanks_passed s)
  where
    go : (t : Bool) → is_blank b ≡ t → words_of (drop (blanks s) s) ≡ words_of s
        → words_of (drop (pick t (1 + blanks s) 0) (b ∷ s)) ≡ pick t (words_of s) (joined b s (words_of s))
    go true e p = simp one_more p
    go false e p = rw e

-- past the blanks no blank stands
blanks_end : (s : List ℕ) → blanks (drop (blanks s) s) ≡ 0
blanks_end [] = refl
blanks_end (b ∷ s) = go (is_blank b) refl (blanks_end s)
  where
    go : (t : Bool) → is_blank b ≡ t → blanks (drop (blanks s) s) ≡ 0
        → blanks (drop (pick t (1 + blanks s) 0) (b ∷ s)) ≡ 0
    go true e p = simp one_more p
    go false e p = rw e

-- with neither blanks nor letters nothing is left
no_word : (s : List ℕ) → blanks s ≡ 0 → letters s ≡ 0 → s ≡ []
no_word [] p q = refl
no_word (b ∷ s) p q = go (is_blank b) p q
  where
    go : (t : Bool) → pick t (1 + blanks s) 0 ≡ 0 → pick (not t) (1 + letters s) 0 ≡ 0 → b ∷ s ≡ []
    go true p q = absurd (omega arith)
    go false p q = absurd (omega arith)

-- the letters that a line begins with are its first word
one_word : (s : List ℕ) → 0 < letters s → words_of s ≡ take (letters s) s ∷ words_of (drop (letters s) s)
one_word [] h = absurd (omega arith)
one_word (b ∷ s) h = go (is_blank b) h (one_word s)
  where
    ended : (s : List ℕ) → is_blank (get_or s 0 0x20) ≡ true → letters s ≡ 0
    ended [] e = refl
    ended (a ∷ s) e = rw e

    more : (s : List ℕ) → is_blank (get_or s 0 0x20) ≡ false → 0 < letters s
    more [] e = absurd (true≢false e)
    more (a ∷ s) e = rw e (omega arith)

    here : (t : Bool) → is_blank (get_or s 0 0x20) ≡ t → (0 < letters s → words_of s ≡ take (letters s) s ∷ words_of (drop (letters s) s))
        → pick t ((b ∷ []) ∷ words_of s) ((b ∷ first (words_of s)) ∷ rest (words_of s)) ≡ (b ∷ take (letters s) s) ∷ words_of (drop (letters s) s)
    here true e p = rw (ended s e)
    here false e p = rw (p (more s e))

    go : (t : Bool) → 0 < pick (not t) (1 + letters s) 0 → (0 < letters s → words_of s ≡ take (letters s) s ∷ words_of (drop (letters s) s))
        → pick t (words_of s) (joined b s (words_of s))
        ≡ take (pick (not t) (1 + letters s) 0) (b ∷ s) ∷ words_of (drop (pick (not t) (1 + letters s) 0) (b ∷ s))
    go true h p = absurd (omega arith)
    go false h p = simp one_more (here (is_blank (get_or s 0 0x20)) refl p)

-- past the blanks of s stands its first word
pub cut : (s : List ℕ) → Cut s (take (letters (drop (blanks s) s)) (drop (blanks s) s)) (drop (letters (drop (blanks s) s)) (drop (blanks s) s))
cut s = go (letters t) refl
  where
    t : List ℕ
    t = drop (blanks s) s

    go : (n : ℕ) → letters t ≡ n → Cut s (take (letters t) t) (drop (letters t) t)
    go zero e =
        let nothing : t ≡ [] = no_word t (blanks_end s) e in
        let left : words_of s ≡ [] = sym (blanks_passed s) ∙ ap words_of nothing in
        rw nothing record {
          none = λ h. left;
          some = λ h. absurd (omega arith);
          word = rw left;
          others = rw left;
          shorter = λ h. absurd (omega arith);
        }
    go (suc n) e =
        let found : words_of s ≡ take (letters t) t ∷ words_of (drop (letters t) t) = sym (blanks_passed s) ∙ one_word t (omega arith) in
        record {
          none = λ h. absurd (omega (arith, length-prefix_len (λ b. not (is_blank b)) t));
          some = λ h. found;
          word = rw found;
          others = rw found;
          shorter = λ h. omega (arith, length-prefix_len (λ b. not (is_blank b)) t, prefix_len-le-length (λ b. not (is_blank b)) t, length-drop (letters t) t, length-drop (blanks s) s);
        }
