-- A frame whose header is possible shows its fields in its sixteen bytes. Assumes nothing.
use mathlib.Core.Path.{◌≡◌, refl, sym, ◌∙◌, ap}
use mathlib.Core.Bool.{Bool, true, false, ◌&&◌, and_assoc}
use mathlib.Core.List.{List, [], ◌∷◌, ◌++◌, map}
use Prim.Native.Nat.{ℕ, zero, suc, pred, ◌+◌, ◌*◌, ◌/◌, ◌%◌, ◌^◌, ◌<◌, ◌≤◌, min}
use native.Mathlib.Nat.{add-zero, div-one, mod-eq_of_lt}
use native.Mathlib.Omega.{arith}
use borrow.Author.Tests.{lt-ltb, le-leb, leb-true, leb-false}
use lib.Dec.{leb, ltb}
use lib.ListN.{get_or}
use lib.Seq.{get_or-drop}
use Rattle.base.specs.Bit.{bits, byte}
use Rattle.base.specs.Pick.{pick, flag}
use Rattle.frame.specs.declared.Header.{Header}
use Rattle.frame.specs.Length.{possible, data_fits, data_bytes, data_length, data_of}
use Rattle.frame.specs.Received.{received}
use Rattle.frame.specs.Tables.{id_bits, id_as_read, compared as compared_by}
use Rattle.frame.proofs.Data.{data_has}
use Rattle.frame.proofs.Parts.{id_fits, code_fits}
use Rattle.frame.proofs.ReadBack.{data_back}
use Rattle.promise.specs.Filters.{compared}
use Rattle.promise.specs.Hits.{filhit_of}
use Rattle.promise.specs.Frames.{Frame, blank, message, data_count, can_arrive, data_byte, identifier_in, identifier_read, Shows}

-- ---- how many data bytes a frame has, and whether it can arrive

least_eight : (t : Bool) (code : ℕ) → leb code 8 ≡ t → pick t code 8 ≡ min code 8
least_eight true code few = omega (arith, leb-true code 8 few)
least_eight false code many = omega (arith, leb-false code 8 many)

pub count_same : (h : Header) → data_bytes h ≡ data_count h
unfolding data_bytes data_length
count_same h = ap (λ (n : ℕ). pick h.remote 0 n) (least_eight (leb h.code 8) h.code refl)

pub arrives_same : (h : Header) (count : ℕ) → (possible h && data_fits h count) ≡ can_arrive h count
unfolding possible data_fits
arrives_same h count = rw (count_same h) (simp and_assoc)

-- ---- its data

pub data_at : (h : Header) (payload : List ℕ) (i : ℕ) → get_or (data_of h payload) i 0 ≡ pick (ltb i (data_count h)) (get_or payload i 0) 0
data_at h payload i = rw (← count_same h) (data_has h payload i)

module _ (h : Header) (payload : List ℕ) (time hit : ℕ) where
  data_shown : (k : ℕ) → 1 ≤ k → k ≤ 8 → byte (received h payload time hit) (8 + k) ≡ data_byte h payload k
  data_shown zero above below = absurd (omega arith)
  data_shown (suc i) above below =
      let place : pred (8 + suc i) ≡ 8 + i = omega arith in
      rw place
      (sym (get_or-drop 8 (received h payload time hit) i 0) ∙ ap (λ (b : List ℕ). get_or b i 0) (data_back h payload time hit) ∙ data_at h payload i)

-- ---- the identifier, in its four bytes

-- as the device lays out a number of 29 bits
abbrev laid : ℕ → ℕ → ℕ → ℕ → List ℕ
laid ide n bit4 bit0 =
    bits 28 21 n ∷ (bits 20 18 n * 32 + bit4 * 16 + ide * 8 + bits 17 15 n) ∷ bits 14 7 n ∷ (bits 6 0 n * 2 + bit0) ∷ []

four : {a b c d a' b' c' d' : ℕ} → a ≡ a' → b ≡ b' → c ≡ c' → d ≡ d' → a ∷ b ∷ c ∷ d ∷ [] ≡ a' ∷ b' ∷ c' ∷ d' ∷ []
four p q r s = λ i. p i ∷ q i ∷ r i ∷ s i ∷ []

extended_laid : (n bit4 bit0 : ℕ) → n < 2 ^ 29
    → laid 1 (n % 2 ^ 29) bit4 bit0
    ≡ n / 2 ^ 21 ∷ (n / 2 ^ 18 % 8 * 32 + bit4 * 16 + 8 + n / 2 ^ 15 % 8) ∷ n / 2 ^ 7 % 256 ∷ (n % 128 * 2 + bit0) ∷ []
extended_laid n bit4 bit0 below = rw (mod-eq_of_lt below, div-one n) (four (omega arith) refl refl refl)

standard_laid : (n bit4 bit0 : ℕ) → n < 2 ^ 11 → laid 0 (n % 2 ^ 11 * 2 ^ 18) bit4 bit0 ≡ n / 8 ∷ (n % 8 * 32 + bit4 * 16) ∷ 0 ∷ bit0 ∷ []
standard_laid n bit4 bit0 below =
    let highest : n * 2 ^ 18 / 2 ^ 21 ≡ n / 8 = omega arith in
    let upper : n * 2 ^ 18 / 2 ^ 18 ≡ n = omega arith in
    let under : n * 2 ^ 18 / 2 ^ 15 % 2 ^ 3 ≡ 0 = omega arith in
    rw (mod-eq_of_lt below, highest, upper, under) (four (omega arith) (omega arith) (omega arith) (omega arith))

by_kind : (h : Header) (t : Bool) (bit4 bit0 : ℕ) → h.extended ≡ t → h.id < pick t (2 ^ 29) (2 ^ 11)
    → laid (flag t) (pick t (h.id % 2 ^ 29) (h.id % 2 ^ 11 * 2 ^ 18)) bit4 bit0 ≡ identifier_in h bit4 bit0
by_kind h true bit4 bit0 is below = rw is (extended_laid h.id bit4 bit0 below)
by_kind h false bit4 bit0 is below = rw is (standard_laid h.id bit4 bit0 below)

pub identifier_laid : (h : Header) (bit4 bit0 : ℕ) → possible h ≡ true → laid (flag h.extended) (id_bits h) bit4 bit0 ≡ identifier_in h bit4 bit0
unfolding id_bits
identifier_laid h bit4 bit0 ok = by_kind h h.extended bit4 bit0 refl (id_fits h ok)

pub compared_same : (h : Header) (payload : List ℕ) → possible h ≡ true → compared_by h payload ≡ compared h payload
unfolding compared_by
compared_same h payload ok =
    rw (data_at h payload 0, data_at h payload 1, ← add-zero (bits 6 0 (id_bits h) * 2))
    (ap (λ bytes. bytes ++ map (data_byte h payload) (1 ∷ 2 ∷ [])) (identifier_laid h (flag h.remote) 0 ok))

pub shows_fields : (f : Frame) → possible f.header ≡ true → Shows f (message f).bytes
unfolding received id_as_read
shows_fields f ok =
    let h = f.header in
    record {
      kind = refl;
      time = refl;
      identifier = identifier_laid h (flag h.extended) (flag h.remote) ok;
      code = mod-eq_of_lt (omega (arith, code_fits h ok));
      bytes = data_shown h f.payload f.time (filhit_of f.hits);
    }

-- and only such a frame does: its first byte has no room for more
id_below : (h : Header) (t : Bool) (first : ℕ) → h.extended ≡ t → first < 256 → first ≡ byte (identifier_read h) 1 → h.id < pick t (2 ^ 29) (2 ^ 11)
id_below h true first is small same = omega (arith, rw is at same)
id_below h false first is small same = omega (arith, rw is at same)

pub shown_possible : (f : Frame) → Shows f (message f).bytes → possible f.header ≡ true
unfolding possible received id_as_read
shown_possible f shows =
    let h = f.header in
    let first : bits 28 21 (id_bits h) ≡ byte (identifier_read h) 1 = ap (λ (bytes : List ℕ). byte bytes 1) shows.identifier in
    let below : h.id < pick h.extended (2 ^ 29) (2 ^ 11) = id_below h h.extended (bits 28 21 (id_bits h)) refl (omega arith) first in
    rw (lt-ltb _ _ below, le-leb h.code 15 (omega (arith, shows.code)))

pub blank_shown : Shows blank (message blank).bytes
unfolding possible
blank_shown = shows_fields blank refl
