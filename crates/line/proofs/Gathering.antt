-- Bytes that are kept one after the other are the first sixteen of all. Assumes nothing.
use mathlib.Core.Path.{◌≡◌, refl, ap, sym, ◌∙◌}
use mathlib.Core.Bool.{Bool, true, false, ◌&&◌}
use mathlib.Core.List.{List, [], ◌∷◌, ◌++◌, map, append_assoc, append-nil}
use Prim.Native.Nat.{ℕ, suc, ◌+◌, ◌-◌, ◌<◌, ◌≤◌}
use native.Mathlib.Omega.{arith}
use borrow.Author.Tests.{ltb-true, ltb-false, lt-ltb, le-ltb}
use lib.Dec.{ltb}
use lib.ListN.{length, take, set, replicate, length-append}
use lib.Seq.{take_all, take-append-le, set-append_seam}
use Rattle.std.specs.Prelude.{Some, None, Ok, Err}
use Rattle.base.specs.Pick.{pick}
use Rattle.line.specs.declared.Expected.TheVariants.{Byte}
use Rattle.line.specs.declared.data.Data.{Data}
use Rattle.line.specs.Numbers.{value_of, is_byte, byte_of}
use Rattle.line.specs.Steps.{Read, ◌>>=◌, meant}
use Rattle.line.specs.Data.{are_bytes, first_other, padded, held, data_of, keep_of}

-- what a loop over the words makes of the data so far
abbrev pub gathered : Data → List (List ℕ) → Read Data
gathered d [] = Ok d
gathered d (w ∷ ws) = do
  b ← meant (byte_of w) Byte w
  gathered (keep_of d b) ws

data_path : (b b' : List ℕ) (n n' : ℕ) → b ≡ b' → n ≡ n'
    → ◌≡◌ {A = Data} (record { bytes = b; count = n }) (record { bytes = b'; count = n' })
data_path b b' n n' p q = λ i. record { bytes = p i; count = q i }

module _ (p : List ℕ) (v : ℕ) where
  one_more : length (p ++ v ∷ []) ≡ length p + 1
  one_more = length-append p (v ∷ [])

  keep_more : length p < 16 → keep_of (held p) v ≡ held (p ++ v ∷ [])
  unfolding keep_of
  keep_more h =
      rw (lt-ltb (length p) 16 h)
      (data_path (set (p ++ replicate (16 - length p) 0) (length p) v) (padded (p ++ v ∷ [])) (length p + 1) (length (p ++ v ∷ []))
      (rw (room, one_more, rest_room) (set-append_seam p 0 (replicate (15 - length p) 0) v ∙ sym (append_assoc p (v ∷ []) (replicate (15 - length p) 0))))
      (sym one_more))
    where
      room : 16 - length p ≡ suc (15 - length p)
      room = omega arith

      rest_room : 16 - (length p + 1) ≡ 15 - length p
      rest_room = omega arith

  keep_none : 16 ≤ length p → keep_of (held p) v ≡ held p
  unfolding keep_of
  keep_none h = rw (le-ltb (length p) 16 h)

abbrev done : List ℕ → List (List ℕ) → Read Data
done p ws = pick (are_bytes ws) (Ok (held (take 16 (p ++ map (value_of 16) ws)))) (Err (Byte, first_other ws))

gathered_done : (ws : List (List ℕ)) (p : List ℕ) → length p ≤ 16 → gathered (held p) ws ≡ done p ws
unfolding byte_of
gathered_done [] p h = ap (λ (l : List ℕ). Ok (held l)) (sym (take_all 16 (p ++ []) (omega (arith, ap length (append-nil p))) ∙ append-nil p))
gathered_done (w ∷ ws) p h = go (is_byte w) (ltb (length p) 16) refl (gathered_done ws)
  where
    v : ℕ
    v = value_of 16 w

    snoc : (p ++ v ∷ []) ++ map (value_of 16) ws ≡ p ++ v ∷ map (value_of 16) ws
    snoc = append_assoc p (v ∷ []) (map (value_of 16) ws)

    cut : 16 ≤ length p → take 16 (p ++ map (value_of 16) ws) ≡ take 16 (p ++ v ∷ map (value_of 16) ws)
    cut l = take-append-le 16 p (map (value_of 16) ws) l ∙ sym (take-append-le 16 p (v ∷ map (value_of 16) ws) l)

    go : (t u : Bool) → ltb (length p) 16 ≡ u → ((q : List ℕ) → length q ≤ 16 → gathered (held q) ws ≡ done q ws)
        → (meant (pick t (Some v) None) Byte w >>= λ b. gathered (keep_of (held p) b) ws)
        ≡ pick (t && are_bytes ws) (Ok (held (take 16 (p ++ v ∷ map (value_of 16) ws)))) (Err (Byte, pick t (first_other ws) w))
    go false u e more = refl
    go true true e more =
        ap (λ (d : Data). gathered d ws) (keep_more p v (ltb-true (length p) 16 e))
        ∙ more (p ++ v ∷ []) (omega (arith, one_more p v, ltb-true (length p) 16 e))
        ∙ ap (λ (l : List ℕ). pick (are_bytes ws) (Ok (held (take 16 l))) (Err (Byte, first_other ws))) snoc
    go true false e more =
        ap (λ (d : Data). gathered d ws) (keep_none p v (ltb-false (length p) 16 e))
        ∙ more p h
        ∙ ap (λ (l : List ℕ). pick (are_bytes ws) (Ok (held l)) (Err (Byte, first_other ws))) (cut (ltb-false (length p) 16 e))

pub gathered_all : (ws : List (List ℕ)) → gathered (held []) ws ≡ data_of ws
unfolding data_of
gathered_all ws = gathered_done ws [] (omega arith)
