-- Laws of a frame's data in eight bytes. Assumes nothing.
use mathlib.Core.Path.{◌≡◌, refl, ◌∙◌}
use mathlib.Core.Bool.{Bool, true, false}
use mathlib.Core.List.{List, [], ◌∷◌, ◌++◌}
use Prim.Native.Nat.{ℕ, zero, suc, ◌-◌, ◌≤◌}
use native.Mathlib.Omega.{arith}
use borrow.Author.Tests.{le-leb, leb-true, ltb-true, ltb-false}
use lib.Dec.{leb, ltb}
use lib.ListN.{get_or, length, take, replicate, length-take, get_or-eq_default}
use lib.Seq.{length-take-le, get_or-take}
use Rattle.base.specs.Pick.{pick}
use Rattle.base.specs.Put.{put_of}
use Rattle.base.proofs.Booleans.{pick_keeps, pick_under}
use Rattle.std.proofs.lemmas.List.{drop-replicate}
use Rattle.frame.specs.declared.Header.{Header}
use Rattle.frame.specs.Length.{data_length, data_bytes, data_of}

pub data_length_le : (code : ℕ) → data_length code ≤ 8
unfolding data_length
data_length_le code = pick_under (λ (n : ℕ). n ≤ 8) (leb code 8) _ 8 (leb-true code 8) (λ more. omega arith)

pub data_bytes_le : (h : Header) → data_bytes h ≤ 8
unfolding data_bytes
data_bytes_le h = pick_keeps (λ (n : ℕ). n ≤ 8) h.remote 0 _ (omega arith) (data_length_le h.code)

module _ (h : Header) (bytes : List ℕ) (enough : data_bytes h ≤ length bytes) where
  pub data_put : put_of (take (data_bytes h) bytes) (replicate 8 0) ≡ data_of h bytes
  unfolding data_of
  data_put = rw (length-take-le (data_bytes h) bytes enough, le-leb (data_bytes h) 8 (data_bytes_le h), drop-replicate {X = ℕ} (data_bytes h) 8 0)

-- ---- byte by byte

-- zeros behind a list show nothing that reading past its end doesn't
abbrev pub zeros : ℕ → List ℕ
zeros n = replicate n 0

zeros_at : (n k : ℕ) → ◌≡◌ {A = ℕ} (get_or (zeros n) k 0) 0
zeros_at zero k = refl
zeros_at (suc n) zero = refl
zeros_at (suc n) (suc k) = zeros_at n k

pub zeros_behind : (xs : List ℕ) (n k : ℕ) → get_or (xs ++ zeros n) k 0 ≡ get_or xs k 0
zeros_behind [] n k = zeros_at n k
zeros_behind (x ∷ xs) n zero = refl
zeros_behind (x ∷ xs) n (suc k) = zeros_behind xs n k

-- the first n of a list, and nothing past them
first_of : (t : Bool) (n i : ℕ) (xs : List ℕ) → ltb i n ≡ t → get_or (take n xs) i 0 ≡ pick t (get_or xs i 0) 0
first_of true n i xs below = get_or-take n xs i 0 (ltb-true i n below)
first_of false n i xs above = get_or-eq_default (take n xs) 0 (omega (arith, length-take n xs, ltb-false i n above))

pub data_has : (h : Header) (bytes : List ℕ) (i : ℕ) → get_or (data_of h bytes) i 0 ≡ pick (ltb i (data_bytes h)) (get_or bytes i 0) 0
unfolding data_of
data_has h bytes i =
    zeros_behind (take (data_bytes h) bytes) (8 - data_bytes h) i ∙ first_of (ltb i (data_bytes h)) (data_bytes h) i bytes refl

-- what the code that copies a frame's data cites
pub ruleset copies = (data_bytes_le, data_put, length-take-le)
