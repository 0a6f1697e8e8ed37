-- Laws of `agree`: alike places, more places. Assumes nothing.
use mathlib.Core.Path.{◌≡◌, refl, sym}
use mathlib.Core.Bool.{◌&&◌, and-true, and_assoc}
use Prim.Native.Nat.{ℕ, zero, suc, ◌+◌, ◌<◌}
use native.Mathlib.Nat.{add-zero, add-suc, le_refl}
use native.Mathlib.Omega.{arith}
use Rattle.filter.specs.Match.{agree}

-- the same bits at a place, of all three
pub record Alike (x f m x' f' m' : ℕ → ℕ) (k : ℕ) : Type 0 where
  pub frame : x k ≡ x' k
  pub filter : f k ≡ f' k
  pub mask : m k ≡ m' k

pub agree_alike : (n : ℕ) (x f m x' f' m' : ℕ → ℕ) → ((k : ℕ) → k < n → Alike x f m x' f' m' k) → agree n x f m ≡ agree n x' f' m'
agree_alike zero x f m x' f' m' h = refl
agree_alike (suc n) x f m x' f' m' h =
    let e = h n (le_refl (suc n)) in
    rw (agree_alike n x f m x' f' m' (λ k l. h k (omega arith)), e.frame, e.filter, e.mask)

-- the places from n on
abbrev pub from : ℕ → (ℕ → ℕ) → ℕ → ℕ
from n x i = x (n + i)

pub agree_more : (j n : ℕ) (x f m : ℕ → ℕ) → agree (n + j) x f m ≡ (agree n x f m && agree j (from n x) (from n f) (from n m))
agree_more zero n x f m = rw (add-zero n) (sym (and-true _))
agree_more (suc j) n x f m = rw (add-suc n j, agree_more j n x f m) (simp and_assoc)
