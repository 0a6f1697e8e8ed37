-- What holds of each element of a list. Assumes nothing.
use mathlib.Core.List.{List, [], ◌∷◌, ◌++◌}
use Prim.Native.Nat.{ℕ, zero, suc, ◌<◌}
use native.Mathlib.Nat.{le_of_suc-le-suc, not-suc-le-zero}
use lib.ListN.{length, get_or, set, drop, replicate}
use Rattle.promise.specs.Held.{Each}

module _ {A : Type 0} (P : A → Type 0) where
  pub each_more : (xs : List A) (x : A) → Each P xs → P x → Each P (xs ++ (x ∷ []))
  each_more [] x all p = (p, tt)
  each_more (y ∷ xs) x all p = (all.0, each_more xs x all.1 p)

  pub each_at : (xs : List A) (i : ℕ) (z : A) → i < length xs → Each P xs → P (get_or xs i z)
  each_at [] i z below all = absurd (not-suc-le-zero below)
  each_at (x ∷ xs) zero z below all = all.0
  each_at (x ∷ xs) (suc i) z below all = each_at xs i z (le_of_suc-le-suc below) all.1

  pub each_set : (xs : List A) (i : ℕ) (x : A) → Each P xs → P x → Each P (set xs i x)
  each_set [] i x all p = tt
  each_set (y ∷ xs) zero x all p = (p, all.1)
  each_set (y ∷ xs) (suc i) x all p = (all.0, each_set xs i x all.1 p)

  pub each_replicate : (n : ℕ) (x : A) → P x → Each P (replicate n x)
  each_replicate zero x p = tt
  each_replicate (suc n) x p = (p, each_replicate n x p)

  pub each_rest : (xs : List A) → Each P xs → Each P (drop 1 xs)
  each_rest [] all = tt
  each_rest (x ∷ xs) all = all.1
