-- Laws on lists that the kit does not have. Assumes nothing.
use mathlib.Core.Path.{◌≡◌, refl, ap, sym, ◌∙◌}
use mathlib.Core.List.{List, [], ◌∷◌, ◌++◌}
use Prim.Native.Nat.{ℕ, zero, suc, ◌<◌, ◌≤◌, ◌+◌, ◌-◌}
use native.Mathlib.Omega.{arith}
use native.Mathlib.Nat.{zero-add, add-zero, add-suc, suc-add, zero-sub, sub-zero, suc-sub-suc, le_of_suc-le-suc, not-suc-le-zero}
use lib.ListN.{length, drop, get_or, replicate}
use Rattle.base.specs.Tabulate.{tabulate}

-- the rest of a run of equal elements
pub drop_replicate : {A : Type 0} (n m : ℕ) (a : A) → drop n (replicate m a) ≡ replicate (m - n) a
drop_replicate zero m a = rw (sub-zero m)
drop_replicate (suc n) zero a = rw (zero-sub (suc n))
drop_replicate (suc n) (suc m) a = rw (suc-sub-suc m n) (drop_replicate n m a)

-- ---- a table's rule, proved once

-- The table is `tabulate rule 0 n`, which antt computes, and so has the rule at each entry.

get_d_tabulate : {A : Type 0} (f : ℕ → A) (d : A) (n i k : ℕ) → k < n → get_or (tabulate f i n) k d ≡ f (i + k)
get_d_tabulate f d zero i k h = absurd (not-suc-le-zero h)
get_d_tabulate f d (suc n) i zero h = rw (add-zero i)
get_d_tabulate f d (suc n) i (suc k) h = get_d_tabulate f d n (suc i) k (le_of_suc-le-suc h) ∙ ap f (suc-add i k ∙ sym (add-suc i k))

pub table_at : {A : Type 0} (rule : ℕ → A) (d : A) (n k : ℕ) → k < n → get_or (tabulate rule 0 n) k d ≡ rule k
table_at rule d n k h = get_d_tabulate rule d n 0 k h ∙ ap rule (zero-add k)

-- a list of known length is the list of its elements
pub shift : {A : Type 0} (f : ℕ → A) (i n : ℕ) → tabulate f (suc i) n ≡ tabulate (λ (k : ℕ). f (suc k)) i n
shift {A = A} f i zero = refl
shift {A = A} f i (suc n) = ap (λ (l : List A). f (suc i) ∷ l) (shift f (suc i) n)

pub listed : {A : Type 0} (d : A) (l : List A) → l ≡ tabulate (λ (k : ℕ). get_or l k d) 0 (length l)
listed {A = A} d [] = refl
listed {A = A} d (x ∷ l) = ap (λ (r : List A). x ∷ r) (listed d l ∙ sym (shift (λ (k : ℕ). get_or (x ∷ l) k d) 0 (length l)))

-- tables of equal entries are equal
pub tabulate_same : {A : Type 0} (f g : ℕ → A) (i n : ℕ) → ((k : ℕ) → i ≤ k → k < i + n → f k ≡ g k) → tabulate f i n ≡ tabulate g i n
tabulate_same {A = A} f g i zero h = refl
tabulate_same {A = A} f g i (suc n) h =
    rw (h i (omega arith) (omega (arith, add-suc i n)))
    (ap (λ (l : List A). g i ∷ l) (tabulate_same f g (suc i) n (λ k p q. h k (omega arith) (omega (arith, add-suc i n, suc-add i n)))))

-- a table with one entry more
pub tabulate_more : {A : Type 0} (f : ℕ → A) (i n : ℕ) → tabulate f i (suc n) ≡ tabulate f i n ++ (f (i + n) ∷ [])
tabulate_more {A = A} f i zero = rw (add-zero i)
tabulate_more {A = A} f i (suc n) =
    ap (λ (l : List A). f i ∷ l)
    (tabulate_more f (suc i) n ∙ ap (λ (k : ℕ). tabulate f (suc i) n ++ (f k ∷ [])) (suc-add i n ∙ sym (add-suc i n)))
