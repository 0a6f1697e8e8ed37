-- The flags that a frame raises as it arrives: by the set of filters that it hits, and by FILHIT. Assumes nothing.
use mathlib.Core.Path.{◌≡◌, refl, sym, ap}
use mathlib.Core.Bool.{Bool, true, false}
use mathlib.Core.List.{List, ◌∷◌}
use Prim.Native.Nat.{ℕ, zero, suc, ◌+◌, ◌≤◌}
use native.Mathlib.Omega.{arith}
use borrow.Author.Tests.{ne_eqb}
use lib.Bits.{bit_or, or_zero_r}
use lib.Dec.{eqb}
use Rattle.base.specs.Bit.{is_set}
use Rattle.base.specs.Pick.{pick}
use Rattle.filter.specs.Hits.{lowest_from, filhit}
use Rattle.receive.specs.Receive.{filter_flag}
use Rattle.promise.specs.Flags.{rxtmp, rxfifo, f0mess, f1mess, raise, together}
use Rattle.promise.proofs.Choices.{pick_keeps}

raised_too : (t : Bool) (bit : ℕ) (up : List ℕ) → together (raise t bit up) ≡ bit_or (together up) (pick t bit 0)
raised_too true bit up = refl
raised_too false bit up = sym (or_zero_r (together up))

-- F0MESS and F1MESS, by the set and by FILHIT
abbrev pub by_filhit : ℕ → ℕ → ℕ
by_filhit x n = bit_or (bit_or x (pick (eqb n 8) f0mess 0)) (pick (eqb n 9) f1mess 0)

-- from filter 2 on FILHIT is neither 1000 nor 1001
later : (n k set : ℕ) → 2 ≤ k → (eqb (lowest_from n k set) 8 ≡ false) × (eqb (lowest_from n k set) 9 ≡ false)
later zero k set from_two = (refl, refl)
later (suc n) k set from_two =
    pick_keeps (λ m. (eqb m 8 ≡ false) × (eqb m 9 ≡ false)) (is_set k set) (8 + k) _
    (ne_eqb (8 + k) 8 (λ e. omega arith), ne_eqb (8 + k) 9 (λ e. omega arith))
    (later n (suc k) set (omega arith))

by_lowest : (x rest : ℕ) (zeroth first : Bool) → eqb rest 8 ≡ false → eqb rest 9 ≡ false
    → bit_or x (pick zeroth f0mess (pick first f1mess 0)) ≡ by_filhit x (pick zeroth 8 (pick first 9 rest))
by_lowest x rest true first not_8 not_9 = sym (or_zero_r (bit_or x f0mess))
by_lowest x rest false true not_8 not_9 = ap (λ y. bit_or y f1mess) (sym (or_zero_r x))
by_lowest x rest false false not_8 not_9 = rw (not_8, not_9) (sym (or_zero_r (bit_or x 0)))

pub filter_flags : (x set : ℕ) → bit_or x (filter_flag set) ≡ by_filhit x (filhit set)
unfolding filter_flag filhit
filter_flags x set =
    let rest = later 6 2 set (omega arith) in
    by_lowest x (lowest_from 6 2 set) (is_set 0 set) (is_set 1 set) rest.0 rest.1

-- an arrival's flags, in one byte
pub flags_risen : (queued : Bool) (n : ℕ) (up : List ℕ)
    → together (raise (eqb n 9) f1mess (raise (eqb n 8) f0mess (raise queued rxfifo (rxtmp ∷ up))))
    ≡ by_filhit (bit_or (bit_or (together up) rxtmp) (pick queued rxfifo 0)) n
flags_risen queued n up =
    rw (
      raised_too (eqb n 9) f1mess (raise (eqb n 8) f0mess (raise queued rxfifo (rxtmp ∷ up))),
      raised_too (eqb n 8) f0mess (raise queued rxfifo (rxtmp ∷ up)),
      raised_too queued rxfifo (rxtmp ∷ up),
    )
