-- Numbers that rise strictly. Assumes nothing.
use mathlib.Core.Path.{◌≡◌}
use mathlib.Core.List.{List, [], ◌∷◌, ◌++◌, map}
use Prim.Native.Nat.{ℕ, zero, suc, ◌+◌, ◌<◌, ◌≤◌}
use native.Mathlib.Omega.{arith}
use lib.ListN.{length, get_or}
use Rattle.promise.specs.Ledger.{Accepted, loses_place, standing}
use Rattle.promise.specs.Numbering.{serials, Rises}
use Rattle.promise.proofs.Choices.{pick_keeps}

-- one more above them all, and room for one more
pub rises_more : (above last : ℕ) (ns : List ℕ) → Rises above last ns → Rises above (last + 1) (ns ++ ((last + 1) ∷ []))
rises_more above last [] h = (omega arith, omega arith)
rises_more above last (n ∷ ns) h = (h.0, rises_more n last ns h.1)

pub rises_on : (above last : ℕ) (ns : List ℕ) → Rises above last ns → Rises above (last + 1) ns
rises_on above last [] h = omega arith
rises_on above last (n ∷ ns) h = (h.0, rises_on n last ns h.1)

rises_lower : (above from last : ℕ) (ns : List ℕ) → above ≤ from → Rises from last ns → Rises above last ns
rises_lower above from last [] lower h = omega (arith, h)
rises_lower above from last (n ∷ ns) lower h = (omega (arith, h.0), h.1)

-- the end of a list that rises
pub rises_behind : (above last : ℕ) (ms ns : List ℕ) → Rises above last (ms ++ ns) → Rises above last ns
rises_behind above last [] ns h = h
rises_behind above last (m ∷ ms) ns h = rises_lower above m last ns (omega (arith, h.0)) (rises_behind m last ms ns h.1)

-- those that a ledger keeps, of all that it accepted
pub rises_standing : (above last : ℕ) (l : List Accepted) → Rises above last (serials (map (λ (a : Accepted). a.frame) l)) → Rises above last (serials (standing l))
rises_standing above last [] h = h
rises_standing above last (a ∷ later) h =
    let on = rises_standing a.frame.serial last later h.1 in
    pick_keeps (λ fs. Rises above last (serials fs)) (loses_place later) (standing later) (a.frame ∷ standing later)
    (rises_lower above a.frame.serial last (serials (standing later)) (omega (arith, h.0)) on)
    (h.0, on)

-- no two are alike
rises_above : (above last : ℕ) (ns : List ℕ) (j : ℕ) → Rises above last ns → j < length ns → above < get_or ns j 0
rises_above above last [] j h within = absurd (omega (arith, within))
rises_above above last (n ∷ ns) zero h within = h.0
rises_above above last (n ∷ ns) (suc j) h within = omega (arith, h.0, rises_above n last ns j h.1 (omega (arith, within)))

pub rises_apart : (above last : ℕ) (ns : List ℕ) (i j : ℕ) → Rises above last ns → i < j → j < length ns → get_or ns i 0 ≡ get_or ns j 0 → ⊥
rises_apart above last [] i j h before within same = absurd (omega (arith, within))
rises_apart above last (n ∷ ns) i zero h before within same = absurd (omega (arith, before))
rises_apart above last (n ∷ ns) zero (suc j) h before within same = omega (arith, same, rises_above n last ns j h.1 (omega (arith, within)))
rises_apart above last (n ∷ ns) (suc i) (suc j) h before within same = rises_apart n last ns i j h.1 (omega (arith, before)) (omega (arith, within)) same
