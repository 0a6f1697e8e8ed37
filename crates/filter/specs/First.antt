-- Where a filter and a frame first differ (02, b)): the first place that counts and at which they are not alike.
use Rattle.std.specs.Prelude.{Bool, not, ◌&&◌, Option, Some, None, List, ℕ, zero, suc, eqb, ltb}
use Rattle.base.specs.Pick.{pick}
use Rattle.filter.specs.Match.{bit_at_place, counted_of}

-- place k counts, and frame and filter differ there
abbrev pub differs_at : (ℕ → ℕ) → (ℕ → ℕ) → (ℕ → ℕ) → ℕ → Bool
differs_at frame filter mask k = not (eqb (mask k) 0) && not (eqb (frame k) (filter k))

-- of n places from number k on, the first of which a question says yes; the place behind them if it does of none
abbrev pub first_from : ℕ → ℕ → (ℕ → Bool) → ℕ
first_from zero k says = k
first_from (suc n) k says = pick (says k) k (first_from n (suc k) says)

-- "the first counted bit that differs, bytes from the first, bits from 7 down"
unfoldable pub first_difference : List ℕ → List ℕ → List ℕ → Option ℕ
first_difference vector filter mask =
    let k = first_from 48 0 (differs_at (bit_at_place vector) (bit_at_place filter) (counted_of mask)) in
    pick (ltb k 48) (Some k) None
