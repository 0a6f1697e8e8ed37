-- TSTAT has two bits. Assumes nothing.
use Prim.Native.Nat.{ℕ, ◌≤◌}
use native.Mathlib.Omega.{arith}
use lib.Dec.{eqb}
use Rattle.base.proofs.Booleans.{pick_keeps}
use Rattle.chip.specs.declared.Device.{Device}
use Rattle.drawn.specs.Drawn.{tstat}
use Rattle.chip.specs.State.{enabled, idle}

abbrev Two : ℕ → Type 0
Two n = n ≤ 3

pub tstat_le : (d : Device) → tstat d ≤ 3
unfolding tstat
tstat_le d =
    pick_keeps Two (eqb d.sending idle) _ 3
    (pick_keeps Two (enabled d) _ 0 (pick_keeps Two (eqb d.tx.count 0) 1 2 (omega arith) (omega arith)) (omega arith))
    (omega arith)
