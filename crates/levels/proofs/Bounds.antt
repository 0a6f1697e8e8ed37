-- What a caller who adds to ERR's upper bits has to know. Assumes nothing.
use Prim.Native.Nat.{◌≤◌}
use native.Mathlib.Omega.{arith}
use Rattle.base.proofs.Booleans.{flag_le}
use Rattle.counters.specs.declared.Counters.{Counters}
use Rattle.levels.specs.Levels.{rxerrp, txerrp, level_bits}

pub level_bits_le : (c : Counters) → level_bits c ≤ 224
unfolding level_bits
level_bits_le c = omega (arith, flag_le c.busoff, flag_le (txerrp c), flag_le (rxerrp c))
