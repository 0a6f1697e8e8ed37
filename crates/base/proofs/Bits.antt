-- A law on a byte's bits. Assumes nothing.
use mathlib.Core.Path.{◌≡◌}
use mathlib.Core.Bool.{false}
use Prim.Native.Nat.{ℕ, ◌<◌, ◌≤◌}
use Rattle.std.proofs.lemmas.Nat.Bits.{bit_at_above}
use Rattle.base.specs.Bit.{is_set}

-- there are eight
pub past_a_byte : (i x : ℕ) → x < 256 → 8 ≤ i → is_set i x ≡ false
past_a_byte i x byte past = rw (bit_at_above x 8 i byte past)
