-- What a right length says: the message's own bytes are there. Assumes nothing.
use mathlib.Core.Path.{◌≡◌}
use mathlib.Core.Bool.{true}
use mathlib.Core.List.{List}
use Prim.Native.Nat.{ℕ, ◌+◌, ◌≤◌}
use native.Mathlib.Omega.{arith}
use borrow.Author.Tests.{leb-true}
use lib.Dec.{leb}
use lib.ListN.{length}
use Rattle.base.proofs.Booleans.{and_left, pick_keeps}
use Rattle.frame.specs.Length.{data_bytes}
use Rattle.to_send.specs.ToSend.{is_extended, data_from, header_to_send, right_length}

pub data_from_le : (s : List ℕ) → data_from s ≤ 6
data_from_le s = pick_keeps (λ (n : ℕ). n ≤ 6) (is_extended s) 6 4 (omega arith) (omega arith)

pub enough : (s : List ℕ) → right_length s ≡ true → data_from s + data_bytes (header_to_send s) ≤ length s
unfolding right_length
enough s e =
    leb-true (data_from s + data_bytes (header_to_send s)) (length s)
    (and_left (leb (data_from s + data_bytes (header_to_send s)) (length s)) (leb (length s) (data_from s + 8)) e)
