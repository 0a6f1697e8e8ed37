-- An accepted transfer's row is the table's row for its command byte, so its reply is at most sixteen bytes. Assumes
-- nothing.
use mathlib.Core.Path.{◌≡◌, refl}
use mathlib.Core.Bool.{Bool, true, false}
use mathlib.Core.List.{List}
use Prim.Native.Nat.{ℕ, ◌≤◌}
use lib.Dec.{eqb}
use lib.ListN.{length}
use Rattle.base.specs.Bit.{byte}
use Rattle.base.specs.Pick.{pick}
use Rattle.chip.specs.declared.Device.{Device}
use Rattle.chip.specs.Proper.{proper}
use Rattle.commands.specs.declared.Row.{Row}
use Rattle.commands.specs.Table.{rows, lookup}
use Rattle.commands.proofs.Rows.{out_le}
use Rattle.std.specs.Prelude.{Option, Some, None, Result, Ok, Err}
use Rattle.refusal.specs.declared.Refusal.{Refusal}
use Rattle.refusal.specs.declared.Refusal.TheVariants.{OutOfRange, WrongLength, ShortBuffer, OutsideSetUp, FindsFull, FindsNone}
use Rattle.refused.specs.Refused.{row_judged, found_judged, verdict}

module _ (d : Device) (bytes : List ℕ) (lent : ℕ) (r : Row) where
  past : (t : Bool) (n : Refusal) (v : Result Row Refusal) → pick t (Err n) v ≡ Ok r → v ≡ Ok r
  past true n v e = cc
  past false n v e = e

  same : (s : Row) (v : Result Row Refusal) → v ≡ Ok s → v ≡ Ok r → Some s ≡ Some r
  same s v is e = cc

  same_row : (s : Row) → row_judged d s bytes lent ≡ Ok r → Some s ≡ Some r
  unfolding row_judged
  same_row s e =
      same s (Ok s) refl (past _ FindsNone (Ok s) (past _ FindsFull _ (past _ OutsideSetUp _ (past _ ShortBuffer _ (past _ WrongLength _ e)))))

  row_found : (f : Option Row) → found_judged d f bytes lent ≡ Ok r → f ≡ Some r
  row_found None e = cc
  row_found (Some s) e = same_row s e

  past_checks : (p q : Bool) (v : Result Row Refusal) → pick p (pick q (Err WrongLength) v) (Err OutOfRange) ≡ Ok r → v ≡ Ok r
  past_checks true true v e = cc
  past_checks true false v e = e
  past_checks false q v e = cc

  pub accepted_found : verdict d bytes lent ≡ Ok r → lookup rows (byte bytes 1) ≡ Some r
  unfolding verdict
  accepted_found e = row_found (lookup rows (byte bytes 1)) (past_checks (proper d) (eqb (length bytes) 0) _ e)

  pub accepted_out : verdict d bytes lent ≡ Ok r → r.out ≤ 16
  accepted_out e = out_le (byte bytes 1) r (accepted_found e)
