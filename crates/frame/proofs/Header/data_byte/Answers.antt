-- `Header::data_byte` meets its contract: the index is below the data's length, which is at most eight, and a byte past
-- them reads as zero. Assumes nothing.
use Rattle.std.proofs.Common.{arith}
use Rattle.base.specs.Pick.{picks, judges}
use Rattle.frame.proofs.Data.{data_bytes_le, data_has}
use Rattle.frame.proofs.Header.data_byte.Goals as goal

pub bounds-payload-k : goal.bounds-payload-k
bounds-payload-k c = omega (arith, c.data_bytes.ensures, data_bytes_le c.args.self)

pub returns-then-k-data_bytes : goal.returns-then-k-data_bytes
returns-then-k-data_bytes c =
    rw (data_has c.args.self c.args.payload c.args.k, ← c.data_bytes.ensures) (search (picks, judges, c.if-k-data_bytes.true))

pub returns-else-k-data_bytes : goal.returns-else-k-data_bytes
returns-else-k-data_bytes c =
    rw (data_has c.args.self c.args.payload c.args.k, ← c.data_bytes.ensures) (search (picks, judges, c.if-k-data_bytes.false))
