-- `drawn::messtat` meets its contract: FILHIT has four bits, and TSTAT two.
use Rattle.std.proofs.Common.{◌<◌, arith}
use Rattle.filter.proofs.Sets.{filhit_below}
use Rattle.drawn.proofs.Bounds.{tstat_le}
use Rattle.drawn.proofs.messtat.Goals as goal

pub overflow_mul-result : goal.overflow_mul-result
overflow_mul-result c =
    let four : c.filhit.result < 16 = rw c.filhit.ensures (filhit_below _) in
    omega arith

pub overflow_add-result : goal.overflow_add-result
overflow_add-result c =
    let four : c.filhit.result < 16 = rw c.filhit.ensures (filhit_below _) in
    omega arith

pub overflow_add-result-2 : goal.overflow_add-result-2
overflow_add-result-2 c =
    let four : c.filhit.result < 16 = rw c.filhit.ensures (filhit_below _) in
    omega (arith, c.tstat.ensures, tstat_le c.args.d)
