-- `drawn::err` meets its contract: the levels have three bits above the five of what was met.
use Rattle.std.proofs.Common.{arith}
use Rattle.levels.proofs.Bounds.{level_bits_le}
use Rattle.drawn.proofs.err.Goals as goal

pub overflow_add-result : goal.overflow_add-result
overflow_add-result c = omega (arith, c.level_bits.ensures, level_bits_le c.args.d.counters)
