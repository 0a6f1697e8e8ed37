-- `filter::how_many` meets its contract: the ones of a byte are counted.
use Rattle.std.proofs.Common.{sym, ap, ◌∙◌}
use native.Mathlib.Nat.{mod-eq_of_lt}
use lib.Count.{ones}
use Rattle.filter.specs.Hits.{how_many}
use Rattle.filter.proofs.Sets.{count_ones}
use Rattle.filter.proofs.how_many.Goals as goal

pub returns : goal.returns
unfolding how_many
returns c = sym (count_ones 8 c.args.hits ∙ ap ones (mod-eq_of_lt c.ranges.hits.fits))
