-- `filter::filhit` meets its contract: the zeros below a set's lowest bit are counted.
use native.Mathlib.Nat.{div-one}
use Rattle.base.specs.Pick.{picks}
use Rattle.filter.specs.Hits.{filhit}
use Rattle.filter.proofs.Sets.{lowest_zeros}
use Rattle.filter.proofs.filhit.Goals as goal

pub returns-else-hits-eq0 : goal.returns-else-hits-eq0
unfolding filhit
returns-else-hits-eq0 c =
    rw (lowest_zeros 8 0 c.args.hits c.args.hits (div-one c.args.hits) c.ranges.hits.fits) (search picks)
