-- The loop of `hits`: the set has the filters that were asked.
use Rattle.std.proofs.Common.{◌≡◌}
use Rattle.filter.specs.Hits.{set_of, matches_at}
use Rattle.filter.proofs.hits.Given as goal

abbrev pub invariant-loop-k : goal.invariant-loop-k
invariant-loop-k l = l.set ≡ set_of l.k (matches_at l.bank l.masks l.vector)
