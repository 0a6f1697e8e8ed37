-- `filter::hits` meets its contract.
use Rattle.std.proofs.Common.{ap, ◌∙◌, arith}
use Rattle.base.specs.Pick.{flag}
use Rattle.filter.specs.Hits.{matches_at}
use Rattle.filter.proofs.Sets.{set_more}
use Rattle.filter.proofs.hits.Goals as goal

pub loop-k-preserved : goal.loop-k-preserved
loop-k-preserved c =
    set_more (matches_at c.args.bank c.args.masks c.args.vector) c.loop-k.k _ _ (omega arith) c.loop-k.invariant
    (c.flag.ensures.0 ∙ ap flag c.matches.ensures)
