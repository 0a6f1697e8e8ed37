-- `chip::bank` meets its contract: what the map made of eight is the list of what it made at each place.
use Rattle.std.proofs.Common.{[], ◌∙◌}
use Rattle.base.proofs.Lists.{listed, tabulate_same}
use Rattle.chip.specs.State.{bank, absent}
use Rattle.chip.proofs.bank.Goals as goal

pub returns : goal.returns
unfolding bank
returns c =
    let eight = c.map.ensures.items in
    rw eight.long at (listed [] c.map.result) ∙ tabulate_same _ _ 0 8 (λ k from below. (eight.at k absent [] below).2.met)
