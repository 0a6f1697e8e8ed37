-- `filter::first_difference` meets its contract: it is what a search over the places finds.
use Rattle.std.proofs.Common.{◌≡◌, true, false, rules, tests}
use Rattle.std.proofs.lemmas.Iterator.{first_from_Range}
use Rattle.filter.specs.Match.{bit_at_place, counted_of}
use Rattle.filter.specs.First.{differs_at, first_difference}
use Rattle.filter.proofs.First.{found_first}
use Rattle.filter.proofs.first_difference.Goals as goal

pub returns : goal.returns
unfolding first_difference
returns c =
    let says = differs_at (bit_at_place c.args.vector) (bit_at_place c.args.filter) (counted_of c.args.mask) in
    found_first says 48 c.find.result
    (first_from_Range _ _ _ _ (λ k. says k ≡ true) (λ k. says k ≡ false) c.find.ensures.ran
    (λ x q k. search (rules, tests))
    (λ x q k. search (rules, tests)))
