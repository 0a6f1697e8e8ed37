-- `filter::matches` meets its contract: what it asks of the bytes in turn is what the rule asks of their places.
use Rattle.std.proofs.Common.{◌∙◌, rules, tests}
use Rattle.std.proofs.lemmas.Iterator.{YieldsList-from_slice, YieldsList-from_zip}
use Rattle.std.proofs.lemmas.Iterator.Search.{all_from_yields_List}
use Rattle.filter.proofs.Bytes.{alike_bytes, six_agree}
use Rattle.filter.proofs.matches.Goals as goal

pub returns : goal.returns
returns c =
    let v = c.args.vector in
    let f = c.args.filter in
    let m = c.counted-counted.result in
    all_from_yields_List alike_bytes c.all.new.self _ _ c.all.ensures.ran
    (YieldsList-from_zip (YieldsList-from_zip (YieldsList-from_slice v cc) (YieldsList-from_slice f cc)) (YieldsList-from_slice m cc))
    (λ x b q k. search (rules, tests))
    ∙ rw c.counted-counted.ensures (six_agree v f c.args.mask (search rules) (search rules) (search rules))
