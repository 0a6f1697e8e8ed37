-- `terminal::read` meets its contract: the line is the reply from its seventh byte on.
use Rattle.std.proofs.Common.{◌≡◌, ◌∙◌, ap, length, drop, rules, arith}
use lib.ListN.{length-drop}
use lib.Seq.{take_all}
use Rattle.terminal.proofs.read.Goals as goal

pub returns-clause-line : goal.returns-clause-line
returns-clause-line c =
    let long : length c.transfer.new.reply ≡ 14 = search rules in
    let eight : length (drop 6 c.transfer.new.reply) ≡ 8 = length-drop 6 c.transfer.new.reply ∙ omega arith in
    c.copy_from_slice.ensures.after
    ∙ take_all 8 (drop 6 c.transfer.new.reply) (omega arith)
    ∙ ap (drop 6) c.transfer.ensures.reply
