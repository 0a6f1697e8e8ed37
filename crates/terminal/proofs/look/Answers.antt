-- `terminal::look` meets its contract: while INT is low nothing waits.
use Rattle.std.proofs.Common.{◌∙◌, sym, ap}
use Rattle.bus.specs.declared.types.Pins.{Pins}
use Rattle.terminal.proofs.Shifts.{asleep}
use Rattle.terminal.proofs.look.Goals as goal

pub returns-else-pins : goal.returns-else-pins
returns-else-pins c =
    asleep c.args.d c.requires.reached c.requires.listens c.requires.wakes
    (sym (ap (λ (p : Pins). p.int) c.pins-pins.ensures) ∙ c.if-pins.false) c.args.page.now
