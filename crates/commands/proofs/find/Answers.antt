-- `commands::find` meets its contract: the row stands at its place.
use Rattle.commands.specs.Table.{rows}
use Rattle.commands.proofs.Rows.{at_place}
use Rattle.commands.proofs.find.Goals as goal

pub returns : goal.returns
returns c = rw (c.at.ensures, c.place.ensures) (at_place rows c.args.command)
