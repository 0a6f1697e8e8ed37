-- `line::data::gather` meets its contract: to begin with, no data and all the words. Assumes nothing.
use Rattle.line.proofs.Gathering.{gathered_all}
use Rattle.line.proofs.data.gather.Goals as goal

pub loop-word-init : goal.loop-word-init
loop-word-init c = gathered_all _
