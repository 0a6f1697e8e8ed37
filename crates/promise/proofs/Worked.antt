-- 01's worked numbers, by computation. Assumes nothing.
use mathlib.Core.Path.{refl}
use Rattle.counters.specs.Rules.{receive_error, good_frame, transmit_error, completed}
use Rattle.levels.specs.Levels.{errw, errp, rxerrp, txerrp}
use Rattle.frame.specs.Length.{data_length}
use Rattle.frame.specs.Tables.{id_bits, id_to_send}
use Rattle.filter.specs.Match.{matches}
use Rattle.filter.specs.Hits.{hits, filhit, how_many}
use Rattle.chip.specs.State.{mode_of}
use Rattle.changed.specs.Changed.{ticked}
use Rattle.promise.specs.Promises.{TheWorkedNumbersHold}

pub worked : TheWorkedNumbersHold
unfolding data_length id_bits id_to_send matches hits filhit how_many receive_error good_frame transmit_error completed errw errp rxerrp txerrp mode_of ticked
worked = refl
