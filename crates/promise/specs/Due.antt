-- The answer that an input is due, by the records.
use Rattle.std.specs.Prelude.{◌≡◌, true, not, List, [], ◌++◌, ℕ, eqb, length, drop, Result}
use Rattle.base.specs.Bit.{byte}
use Rattle.base.specs.Pick.{pick}
use Rattle.refusal.specs.declared.Refusal.{Refusal}
use Rattle.refusal.specs.Refusal.{number_of}
use Rattle.promise.specs.Sequence.{Input, spi, wire, Given, replied, number, values}
use Rattle.promise.specs.Arrivals.{values_due}
use Rattle.promise.specs.Ledger.{left}
use Rattle.promise.specs.Numbers.{Situation, none_behind, number_due}
use Rattle.promise.specs.Outbox.{rests}
use Rattle.promise.specs.Records.{Records}
use Rattle.promise.specs.Registers.{shown}
use Rattle.promise.specs.Settings.{enables}

-- what the table of numbers asks, by the records
abbrev pub situation_of : Records → Situation
situation_of r = record {
  device_fits = true;
  acting = r.settings.acting;
  busoff = r.counters.busoff;
  enabled = enables r.settings.ctrl1 r.settings.pin;
  runs = not (rests r.outbox.running);
  to_send = length r.outbox.queue;
  to_read = left r.ledger;
  entries = length r.outbox.history;
  spent = none_behind r.arrivals;
}

-- "A success fills the start of the buffer with the reply; later bytes stay."
abbrev pub filled : List ℕ → List ℕ → List ℕ
filled reply buffer = reply ++ drop (length reply) buffer

abbrev pub Due : Records → Input → Given → Type 0
Due r (spi bytes buffer) given =
    let n = number_due (situation_of r) (spi bytes buffer) in
    (answer : Result (Unit {0}) Refusal) × (number_of answer ≡ n)
    × (given ≡ replied answer (pick (eqb n 0) (filled (shown r (byte bytes 1)) buffer) buffer))
Due r (wire e payload) given =
    let n = number_due (situation_of r) (wire e payload) in
    (number given ≡ n) × (values given ≡ pick (eqb n 0) (values_due r e payload) [])
