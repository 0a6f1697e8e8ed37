-- `counters::lent::transmit_error` is the rule `transmit_error`, behind a reference. Assumes nothing.
use Rattle.std.proofs.Common.{refl}
use Rattle.thin.proofs.Thin.{thin-spec}
use Rattle.counters.specs.Rules.{transmit_error}
use Rattle.counters.specs.contracts.Counters.{the_type}
use Rattle.counters.proofs.Counters.TheLaws.{the_laws}
use Rattle.counters.proofs.Counters.transmit_error.Symbol as rule
use Rattle.counters.proofs.Counters.transmit_error.Met as rule-thm
use Rattle.counters.specs.contracts.lent.transmit_error.Key.{name as self}
use Rattle.counters.proofs.lent.transmit_error.Code as code
use Rattle.counters.proofs.lent.transmit_error.Statement.{statement}

pub transmit_error_spec : {M : Type 1} → statement M
transmit_error_spec 𝓤 𝓛 𝓜 𝓡 wired =
    thin-spec the_type the_laws transmit_error 𝓛 𝓜 𝓡 self rule.name 𝓡.env (code.unfolded 𝓤 𝓛.H 𝓜 𝓡 wired)
    (𝓡.env rule.name) refl (rule-thm.met 𝓤 𝓛 𝓜 𝓡 (code.calls-counters::Counters::transmit_error 𝓡.env wired))
