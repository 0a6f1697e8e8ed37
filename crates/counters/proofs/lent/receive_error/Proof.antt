-- `counters::lent::receive_error` is the rule `receive_error`, behind a reference. Assumes nothing.
use Rattle.std.proofs.Common.{refl}
use Rattle.thin.proofs.Thin.{thin-spec}
use Rattle.counters.specs.Rules.{receive_error}
use Rattle.counters.specs.contracts.Counters.{the_type}
use Rattle.counters.proofs.Counters.TheLaws.{the_laws}
use Rattle.counters.proofs.Counters.receive_error.Symbol as rule
use Rattle.counters.proofs.Counters.receive_error.Met as rule-thm
use Rattle.counters.specs.contracts.lent.receive_error.Key.{name as self}
use Rattle.counters.proofs.lent.receive_error.Code as code
use Rattle.counters.proofs.lent.receive_error.Statement.{statement}

pub receive_error_spec : {M : Type 1} → statement M
receive_error_spec 𝓤 𝓛 𝓜 𝓡 wired =
    thin-spec the_type the_laws receive_error 𝓛 𝓜 𝓡 self rule.name 𝓡.env (code.unfolded 𝓤 𝓛.H 𝓜 𝓡 wired)
    (𝓡.env rule.name) refl (rule-thm.met 𝓤 𝓛 𝓜 𝓡 (code.calls-counters::Counters::receive_error 𝓡.env wired))
