-- `counters::lent::completed` is the rule `completed`, behind a reference. Assumes nothing.
use Rattle.std.proofs.Common.{refl}
use Rattle.thin.proofs.Thin.{thin-spec}
use Rattle.counters.specs.Rules.{completed}
use Rattle.counters.specs.contracts.Counters.{the_type}
use Rattle.counters.proofs.Counters.TheLaws.{the_laws}
use Rattle.counters.proofs.Counters.completed.Symbol as rule
use Rattle.counters.proofs.Counters.completed.Met as rule-thm
use Rattle.counters.specs.contracts.lent.completed.Key.{name as self}
use Rattle.counters.proofs.lent.completed.Code as code
use Rattle.counters.proofs.lent.completed.Statement.{statement}

pub completed_spec : {M : Type 1} → statement M
completed_spec 𝓤 𝓛 𝓜 𝓡 wired =
    thin-spec the_type the_laws completed 𝓛 𝓜 𝓡 self rule.name 𝓡.env (code.unfolded 𝓤 𝓛.H 𝓜 𝓡 wired)
    (𝓡.env rule.name) refl (rule-thm.met 𝓤 𝓛 𝓜 𝓡 (code.calls-counters::Counters::completed 𝓡.env wired))
