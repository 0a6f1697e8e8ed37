-- `counters::lent::good_frame` is the rule `good_frame`, behind a reference. Assumes nothing.
use Rattle.std.proofs.Common.{refl}
use Rattle.thin.proofs.Thin.{thin-spec}
use Rattle.counters.specs.Rules.{good_frame}
use Rattle.counters.specs.contracts.Counters.{the_type}
use Rattle.counters.proofs.Counters.TheLaws.{the_laws}
use Rattle.counters.proofs.Counters.good_frame.Symbol as rule
use Rattle.counters.proofs.Counters.good_frame.Met as rule-thm
use Rattle.counters.specs.contracts.lent.good_frame.Key.{name as self}
use Rattle.counters.proofs.lent.good_frame.Code as code
use Rattle.counters.proofs.lent.good_frame.Statement.{statement}

pub good_frame_spec : {M : Type 1} → statement M
good_frame_spec 𝓤 𝓛 𝓜 𝓡 wired =
    thin-spec the_type the_laws good_frame 𝓛 𝓜 𝓡 self rule.name 𝓡.env (code.unfolded 𝓤 𝓛.H 𝓜 𝓡 wired)
    (𝓡.env rule.name) refl (rule-thm.met 𝓤 𝓛 𝓜 𝓡 (code.calls-counters::Counters::good_frame 𝓡.env wired))
