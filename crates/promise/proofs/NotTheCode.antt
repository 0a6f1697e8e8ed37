-- Another machine is not the code, so that the promise rules something out: one that says Queued of a tick. Assumes
-- nothing.
use mathlib.Core.Path.{◌≡◌, refl, sym, ◌∙◌, ap}
use mathlib.Core.Logic.{∥∥₁_elim}
use Prim.Native.Nat.{ℕ}
use lib.ListN.{length, replicate}
use native.Mathlib.Nat.{suc-ne-zero}
use package.base.Logic.{SProp, emp, sep, ent, id⊢, via, ex_i, emp∗, mono∗}
use contract.Monad.{fact, fact_i}
use denote.Triple.Clauses.{Lasts}
use borrow.Fn.World.{w₀}
use Rattle.chip.specs.State
use Rattle.chip.specs.State.{fresh}
use Rattle.chip.specs.Proper
use Rattle.fifo.specs.Queue
use Rattle.events.specs.declared.Event.TheVariants.{Ticks}
use Rattle.judged.specs.Judged
use Rattle.bus.specs.declared.types.Outcome.{Outcome}
use Rattle.bus.specs.Event
use Rattle.bus.specs.Hits.{hits}
use Rattle.bus.specs.Numbers.{numbers}
use Rattle.bus.specs.Pins.{pins}
use Rattle.bus.specs.contracts as bus
use Rattle.why.specs.Why.{explained}
use Rattle.one.specs.Law.{Inputs, Model, stated, Satisfies, has_part}
use Rattle.promise.specs.Sequence.{Input, wire, Step, shipped, values}
use Rattle.promise.specs.Calls.{IsTheCode}
use Rattle.promise.specs.Wrong.{boasts}

abbrev tick : Input
tick = wire (Ticks 1) (replicate 8 0)

-- ---- the call, with the kit's own model of memory: what `bus::event` gives of a tick satisfies its contract

abbrev M : Type 1
M = w₀.M

abbrev model : Model M
model = record { 𝓤 = w₀.𝓤; 𝓛 = w₀.𝓛; mem = w₀.𝓜.mem; run = w₀.𝓡.returns }

abbrev arguments : Inputs bus.event.ended
arguments = (tt, (fresh, (Ticks 1, (replicate 8 0, tt))))

abbrev given : Outcome
given = Event.event fresh (Ticks 1) (replicate 8 0)

ensured : ent model.𝓤 (emp model.𝓤) ((stated M bus.event.ended (λ _. bus.event.spec) model arguments.0 arguments.1).ensures tt given)
ensured =
    let u = model.𝓤 in
    let E : SProp u = emp u in
    let F : SProp u = fact u (given ≡ given) in
    let two : SProp u = sep u E E in
    let three : SProp u = sep u E two in
    via u F (fact_i u (given ≡ given) E refl)
    (via u (sep u E F) (emp∗ u F)
    (via u (sep u two F) (mono∗ u (emp∗ u E) (id⊢ u F))
    (via u (sep u three F) (mono∗ u (emp∗ u two) (id⊢ u F))
    (via u (sep u (sep u E three) F) (mono∗ u (emp∗ u three) (id⊢ u F))
    (ex_i u {A = Lasts bus.event.ended arguments.0 arguments.1} (λ v. sep u (sep u E three) F) (tt, (tt, (tt, tt))))))))

satisfies : Satisfies M bus.event.ended (λ _. bus.event.spec) arguments given
satisfies = record { model = model; ghost = tt; resource = w₀.𝓤.one; holds = ensured.apply w₀.𝓤.one tt }

-- ---- how many values a machine's answer to it has

abbrev told : Step → ℕ
told s = length (values s.given)

differ : (told (shipped fresh tick) ≡ 0) × (told (boasts fresh tick) ≡ 1)
unfolding State.fresh Proper.proper Proper.registers_in_range Proper.sending_in_range Proper.acting_in_range State.mode_of Queue.empty Queue.in_range
    Judged.impossible Judged.said Judged.gives_number Judged.no_number_left Judged.brings Event.answered Event.answer Event.event Event.values_of Event.arrival_values
differ = (refl, refl)

pub not_the_code : IsTheCode boasts pins hits numbers explained fresh → ⊥
not_the_code code =
    ∥∥₁_elim (has_part (code M).1 arguments given satisfies) (λ x y. absurd x)
    (λ p. suc-ne-zero 0 (sym differ.1 ∙ sym (ap told p.1) ∙ differ.0))
