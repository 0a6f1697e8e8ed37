-- `terminal::shift` meets its contract: what is printed is what arrived.
use Rattle.std.proofs.Common.{◌≡◌, ◌∙◌, ◌+◌, ◌%◌, ◌<◌, length, arith, rules}
use Rattle.std.specs.Iterator.Adapters.{enumerate_source, enumerate_count}
use Rattle.std.specs.Slice.Iter.{chunks_exact_rest}
use Rattle.terminal.proofs.Shifts.{Shifting, begun, scanned, roomy, looked, finished}
use Rattle.terminal.proofs.shift.Goals as goal

pub loop-i-init : goal.loop-i-init
loop-i-init c = (
  search rules,
  search rules,
  search rules,
  rw (
    c.into_iter-i-iterator.ensures.into_iter_gives,
    c.enumerate-i-items.ensures.source,
    c.enumerate-i-items.ensures.count,
    c.chunks_exact.ensures.rest,
    c.switched_on-d.ensures,
  ) (begun _ _ c.requires (omega arith)),
)

pub look-t-requires-clause-reached : goal.look-t-requires-clause-reached
look-t-requires-clause-reached c =
    let step = c.in-Some.ensures.steps in
    rw c.bring-d.ensures
    (scanned _ _ _ _ _ _ _ _ c.loop-i.invariant.3 _ _ step.0.1.0 (step.0.1.1 ∙ c.loop-i.invariant.2) (omega arith)).serves.reached

pub look-t-requires-clause-listens : goal.look-t-requires-clause-listens
look-t-requires-clause-listens c =
    let step = c.in-Some.ensures.steps in
    rw c.bring-d.ensures
    (scanned _ _ _ _ _ _ _ _ c.loop-i.invariant.3 _ _ step.0.1.0 (step.0.1.1 ∙ c.loop-i.invariant.2) (omega arith)).listens

pub look-t-requires-clause-wakes : goal.look-t-requires-clause-wakes
look-t-requires-clause-wakes c =
    let step = c.in-Some.ensures.steps in
    rw c.bring-d.ensures
    (scanned _ _ _ _ _ _ _ _ c.loop-i.invariant.3 _ _ step.0.1.0 (step.0.1.1 ∙ c.loop-i.invariant.2) (omega arith)).wakes

pub look-t-requires-clause-count_in_bounds : goal.look-t-requires-clause-count_in_bounds
look-t-requires-clause-count_in_bounds c =
    let step = c.in-Some.ensures.steps in
    rw c.bring-d.ensures
    (roomy _ _ _ _ _ _ _ _ (scanned _ _ _ _ _ _ _ _ c.loop-i.invariant.3 _ _ step.0.1.0 (step.0.1.1 ∙ c.loop-i.invariant.2) (omega arith)))

pub loop-i-preserved-then-i-eq0 : goal.loop-i-preserved-then-i-eq0
loop-i-preserved-then-i-eq0 c =
    let step = c.in-Some.ensures.steps in
    let came : Shifting c.args.scans.now c.args.page.now (enumerate_count c.loop-i.i-iterator % 3 + 1) c.loop-i.page c.bring-d.result c.loop-i.used (enumerate_count c.loop-i.i-iterator + 1) (chunks_exact_rest (enumerate_source c.next.new.self)) =
    rw c.bring-d.ensures (scanned _ _ _ _ _ _ _ _ c.loop-i.invariant.3 _ _ step.0.1.0 (step.0.1.1 ∙ c.loop-i.invariant.2) (omega arith)) in
    (search rules, search rules, step.0.0 ∙ c.loop-i.invariant.2, rw step.2 (looked _ _ _ _ _ _ _ _ came _ _ c.look-t.ensures _))

pub loop-i-preserved : goal.loop-i-preserved
loop-i-preserved c =
    let step = c.in-Some.ensures.steps in
    let k = enumerate_count c.loop-i.i-iterator in
    let one_more : (k + 1) % 3 ≡ k % 3 + 1 = omega (arith, c.if-i-eq0.false, step.1) in (
      search rules,
      search rules,
      step.0.0 ∙ c.loop-i.invariant.2,
      rw (step.2, one_more, c.bring-d.ensures)
          (scanned _ _ _ _ _ _ _ _ c.loop-i.invariant.3 _ _ step.0.1.0 (step.0.1.1 ∙ c.loop-i.invariant.2) (omega arith)),
    )

pub returns-clause-count : goal.returns-clause-count
returns-clause-count c =
    let short : length (chunks_exact_rest (enumerate_source c.loop-i.i-iterator)) < 8 = rw (← c.loop-i.invariant.2) c.in-None.ensures.steps.0.1.0 in
    (finished _ _ _ _ _ _ _ _ c.loop-i.invariant.3 _ _ c.look.ensures short).0

pub returns-clause-printed : goal.returns-clause-printed
returns-clause-printed c =
    let short : length (chunks_exact_rest (enumerate_source c.loop-i.i-iterator)) < 8 = rw (← c.loop-i.invariant.2) c.in-None.ensures.steps.0.1.0 in
    (finished _ _ _ _ _ _ _ _ c.loop-i.invariant.3 _ _ c.look.ensures short).1
