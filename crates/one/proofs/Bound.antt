-- A contract that only bounds its result doesn't leave one, so that the law says something. Assumes nothing.
use mathlib.Core.Bool.{true}
use Prim.Native.Nat.{ℕ, ◌≤◌}
use native.Mathlib.Nat.{suc-ne-zero}
use native.Mathlib.Omega.{arith}
use package.base.Logic.{SProp, emp, sep, ent, id⊢, via, ex_i, emp∗, mono∗}
use contract.Monad.{fact, fact_i}
use denote.Triple.Clauses.{Lasts, closing}
use borrow.Fn.World.{World}
use Rattle.base.specs.contracts as base
use Rattle.one.specs.Law.{Inputs, Stated, Satisfies, OneResult, only-result}

-- `flag`'s signature, and of its contract the bound alone
abbrev bound : (M : Type 1) → Stated M base.flag.ended
bound M 𝓤 𝓛 mem run = closing 𝓛 base.flag.ended (λ κs a. record {
  ghost = Unit {0};
  requires = λ g. emp 𝓤;
  ensures = λ g r e. fact 𝓤 (r ≤ 1);
})

abbrev on : Inputs base.flag.ended
on = (tt, (true, tt))

module _ (w : World) where
  abbrev ensured : ℕ → SProp w.𝓤
  ensured r = (bound w.M w.𝓤 w.𝓛 w.𝓜.mem w.𝓡.returns on.0 on.1).ensures tt r

  holds : (r : ℕ) → r ≤ 1 → ent w.𝓤 (emp w.𝓤) (ensured r)
  holds r h =
      let E : SProp w.𝓤 = emp w.𝓤 in
      let F : SProp w.𝓤 = fact w.𝓤 (r ≤ 1) in
      via w.𝓤 F (fact_i w.𝓤 (r ≤ 1) E h)
      (via w.𝓤 (sep w.𝓤 E F) (emp∗ w.𝓤 F)
      (via w.𝓤 (sep w.𝓤 (sep w.𝓤 E E) F) (mono∗ w.𝓤 (emp∗ w.𝓤 E) (id⊢ w.𝓤 F))
      (ex_i w.𝓤 {A = Lasts base.flag.ended on.0 on.1} (λ v. sep w.𝓤 (sep w.𝓤 E E) F) (tt, tt))))

  satisfies : (r : ℕ) → r ≤ 1 → Satisfies w.M base.flag.ended (bound w.M) on r
  satisfies r h = record {
    model = record { 𝓤 = w.𝓤; 𝓛 = w.𝓛; mem = w.𝓜.mem; run = w.𝓡.returns };
    ghost = tt;
    resource = w.𝓤.one;
    holds = (holds r h).apply w.𝓤.one tt;
  }

  pub a_bound_is_not_enough : ¬ OneResult w.M base.flag.ended (bound w.M)
  a_bound_is_not_enough o = suc-ne-zero 0 (only-result o on 1 0 (satisfies 1 (omega arith)) (satisfies 0 (omega arith)))
