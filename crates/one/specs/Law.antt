-- What it is for a contract to ask nothing of a caller and to leave one result, and the law by which an equation
-- shows it.
use Rattle.std.specs.Prelude.{◌≡◌}
use Rattle.std.proofs.Common.{sym, ◌∙◌, ap, subst}
use Rattle.std.proofs.Math.Logic.{∥∥₁_elim, ∥∥₁_map}
use seplogic.Ra.Ura.{Ura}
use base.Logic.{SProp, emp, ent, snd∗}
use base.Stored.{Coded, Coded-set}
use prog.Memory.{Memory}
use prog.Routine.{Routine}
use types.Logic.{Logic, sem}
use contract.Monad.{Fun, fact}
use contract.Lifetimes.{Lfts}
use denote.Signature.{type_at}
use denote.Triple.Entry.{Args, Res}
use denote.Triple.Spec.{Spec}
use denote.Triple.Clauses.{Ended, Clauses, Lasts, at_exit, lasts, closing}
use Rattle.base.specs.OneResult.{one_result}

-- ---- what a function is given and what it leaves, by its signature

module _ (T : Ended) where
  abbrev pub Inputs : Type 0
  Inputs = (κs : Lfts T.signature.lifetimes) × Args T.signature κs

  -- what memory that was lent for a change, and is given back, holds at exit
  abbrev pub Left : Inputs → Type 0
  Left a = Lasts T a.0 a.1

  abbrev pub Outcome : Inputs → Type 0
  Outcome a = Res T.signature a.0 × Left a

module _ (M : Type 1) where
  -- ---- a contract as the toolchain generates it, in any model whose resources are M

  pub record Model : Type 2 where
    pub 𝓤 : Ura M
    pub 𝓛 : Logic 𝓤
    pub mem : Memory → SProp 𝓤
    pub run : Routine → Fun 𝓤

  abbrev pub InModels : (Ura M → Type 2) → Type 2
  InModels C = (𝓤 : Ura M) (𝓛 : Logic 𝓤) → (Memory → SProp 𝓤) → (Routine → Fun 𝓤) → C 𝓤

  module _ (T : Ended) where
    -- the contract that a function's theorem states
    abbrev pub Stated : Type 2
    Stated = InModels (λ 𝓤. Spec 𝓤 T.signature)

    -- clauses that such a contract is made of
    abbrev pub Written : Type 2
    Written = InModels (λ 𝓤. Clauses 𝓤 T)

    abbrev pub stated : Stated → (m : Model) → Spec m.𝓤 T.signature
    stated s m = s m.𝓤 m.𝓛 m.mem m.run

    abbrev pub written : Written → (m : Model) → Clauses m.𝓤 T
    written c m = c m.𝓤 m.𝓛 m.mem m.run

    abbrev pub made_of : Written → (m : Model) → Spec m.𝓤 T.signature
    made_of c m = closing m.𝓛 T (written c m)

    abbrev pub Ghost : Written → Model → Inputs T → Type 0
    Ghost c m a = (written c m a.0 a.1).ghost

    abbrev pub Ensures : Written → Type 2
    Ensures c = (m : Model) (a : Inputs T) → Ghost c m a → Outcome T a → SProp m.𝓤

    abbrev pub ensures : (c : Written) → Ensures c
    ensures c m a g x = (written c m a.0 a.1).ensures g x.0 (at_exit T a.0 a.1 x.1)

    abbrev pub Asks : Written → Type 2
    Asks c = (m : Model) (a : Inputs T) → Ghost c m a → SProp m.𝓤

    abbrev pub asks : (c : Written) → Asks c
    asks c m a g = (written c m a.0 a.1).requires g

    -- nothing is asked of a caller: no value besides the parameters, and no `requires`
    abbrev pub AsksNothing : Written → Type 2
    AsksNothing c = (m : Model) (a : Inputs T) → Ghost c m a × ((g : Ghost c m a) → ent m.𝓤 (emp m.𝓤) (asks c m a g))

    -- ---- one result

    -- a result satisfies the contract: in some model, what it ensures holds of some resource
    pub record Satisfies (s : Stated) (a : Inputs T) (r : Res T.signature a.0) : Type 2 where
      pub model : Model
      pub ghost : (stated s model a.0 a.1).ghost
      pub resource : M
      pub holds : ((stated s model a.0 a.1).ensures ghost r).holds resource

    -- the clauses allow an outcome: in some model, what they ensure of it holds of some resource
    pub record Allows (c : Written) (a : Inputs T) (x : Outcome T a) : Type 2 where
      pub model : Model
      pub ghost : Ghost c model a
      pub resource : M
      pub holds : (ensures c model a ghost x).holds resource

    -- the contract is made of clauses that ask nothing, and allow at most one outcome
    pub record OneResult (s : Stated) : Type 2 where
      pub clauses : Written
      pub makes : stated s ≡ made_of clauses
      pub free : AsksNothing clauses
      pub one : (a : Inputs T) (x y : Outcome T a) → Allows clauses a x → Allows clauses a y → x ≡ y

    -- the contract is made of clauses that ask nothing, and of every outcome that they allow a part is what is defined
    pub record Equates
        (s : Stated) (Part : Inputs T → Type 0) (part : (a : Inputs T) → Outcome T a → Part a) (defined : (a : Inputs T) → Part a)
        : Type 2 where
      pub clauses : Written
      pub makes : stated s ≡ made_of clauses
      pub free : AsksNothing clauses
      pub equal : (a : Inputs T) (x : Outcome T a) → Allows clauses a x → part a x ≡ defined a

-- a result that satisfies a contract is part of an outcome that its clauses allow
pub allowed :
    {M : Type 1} {T : Ended} {s : Stated M T} (c : Written M T) → stated M T s ≡ made_of M T c → (a : Inputs T) (r : Res T.signature a.0) →
    Satisfies M T s a r → ∥ ((v : Left T a) × Allows M T c a (r, v)) ∥₁
allowed {M} {T} {s} c makes a r p = left p.model p.ghost r p.resource p.holds
  where
    -- what is said of a content, beside which the contract has the clauses
    said : (m : Model M) → Left T a → SProp m.𝓤
    said m v = sem m.𝓛 (lasts T a.0 a.1 v)

    Leaves : (m : Model M) → Spec m.𝓤 T.signature → Type 2
    Leaves m S =
        (g : (S a.0 a.1).ghost) (r : Res T.signature a.0) (ρ : M) → ((S a.0 a.1).ensures g r).holds ρ →
        ∥ ((v : Left T a) × Allows M T c a (r, v)) ∥₁

    left : (m : Model M) → Leaves m (stated M T s m)
    left m = subst (Leaves m) (λ i. sym makes i m) (λ g r ρ h. ∥∥₁_map h (λ t. (
      t.0,
      record {
        model = m;
        ghost = g;
        resource = ρ;
        holds = (snd∗ m.𝓤 (said m t.0) (ensures M T c m a g (r, t.0))).apply ρ t.1;
      },
    )))

-- whatever its clauses, two results that satisfy the contract are equal
pub only-result :
    {M : Type 1} {T : Ended} {s : Stated M T} → OneResult M T s → (a : Inputs T) (r q : Res T.signature a.0) →
    Satisfies M T s a r → Satisfies M T s a q → r ≡ q
only-result {M} {T} {s} o a r q p p' =
    ∥∥₁_elim (allowed o.clauses o.makes a r p) equal (λ v.
    ∥∥₁_elim (allowed o.clauses o.makes a q p') equal (λ w.
    ap (λ x. x.0) (o.one a (r, v.0) (q, w.0) v.1 w.1)))
  where
    equal : IsProp (r ≡ q)
    equal = Coded-set (type_at T.signature.result a.0).coded r q

-- ---- the law: where the outcome is no more than the part that the clauses equate with a definition, there is one

module _
    {M : Type 1} {T : Ended} {s : Stated M T}
    {Part : Inputs T → Type 0} {part : (a : Inputs T) → Outcome T a → Part a} {defined : (a : Inputs T) → Part a}
  where
    pub by_equation : Equates M T s Part part defined → ((a : Inputs T) (x y : Outcome T a) → part a x ≡ part a y → x ≡ y) → OneResult M T s
    by_equation e whole = record {
      clauses = e.clauses;
      makes = e.makes;
      free = e.free;
      one = λ a x y p q. whole a x y (one_result (e.equal a x p) (e.equal a y q));
    }

    -- whatever its clauses, a result that satisfies the contract has, in some outcome, the part that is defined
    pub has_part : Equates M T s Part part defined → (a : Inputs T) (r : Res T.signature a.0) → Satisfies M T s a r
        → ∥ ((v : Left T a) × (part a (r, v) ≡ defined a)) ∥₁
    has_part e a r p = ∥∥₁_map (allowed e.clauses e.makes a r p) (λ v. (v.0, e.equal a (r, v.0) v.1))

    -- what is read off an equal part is equal, and so is what is the same as the definition
    pub read_off : Equates M T s Part part defined → (Seen : Type 0) (see : (a : Inputs T) → Part a → Seen) (seen : (a : Inputs T) → Seen)
        → ((a : Inputs T) → see a (defined a) ≡ seen a) → Equates M T s (λ a. Seen) (λ a x. see a (part a x)) seen
    read_off e Seen see seen same = record {
      clauses = e.clauses;
      makes = e.makes;
      free = e.free;
      equal = λ a x p. ap (see a) (e.equal a x p) ∙ same a;
    }

-- an equation in the clauses is one of the outcomes that they allow: a fact in the logic is a truncated one, and the
-- values of a type with codes are a set
pub equates :
    {M : Type 1} {T : Ended} {s : Stated M T} (c : Written M T) (Part : Inputs T → Type 0)
    (part : (a : Inputs T) → Outcome T a → Part a) (defined : (a : Inputs T) → Part a) →
    ((a : Inputs T) → Coded (Part a)) →
    stated M T s ≡ made_of M T c →
    AsksNothing M T c →
    ((m : Model M) (a : Inputs T) (g : Ghost M T c m a) (x : Outcome T a) →
    ent m.𝓤 (ensures M T c m a g x) (fact m.𝓤 (part a x ≡ defined a))) →
    Equates M T s Part part defined
equates c Part part defined coded makes free says = record {
  clauses = c;
  makes = makes;
  free = free;
  equal = λ a x p.
      ∥∥₁_elim ((says p.model a p.ghost x).apply p.resource p.holds)
      (Coded-set (coded a) (part a x) (defined a)) (λ t. t.0);
}
