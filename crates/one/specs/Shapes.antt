-- The law for each shape that a contract here has. A line of the lists beside this file names a definition, and its
-- `refl` is where the checker holds that equation against the generated contract; of a struct behind a reference, the
-- law's own type is.
use Rattle.std.specs.Prelude.{◌≡◌, refl, List, [], ◌∷◌, ℕ}
use Rattle.std.proofs.Common.{sym, ◌∙◌, subst}
use base.Logic.{SProp, emp, ent, sep, id⊢, via, fst∗, snd∗}
use Rattle.std.specs.Coded.{Coded, coded×}
use contract.Lifetimes.{Lfts}
use contract.Monad.{fact, fact_i, fact_use, fact_mono}
use denote.RattleType.{Denots}
use denote.Signature.{Slot, type_at, types_at}
use denote.Struct.Declared.{Declared, row}
use denote.Triple.Entry.{Res}
use denote.Triple.Spec.{Spec}
use denote.Triple.Clauses.{Ended, closing}
use Rattle.thin.specs.Shape.{thin_ended, thin_clauses}
use Rattle.one.specs.Law.{Inputs, Left, Outcome, Model, Stated, Written, stated, made_of}
use Rattle.one.specs.Law.{Ghost, Ensures, ensures, Asks, asks, AsksNothing, OneResult, Equates, equates, by_equation}

-- ---- a definition as a function of a signature's parameters

module _ {n : ℕ} (κs : Lfts n) (X : Type 0) where
  abbrev pub Takes : List (Slot n) → Type 0
  Takes [] = X
  Takes (s ∷ ss) = (type_at s κs).Denot → Takes ss

  abbrev pub given : (ss : List (Slot n)) → Takes ss → Denots (types_at ss κs) → X
  given [] f a = f
  given (s ∷ ss) f a = given ss (f a.0) a.1

module _ (T : Ended) where
  -- of the result's type, and of any other
  abbrev pub ToResult : Type 0
  ToResult = (κs : Lfts T.signature.lifetimes) → Takes κs (Res T.signature κs) T.signature.params

  abbrev pub To : Type 0 → Type 0
  To X = (κs : Lfts T.signature.lifetimes) → Takes κs X T.signature.params

  abbrev pub Result : Inputs T → Type 0
  Result a = Res T.signature a.0

  abbrev pub result_at : ToResult → (a : Inputs T) → Res T.signature a.0
  result_at f a = given a.0 (Res T.signature a.0) T.signature.params (f a.0) a.1

  abbrev pub at : (X : Type 0) → To X → Inputs T → X
  at X f a = given a.0 X T.signature.params (f a.0) a.1

  abbrev pub result_coded : (a : Inputs T) → Coded (Res T.signature a.0)
  result_coded a = (type_at T.signature.result a.0).coded

  -- where no memory is lent for a change, what one outcome leaves in it is what another leaves
  abbrev pub NoneLent : Type 0
  NoneLent = (a : Inputs T) → Left T a → Left T a → Left T a

-- ---- what a contract reads as, by computation

module _ (M : Type 1) (T : Ended) (s : Stated M T) (c : Written M T) (said : Ensures M T c) where
  -- the clauses make the contract, they ensure what is said, u is v, and nothing is asked
  abbrev pub Reads : {X : Type 0} → X → X → Type 2
  Reads {X} u v =
      ◌≡◌ {A = ((m : Model M) → Spec m.𝓤 T.signature) × Ensures M T c × X × (Model M → Inputs T → Type 0) × Asks M T c}
      (stated M T s, ensures M T c, u, Ghost M T c, asks M T c)
      (made_of M T c, said, v, λ m a. Unit {0}, λ m a g. emp m.𝓤)

  abbrev pub Says : Type 2
  Says = (m : Model M) (a : Inputs T) (g : Ghost M T c m a) (x : Outcome T a) → ent m.𝓤 (ensures M T c m a g x) (said m a g x)

  pub free : {X : Type 0} (u v : X) → Reads u v → AsksNothing M T c
  free u v reads m a = (
    subst {A = Type 0} (λ A. A) (sym (λ i. (reads i).3 m a)) tt,
    λ g. subst (ent m.𝓤 (emp m.𝓤)) (sym (λ i. (reads i).4 m a g)) (id⊢ m.𝓤 (emp m.𝓤)),
  )

  pub says : {X : Type 0} (u v : X) → Reads u v → Says
  says u v reads m a g x =
      subst (ent m.𝓤 (ensures M T c m a g x)) (λ i. (reads i).1 m a g x) (id⊢ m.𝓤 (ensures M T c m a g x))

module _ (M : Type 1) (T : Ended) (c : Written M T) where
  abbrev pub ResultIs : ToResult T → Ensures M T c
  ResultIs f m a g x = fact m.𝓤 (x.0 ≡ result_at T f a)

  abbrev pub ResultIsAnd : ToResult T → ((a : Inputs T) → Res T.signature a.0 → Type 0) → Ensures M T c
  ResultIsAnd f φ m a g x = fact m.𝓤 ((x.0 ≡ result_at T f a) × φ a x.0)

  abbrev pub ContentIs : {X : Type 0} → ((a : Inputs T) → Left T a → X) → To T X → Ensures M T c
  ContentIs {X} of f m a g x = fact m.𝓤 (of a x.1 ≡ at T X f a)

  abbrev pub Both : Ensures M T c → Ensures M T c → Ensures M T c
  Both P Q m a g x = sep m.𝓤 (P m a g x) (Q m a g x)

module _ (M : Type 1) (T : Ended) (s : Stated M T) (c : Written M T) where
  abbrev pub ResultReads : ToResult T → Type 2
  ResultReads f = Reads M T s c (ResultIs M T c f) {X = NoneLent T} (λ a v w. v) (λ a v w. w)

  -- `of` reads what lent memory holds at exit, and `to` has nothing besides
  abbrev pub BothRead : {X : Type 0} → ((a : Inputs T) → Left T a → X) → ((a : Inputs T) → X → Left T a) → ToResult T → To T X → Type 2
  BothRead of to f h =
      Reads M T s c (Both M T c (ResultIs M T c f) (ContentIs M T c of h))
      {X = (a : Inputs T) → Left T a → Left T a} (λ a w. w) (λ a w. to a (of a w))

module _ {M : Type 1} {T : Ended} {s : Stated M T} (c : Written M T) where
  -- ---- the result is f of the parameters

  pub result_is : (f : ToResult T) → ResultReads M T s c f → Equates M T s (Result T) (λ a x. x.0) (result_at T f)
  result_is f reads =
      equates c (Result T) (λ a x. x.0) (result_at T f) (result_coded T)
      (λ i. (reads i).0)
      (free M T s c (ResultIs M T c f) (λ a v w. v) (λ a v w. w) reads)
      (says M T s c (ResultIs M T c f) (λ a v w. v) (λ a v w. w) reads)

  pub result : (f : ToResult T) → ResultReads M T s c f → OneResult M T s
  result f reads = by_equation (result_is f reads) (λ a x y p i. (p i, (reads i).2 a x.1 y.1))

  -- ---- and φ holds of it
  pub result_and :
      (f : ToResult T) (φ : (a : Inputs T) → Res T.signature a.0 → Type 0) →
      Reads M T s c (ResultIsAnd M T c f φ) {X = NoneLent T} (λ a v w. v) (λ a v w. w) → OneResult M T s
  result_and f φ reads =
      by_equation
      (equates c (Result T) (λ a x. x.0) (result_at T f) (result_coded T)
      (λ i. (reads i).0)
      (free M T s c (ResultIsAnd M T c f φ) (λ a v w. v) (λ a v w. w) reads)
      (λ m a g x. via m.𝓤 (ResultIsAnd M T c f φ m a g x)
      (says M T s c (ResultIsAnd M T c f φ) (λ a v w. v) (λ a v w. w) reads m a g x)
      (fact_mono m.𝓤 ((x.0 ≡ result_at T f a) × φ a x.0) (x.0 ≡ result_at T f a) (λ p. p.0))))
      (λ a x y p i. (p i, (reads i).2 a x.1 y.1))

  module _ {X : Type 0} (coded : Coded X) (of : (a : Inputs T) → Left T a → X) (to : (a : Inputs T) → X → Left T a) where
    -- ---- lent memory holds f of the parameters at exit: `of` reads its content, and `to` has nothing besides
    pub content :
        (f : To T X) →
        Reads M T s c (ContentIs M T c of f)
        {X = (a : Inputs T) → Outcome T a → Outcome T a → Outcome T a} (λ a x y. x) (λ a x y. (y.0, to a (of a x.1))) →
        OneResult M T s
    content f reads =
        by_equation
        (equates c (λ a. X) (λ a x. of a x.1) (at T X f) (λ a. coded)
        (λ i. (reads i).0)
        (free M T s c (ContentIs M T c of f) (λ a x y. x) (λ a x y. (y.0, to a (of a x.1))) reads)
        (says M T s c (ContentIs M T c of f) (λ a x y. x) (λ a x y. (y.0, to a (of a x.1))) reads))
        (λ a x y p. (λ i. (reads i).2 a x y) ∙ (λ i. (y.0, to a (p i))) ∙ sym (λ i. (reads i).2 a y y))

    -- ---- the result is f of the parameters, and lent memory holds h of them at exit

    pub result-and-content-are :
        (f : ToResult T) (h : To T X) → BothRead M T s c of to f h →
        Equates M T s (λ a. Result T a × X) (λ a x. (x.0, of a x.1)) (λ a. (result_at T f a, at T X h a))
    result-and-content-are f h reads =
        equates c (λ a. Result T a × X) (λ a x. (x.0, of a x.1)) (λ a. (result_at T f a, at T X h a))
        (λ a. coded× (result_coded T a) coded)
        (λ i. (reads i).0)
        (free M T s c (Both M T c (ResultIs M T c f) (ContentIs M T c of h)) (λ a w. w) (λ a w. to a (of a w)) reads)
        (λ m a g x.
        let equal : Type 0 = ◌≡◌ {A = Result T a × X} (x.0, of a x.1) (result_at T f a, at T X h a) in
        let P : SProp m.𝓤 = ResultIs M T c f m a g x in
        let Q : SProp m.𝓤 = ContentIs M T c of h m a g x in
        via m.𝓤 (sep m.𝓤 P Q)
        (says M T s c (Both M T c (ResultIs M T c f) (ContentIs M T c of h)) (λ a w. w) (λ a w. to a (of a w)) reads m a g x)
        (fact_use m.𝓤 (x.0 ≡ result_at T f a) (fst∗ m.𝓤 P Q) (λ p.
        fact_use m.𝓤 (of a x.1 ≡ at T X h a) (snd∗ m.𝓤 P Q) (λ q.
        fact_i m.𝓤 equal (sep m.𝓤 P Q) (λ i. (p i, q i))))))

    pub result_and_content : (f : ToResult T) (h : To T X) → BothRead M T s c of to f h → OneResult M T s
    result_and_content f h reads =
        by_equation (result-and-content-are f h reads)
        (λ a x y p. (λ i. (x.0, (reads i).2 a x.1)) ∙ (λ i. ((p i).0, to a (p i).1)) ∙ sym (λ i. (y.0, (reads i).2 a y.1)))

-- ---- a struct behind a `&mut`, as thin's law has it: at exit it is f of what it was
pub lent :
    {M : Type 1} (D : Declared) (f : D.D → D.D) →
    OneResult M (thin_ended D) (λ 𝓤 𝓛 mem run. closing 𝓛 (thin_ended D) (thin_clauses D f 𝓤))
lent D f =
    content (λ 𝓤 𝓛 mem run. thin_clauses D f 𝓤) (row D).coded (λ a w. w.0) (λ a v. (v, tt)) (λ κs c. f c.now) refl
