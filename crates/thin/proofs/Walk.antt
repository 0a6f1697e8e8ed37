-- The walk of a thin function's code, once for every struct, rule and f. Assumes nothing.
use mathlib.Core.Path.{◌≡◌, refl}
use Prim.Native.Nat.{ℕ}
use mathlib.Core.List.{[], ◌∷◌, List}
use seplogic.Ra.Ura.{Ura}
use base.Fraction.{full_share}
use mir.Syntax.{Callee, named}
use mir.Val.{Val, vunit, vptr}
use base.Logic.{SProp, ent, sep, emp, via, fst∗, snd∗, ex_e, id⊢}
use base.Fml.{GName, Lft, Share, ftrue, flft, fobs, fbor}
use prog.Wp.{Calls, Loops, WpFn, Tables}
use types.Logic.{Logic, sem}
use contract.Monad.{fact}
use types.Kit.{‵, raw, ◌⊛◌, some, later, ◌$◌, ◌∵◌, !, qed, by, move, keep, drop, use1, split, join, pick, fsplit, fsplit3, fjoin, fjoin3, feq_i, suffices, frame, await, done}
use types.Run.{look, look_raw, init, store_raw, forget, stop, hop, from, load, and_then, no_more, land, unit_lit, of_opd, assigns, returns, enter, alloc1, alloc0, params1, pass1, pass0, free1, free0}
use types.SemTy.{Body}
use sound.WpLaws.{FmC, fm_of, WpFn-mono}
use denote.RattleType.{owns}
use denote.Laws.{Is, shows}
use denote.Memory.{mem}
use denote.Ref.{MutBor, MutRef, mut_vals, mut_Tells}
use denote.Signature.{plain}
use denote.Steps.{opens, closes, peeks, heard, nothing}
use denote.Struct.Declared.{Declared, row}
use denote.Struct.Steps.{spelt}
use denote.Struct.Laws as LL
use denote.Triple.Statement.{Triple}
use denote.Triple.Call.{calls_at}
use denote.Triple.Entry.{on_entry}
use denote.Triple.Spec.{Meets}
use denote.Triple.Walked.{says, Stays, stay_ref, walk_of, Goes-ref, Walks, ends_at, walked, walk_Meets}
use denote.Triple.Clauses.{closing, ensured, lasts}
use Rattle.thin.specs.Shape.{rule_ended, rule_clauses, Rule, thin_ended, thin_clauses, thin}

module _ (T : Declared) where
  abbrev stayed : Stays (thin_ended T).signature.params (thin_ended T).kept
  stayed = (stay_ref (0 ∷ []) tt (plain (λ _. row T)), tt)

module _ (T : Declared) (L : LL.Laws T) (f : T.D → T.D) {M : Type 1} {𝓤 : Ura M} (𝓛 : Logic 𝓤) where
  -- what the rule's contract says of its result
  open 𝓛 use {H, A}

  made_of : (h r : T.D) → ent 𝓤 (ensured 𝓛 (rule_ended T) (rule_clauses T f 𝓤) tt (h, tt) tt r) (fact 𝓤 (r ≡ f h))
  made_of h r = ex_e 𝓤 _ (λ ws. snd∗ 𝓤 (sem 𝓛 (lasts (rule_ended T) tt (h, tt) ws)) (fact 𝓤 (r ≡ f h)))

  -- at one call: the reference's lifetime, share, place and ghost name, and the value h behind it
  module _ (κ : Lft) (q : Share) (b o : ℕ) (γ : GName) (h : T.D) where
    abbrev x : MutBor T.D × Unit {0}
    x = (record { ref_ptr = (b, o); ghost_name = γ; now = h }, tt)

    abbrev at : List Val × Unit {0}
    at = (vptr b o ∷ [], tt)

    abbrev mach : Val
    mach = LL.val T L h

    abbrev Post : Val → SProp 𝓤
    Post = (walk_of 𝓛 (thin_ended T) (stayed T) (thin_clauses T f 𝓤)).post (((κ, tt), (q, tt), tt, x, at), tt)

    exits : (r : T.D) → r ≡ f h
        → ent 𝓤 (sep 𝓤 (A.obs γ ((row T).coded.code r)) (sep 𝓤 (A.bor κ (Body (mem (row T)) b o γ)) (A.lft κ q))) (Post vunit)
    exits r e =
        qed 𝓛 (‵ (fobs γ ((row T).coded.code r)) ∷ ‵ (fbor κ (Body (mem (row T)) b o γ)) ∷ ‵ (flft κ q) ∷ []) ∵
        suffices ! _ (ends_at 𝓛 (thin_ended T) (stayed T) (thin_clauses T f 𝓤) (((κ, tt), (q, tt), tt, x, at), tt) vunit tt (r, tt) (tt, tt)) $
        says ! e $ nothing ! $ move ! (3 ∷ 0 ∷ []) $ join ! $ frame ! $
        feq_i ! (List Val) (vptr b o ∷ []) (vptr b o ∷ []) refl $ fjoin3 ! $ nothing ! $ move ! (1 ∷ 0 ∷ []) $ fjoin ! $
        feq_i ! (List Val) (vunit ∷ []) (vunit ∷ []) refl $ move ! (1 ∷ 0 ∷ []) $ done !

    abbrev to_rule : (Rule T f 𝓛).Ghost
    to_rule = ((tt, tt, tt, (h, tt), (mach ∷ [], tt)), tt)

    goes_rule : ent 𝓤 (sem 𝓛 ((row T).own_val h (mach ∷ []))) ((Rule T f 𝓛).pre to_rule)
    goes_rule = qed 𝓛 (‵ ((row T).own_val h (mach ∷ [])) ∷ []) ∵ nothing ! $ move ! (1 ∷ 0 ∷ []) $ join ! $ nothing ! $ join ! $ frame ! $ done !

    module _ (C : Calls 𝓤 H) (Λ : Loops 𝓤 H) (fm : FmC 𝓤 H 𝓛.laws C) (rule : Callee) (known : Triple 𝓤 (C rule) (Rule T f 𝓛)) where
      walk : ent 𝓤 (on_entry 𝓛 (thin_ended T).signature (κ, tt) (q, tt) x at) (WpFn 𝓤 H C Λ (thin T rule) (vptr b o ∷ []) Post)
      walk =
          qed 𝓛 ((‵ (flft κ q) ⊛ ‵ ftrue) ∷ ‵ (owns (MutRef (named 0) κ (row T) ∷ []) x at) ∷ []) ∵
          split ! $ move ! (2 ∷ []) $ fsplit ! $ fsplit3 ! $ drop ! $ move ! (0 ∷ 1 ∷ 3 ∷ []) $
          -- [obs; the borrow; the token; true; true]
          enter ! C Λ (thin T rule) (vptr b o ∷ []) _ $
          alloc1 ! (λ l₀. alloc1 ! (λ l₁. alloc1 ! (λ l₂. alloc1 ! (λ l₃. alloc0 ! $ params1 ! $ pass1 ! (init ! 4 refl (tt, tt)) $ pass0 ! $
          -- the struct behind the reference, opened
          move ! (8 ∷ 9 ∷ 10 ∷ []) $ opens ! tt (row T) {h = h} b o (λ vs.
          spelt ! (row T) (Is (row T)) (shows 𝓛 (row T)) (LL.vals T L) (LL.tells T L) full_share h vs b o $
          move ! (1 ∷ []) $ peeks ! (row T) (Is (row T)) (shows 𝓛 (row T)) h (mach ∷ []) (λ is.
          -- [what a T owns; the struct's cell; the open borrow; obs; auth; room for _3; …; room for _2; …; _1; …;
          -- room for _0; …]
          assigns ! (of_opd ! (load ! (from ! (hop ! (look ! 9 refl) (stop !))) (look_raw ! 1 refl))) (from ! (stop !))
          (init ! 5 refl ((LL.lawful T L 𝓛).typed h _ is).0) $
          -- the rule's call, and what it ensures
          use1 𝓛 (raw ((Rule T f 𝓛).pre to_rule)) goes_rule $
          calls_at ! fm (Rule T f 𝓛) known to_rule (and_then ! (load ! (from ! (stop !)) (look ! 5 refl)) (no_more !)) (λ v.
          use1 𝓛 (later (some (λ (r : T.D). (‵ ftrue ⊛ ‵ ((row T).own_val r (v ∷ []))) ⊛ raw (ensured 𝓛 (rule_ended T) (rule_clauses T f 𝓤) tt (h, tt) tt r)))) (id⊢ 𝓤 _) $
          await ! tt $ pick ! (λ r.
          split ! $ move ! (1 ∷ []) $ use1 𝓛 (raw (fact 𝓤 (r ≡ f h))) (made_of h r) $ heard ! (r ≡ f h) (λ e. split ! $ drop ! $
          peeks ! (row T) (Is (row T)) (shows 𝓛 (row T)) r (v ∷ []) (λ is'.
          -- the result stored, and the borrow closed
          land ! (from ! (stop !)) (init ! 7 refl ((LL.lawful T L 𝓛).typed r _ is').0) $
          assigns ! (of_opd ! (load ! (from ! (stop !)) (look ! 7 refl))) (from ! (hop ! (look ! 9 refl) (stop !)))
          (store_raw ! 1 refl ((LL.lawful T L 𝓛).typed r _ is').0) $
          assigns ! (of_opd ! (unit_lit !)) (from ! (stop !)) (init ! 11 refl (tt, tt)) $
          move ! (1 ∷ 0 ∷ []) $ closes ! tt (row T) r (v ∷ []) b o $
          returns ! (look ! 9 refl) $ forget ! 3 refl $ forget ! 5 refl $ forget ! 7 refl $ forget ! 9 refl $
          move ! (9 ∷ 10 ∷ []) $ free1 ! $ move ! (7 ∷ 8 ∷ []) $ free1 ! $ move ! (5 ∷ 6 ∷ []) $ free1 ! $ move ! (3 ∷ 4 ∷ []) $ free1 ! $ free0 ! $
          keep ! (0 ∷ 1 ∷ 2 ∷ []) $ by ! (exits r e)))))))))))

  walks : (C : Calls 𝓤 H) (Λ : Loops 𝓤 H) → FmC 𝓤 H 𝓛.laws C → (rule : Callee) → Triple 𝓤 (C rule) (Rule T f 𝓛)
      → Walks 𝓛 (thin_ended T) (stayed T) (WpFn 𝓤 H C Λ (thin T rule)) (thin_clauses T f 𝓤)
  walks C Λ fm rule known =
      walked 𝓛 (thin_ended T) (stayed T) (thin_clauses T f 𝓤) (WpFn 𝓤 H C Λ (thin T rule)) (λ κs. (mut_vals, tt))
      (λ κs. (mut_Tells (named 0) κs.0 (row T), tt))
      (λ κs qs bounds a _ _.
      via 𝓤 _ (fst∗ 𝓤 _ (emp 𝓤)) (walk κs.0 qs.0 a.0.ref_ptr.0 a.0.ref_ptr.1 a.0.ghost_name a.0.now C Λ fm rule known))

  pub meets : (𝓣 : Tables 𝓤 H) (rule : Callee) → Triple 𝓤 (𝓣.C rule) (Rule T f 𝓛)
      → Meets 𝓛 (thin_ended T).signature (WpFn 𝓤 H 𝓣.C 𝓣.Λ (thin T rule)) (closing 𝓛 (thin_ended T) (thin_clauses T f 𝓤))
  meets 𝓣 rule known =
      walk_Meets 𝓛 (thin_ended T) (stayed T) (Goes-ref 𝓛 1 0 tt (plain (λ _. row T)), tt) (thin_clauses T f 𝓤)
      (WpFn 𝓤 H 𝓣.C 𝓣.Λ (thin T rule)) (WpFn-mono 𝓤 H 𝓛.laws 𝓣 (thin T rule))
      (walks 𝓣.C 𝓣.Λ (fm_of 𝓤 H 𝓛.laws 𝓣) rule known)
