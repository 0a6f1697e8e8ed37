-- A thin function over a struct behind a reference, and the rule by value that it calls: what each is and what each
-- states. `T` is any struct of plain data and `f` any function on its values.
--
--     fn rule(c: T) -> T      ensures { result ≡ f c }
--     fn thin(c: &mut T)      ensures { c.new ≡ f c.old }      { *c = rule(*c); }
use Rattle.std.specs.Prelude.{◌≡◌, [], ◌∷◌}
use seplogic.Ra.Ura.{Ura}
use mir.Syntax.{Callee, ty_unit, ty_ref, mut, named, deref, place, copy, opd_unit, rv_opd, seq, assign, call, return, local, value_local, Fn}
use base.Logic.{emp}
use types.Logic.{Logic}
use contract.Monad.{fact}
use denote.Memory.{pointee}
use denote.Builtin.{RefMutOf, unit}
use denote.Exit.{yes}
use denote.Signature.{plain}
use denote.Struct.Struct.{layout}
use denote.Struct.Declared.{Declared, shape, row}
use denote.Triple.Statement.{Contract}
use denote.Triple.Spec.{triple_of}
use denote.Triple.Clauses.{Ended, Clauses, closing}

module _ (T : Declared) where
  -- ---- the rule

  abbrev pub rule_ended : Ended
  rule_ended = record {
    signature = record { lifetimes = 0; outlives = []; params = plain (λ _. row T) ∷ []; result = plain (λ _. row T) };
    kept = (yes, tt);
  }

  abbrev pub rule_clauses : (T.D → T.D) → {M : Type 1} (𝓤 : Ura M) → Clauses 𝓤 rule_ended
  rule_clauses f 𝓤 κs a = record { ghost = Unit {0}; requires = λ _. emp 𝓤; ensures = λ _ r _. fact 𝓤 (r ≡ f a.0) }

  abbrev pub Rule : (T.D → T.D) → {M : Type 1} {𝓤 : Ura M} (𝓛 : Logic 𝓤) → Contract 𝓤
  Rule f {𝓤 = 𝓤} 𝓛 = triple_of 𝓛 rule_ended.signature (closing 𝓛 rule_ended (rule_clauses f 𝓤))

  -- ---- the thin function

  abbrev pub thin_ended : Ended
  thin_ended = record {
    signature = record {
      lifetimes = 1;
      outlives = [];
      params = RefMutOf (0 ∷ []) tt (plain (λ _. row T)) (λ _. tt) ∷ [];
      result = plain (λ _. unit);
    };
    kept = (yes, tt);
  }

  abbrev pub thin_clauses : (T.D → T.D) → {M : Type 1} (𝓤 : Ura M) → Clauses 𝓤 thin_ended
  thin_clauses f 𝓤 κs a = record { ghost = Unit {0}; requires = λ _. emp 𝓤; ensures = λ _ _ e. fact 𝓤 (e.0.now ≡ f a.0.now) }

  abbrev pub Thin : (T.D → T.D) → {M : Type 1} {𝓤 : Ura M} (𝓛 : Logic 𝓤) → Contract 𝓤
  Thin f {𝓤 = 𝓤} 𝓛 = triple_of 𝓛 thin_ended.signature (closing 𝓛 thin_ended (thin_clauses f 𝓤))

  -- its code: a copy of the struct, the call, the result stored
  abbrev pub thin : Callee → Fn
  thin rule = record {
    lifetimes = 1;
    outlives = [];
    ty_params = [];
    givens = 0;
    params = 1;
    locals =
        local ty_unit value_local ∷
        local (ty_ref (named 0) mut (pointee (row T).written)) value_local ∷
        local (layout (shape T)) value_local ∷
        local (layout (shape T)) value_local ∷
        [];
    body =
        seq (assign (place 3 []) (rv_opd (copy (place 1 (deref (layout (shape T)) ∷ [])))))
        (seq (call rule (copy (place 3 []) ∷ []) (place 2 []))
        (seq (assign (place 1 (deref (layout (shape T)) ∷ [])) (rv_opd (copy (place 2 []))))
        (seq (assign (place 0 []) (rv_opd opd_unit)) return)));
  }
