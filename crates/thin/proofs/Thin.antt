-- The law: a thin function `*c = rule(*c);` meets `c.new ≡ f c.old` where its rule meets `result ≡ f c`.
-- A function's own proof hands over its names, its code's facts and the rule's theorem. Assumes nothing.
use mathlib.Core.Path.{◌≡◌}
use seplogic.Ra.Ura.{Ura}
use mir.Syntax.{Callee}
use prog.Model.{Model}
use prog.Routine.{Routine, Env}
use prog.Wp.{Closed}
use types.Logic.{Logic}
use contract.Running.{Running, tables, tables_of}
use denote.Struct.Declared.{Declared}
use denote.Struct.Laws as LL
use denote.Triple.Statement.{Triple}
use denote.Triple.Table.{entered, cited}
use Rattle.thin.specs.Shape.{Rule, Thin, thin}
use Rattle.thin.proofs.Walk.{meets}

module _ (T : Declared) (L : LL.Laws T) (f : T.D → T.D) {M : Type 1} {𝓤 : Ura M} (𝓛 : Logic 𝓤) (𝓜 : Model 𝓤 𝓛.H) (𝓡 : Running 𝓤 𝓛.H 𝓜) where
  open 𝓛 use {H}

  pub thin-spec : (self rule : Callee) (env : Env) → Closed 𝓤 H (tables 𝓤 H 𝓜 𝓡 env).C (tables 𝓤 H 𝓜 𝓡 env).Λ self (thin T rule)
      → (r : Routine) → env rule ≡ r → Triple 𝓤 (𝓡.run r) (Rule T f 𝓛)
      → Triple 𝓤 ((tables 𝓤 H 𝓜 𝓡 env).C self) (Thin T f 𝓛)
  unfolding tables_of
  thin-spec self rule env unfolded r at-rule met =
      entered 𝓤 H (Thin T f 𝓛) (tables 𝓤 H 𝓜 𝓡 env).C (tables 𝓤 H 𝓜 𝓡 env).Λ self (thin T rule) unfolded
      (meets T L f 𝓛 (tables_of 𝓤 H 𝓜 (tables 𝓤 H 𝓜 𝓡 env)) rule
      (cited 𝓤 H (Rule T f 𝓛) 𝓜 𝓡 env rule r at-rule met))
