-- Filters and masks: as the device stores them, as the match takes them, and as the settings have them. Assumes
-- nothing.
use mathlib.Core.Path.{◌≡◌, sym, ◌∙◌}
use mathlib.Core.List.{List, []}
use Prim.Native.Nat.{ℕ}
use lib.ListN.{length, length-map, get_or-map}
use Rattle.base.proofs.Lists.{listed, tabulate_same}
use Rattle.chip.specs.declared.Pattern.{Pattern}
use Rattle.chip.specs.State.{absent, bank}
use Rattle.promise.specs.Settings.{patterns}

pub bank_patterns : (ps : List Pattern) → length ps ≡ 8 → bank ps ≡ patterns ps
unfolding bank
bank_patterns ps eight =
    tabulate_same _ _ 0 8 (λ k p q. sym (get_or-map (λ (p : Pattern). p.bytes) ps k absent))
    ∙ sym (listed {A = List ℕ} [] (patterns ps) ∙ rw (length-map ps (λ (p : Pattern). p.bytes), eight))
