-- Why an equation is a full contract: it leaves one result.
use Rattle.std.specs.Prelude.{◌≡◌}
use Rattle.std.proofs.Common.{sym, ◌∙◌}

-- two results that both satisfy `r ≡ definition of the inputs` are equal
pub one_result : {A : Type 0} {defined r s : A} → r ≡ defined → s ≡ defined → r ≡ s
one_result p q = p ∙ sym q
