-- The table's rules, each computed once over all its rows, and what a search for a row needs. Assumes nothing.
use mathlib.Core.Path.{◌≡◌, refl}
use mathlib.Core.Bool.{Bool, true, false, not, ◌&&◌}
use mathlib.Core.List.{List, [], ◌∷◌}
use mathlib.Core.Logic.{◌⊎◌, inl, inr, ⊎_elim}
use Prim.Native.Nat.{ℕ, suc, ◌≤◌}
use borrow.Author.Tests.{leb-true}
use lib.Dec.{eqb, leb}
use lib.ListN.{length}
use Rattle.base.specs.Pick.{pick}
use Rattle.base.proofs.Booleans.{and_left, and_right}
use Rattle.std.specs.Prelude.{Option, Some, slice_get}
use Rattle.commands.specs.declared.Row.{Row}
use Rattle.commands.specs.Table.{factory, rows, lookup, place_in}

-- a rule of every row
abbrev pub all : (Row → Bool) → List Row → Bool
all rule [] = true
all rule (r ∷ rs) = rule r && all rule rs

-- no command stands twice
abbrev pub distinct : List Row → Bool
distinct [] = true
distinct (r ∷ rs) = all (λ s. not (eqb r.command s.command)) rs && distinct rs

-- a row's reply is at most sixteen bytes, and its command is no factory command
abbrev pub sound : Row → Bool
sound r = leb r.out 16 && not (factory r.command)

pub table_rule : (all sound rows && distinct rows) ≡ true
unfolding rows
table_rule = refl

pub rows_length : length rows ≡ 69
unfolding rows
rows_length = refl

found_at : (t : Bool) (r s : Row) (f : Option Row) → pick t (Some r) f ≡ Some s → (r ≡ s) ⊎ (f ≡ Some s)
found_at true r s f e = inl (cc)
found_at false r s f e = inr e

-- what holds of every row holds of the one that a search finds
pub lookup_all : (rule : Row → Bool) (rs : List Row) (c : ℕ) (s : Row) → lookup rs c ≡ Some s → all rule rs ≡ true → rule s ≡ true
lookup_all rule [] c s e h = cc
lookup_all rule (r ∷ rs) c s e h =
    ⊎_elim
    (λ q. rw (← q) (and_left (rule r) (all rule rs) h))
    (λ q. lookup_all rule rs c s q (and_right (rule r) (all rule rs) h))
    (found_at (eqb r.command c) r s (lookup rs c) e)

pub out_le : (c : ℕ) (r : Row) → lookup rows c ≡ Some r → r.out ≤ 16
out_le c r e =
    leb-true r.out 16
    (and_left (leb r.out 16) _ (lookup_all sound rows c r e (and_left (all sound rows) (distinct rows) table_rule)))

here : (t : Bool) (r : Row) (p : ℕ) (rs : List Row) (f : Option Row) → slice_get rs p ≡ f
    → slice_get (r ∷ rs) (pick t 0 (suc p)) ≡ pick t (Some r) f
here true r p rs f on = refl
here false r p rs f on = on

-- the row at a command's place is the one that a search finds; past the last there is none
pub at_place : (rs : List Row) (c : ℕ) → slice_get rs (place_in rs c) ≡ lookup rs c
at_place [] c = refl
at_place (r ∷ rs) c = here (eqb r.command c) r (place_in rs c) rs (lookup rs c) (at_place rs c)
