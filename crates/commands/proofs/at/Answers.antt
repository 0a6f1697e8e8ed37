-- `commands::at` meets its contract: each line of the table is its row.
use Rattle.std.proofs.Common.{◌≡◌, refl, length, Bor, sym, ap, ◌∙◌, map, ℕ, List, [], ◌∷◌, get_or}
use Rattle.std.specs.Prelude.{Option, Some, None, slice_get, option_map}
use Rattle.std.specs.Option.{option_copied}
use Rattle.std.specs.Slice.{IsItemAt}
use Rattle.std.proofs.lemmas.Option.{slice_get-map, slice_get_past, slice_get_read}
use Rattle.commands.specs.declared.Row.{Row}
use Rattle.commands.specs.Table.{rows, row}
use Rattle.commands.proofs.at.Goals as goal

-- a line of the table, and the row that it says
abbrev line_of : Row → List ℕ
line_of r = r.command ∷ r.least ∷ r.most ∷ r.out ∷ r.verb ∷ r.index ∷ []

abbrev row_of : List ℕ → Row
row_of l = row (get_or l 0 0) (get_or l 1 0) (get_or l 2 0) (get_or l 3 0) (get_or l 4 0) (get_or l 5 0)

-- a line that `get` lends
lent : {X : Type 0} (xs : List X) (i : ℕ) (r : Option (Bor X)) → IsItemAt xs i r → slice_get xs i ≡ option_copied r
lent xs i None h = slice_get_past xs i h.3
lent xs i (Some x) h = slice_get_read xs (length xs) i x.now refl h.3.0 h.1

read : (i : ℕ) (r : Option (Bor (List ℕ))) (l : Option (List ℕ)) → IsItemAt (map line_of rows) i r → l ≡ option_copied r
    → option_map row_of l ≡ slice_get rows i
unfolding rows
read i r l h e = sym (slice_get-map row_of (map line_of rows) i ∙ ap (option_map row_of) (lent (map line_of rows) i r h ∙ sym e))

pub returns-in_err-command : goal.returns-in_err-command
unfolding rows
returns-in_err-command c = c.from_residual.ensures ∙ read c.args.i c.get.result None c.get.ensures.lookup c.in_err-command.ensures

pub returns : goal.returns
unfolding rows
returns c = read c.args.i c.get.result (Some c.in_ok-command.field-0) c.get.ensures.lookup c.in_ok-command.ensures
