-- `commands::place` meets its contract: the places are the rule's, for each of the 256 bytes, which antt computes
-- once.
use Rattle.std.proofs.Common.{◌≡◌, ap, ◌∙◌, ℕ, ◌+◌, ◌*◌, ◌/◌, ◌%◌, List, [], get_or, arith}
use Rattle.base.specs.Tabulate.{tabulate}
use Rattle.base.proofs.Lists.{table_at}
use Rattle.commands.specs.Table.{rows, place_in}
use Rattle.commands.proofs.place.Goals as goal

-- a line of the table
abbrev eight : ℕ → List ℕ
eight h = tabulate (λ l. place_in rows (h * 8 + l)) 0 8

pub returns : goal.returns
unfolding rows
returns c =
    let b = c.args.command in
    let again : b / 8 * 8 + b % 8 ≡ b = omega arith in
    ap (λ l. get_or l (b % 8) 0) (table_at eight [] 32 (b / 8) (omega arith))
    ∙ (table_at (λ l. place_in rows (b / 8 * 8 + l)) 0 8 (b % 8) (omega arith) ∙ ap (place_in rows) again)
