-- The loop of `line::numbers::number`: what is left decides whether all are digits, and adding its digits on is adding
-- all.
use Rattle.std.proofs.Common.{◌≡◌, ℕ, drop}
use Rattle.std.specs.List.{FoldsTo}
use Rattle.line.specs.Numbers.{digit_of, all_digits}
use Rattle.line.proofs.numbers.number.Given as goal

abbrev pub invariant-loop-b : goal.invariant-loop-b
invariant-loop-b g l = record {
  digits : all_digits l.base (drop l.b-index l.word) ≡ all_digits l.base l.word;
  added : (n : ℕ) → FoldsTo (λ a b c. goal.F-post g l.add a (digit_of b) c) l.n (drop l.b-index l.word) n
      → FoldsTo (λ a b c. goal.F-post g l.add a (digit_of b) c) 0 l.word n;
}
