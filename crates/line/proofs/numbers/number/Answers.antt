-- `line::numbers::number` meets its contract. Assumes nothing.
use Rattle.std.proofs.Common.{◌≡◌, ◌∙◌, ◌<◌, ◌≤◌, [], ap, sym, refl, arith, drop, length, get_or}
use Rattle.std.proofs.lemmas.List.{drop_all}
use Rattle.line.specs.Numbers.{digit_of, all_digits}
use Rattle.line.proofs.Digits.{digits_on, digits_off, digit_known, folds_on, number_if, number_not}
use Rattle.line.proofs.numbers.number.Goals as goal

pub loop-b-init : goal.loop-b-init
loop-b-init g c = record { digits = refl; added = λ n h. h }

pub returns-in_err-to_digit : goal.returns-in_err-to_digit
returns-in_err-to_digit g c =
    let w = c.args.word.now in
    let i = c.loop-b.b-index in
    let none = rw c.from.ensures at c.in_err-to_digit.ensures.value in
    rw c.from_residual.ensures
    (number_not c.args.base w (sym c.loop-b.invariant.digits ∙ digits_off c.args.base w i (omega arith) none (omega arith)))

pub loop-b-preserved : goal.loop-b-preserved
loop-b-preserved g c =
    let w = c.args.word.now in
    let i = c.loop-b.b-index in
    let lt : i < length w = omega arith in
    let known = rw c.from.ensures at c.in_ok-to_digit.ensures.value in
    let base : c.args.base ≤ 16 = omega arith in
    let worth : digit_of (get_or w i 0) ≡ c.in_ok-to_digit.field-0 = digit_known (get_or w i 0) (omega arith) ∙ sym known.1 in
    record {
      digits = digits_on c.args.base w i lt known.0 base ∙ c.loop-b.invariant.digits;
      added = λ n h. c.loop-b.invariant.added n (folds_on c.args.base w i lt _ c.loop-b.n c.call-n.result n (rw worth c.call-n.ensures) h);
    }

pub returns : goal.returns
returns g c =
    let w = c.args.word.now in
    let over : drop c.loop-b.b-index w ≡ [] = drop_all c.loop-b.b-index w (omega arith) in (
      number_if c.args.base w (sym c.is_empty.ensures ∙ c.if-is_empty.false) (sym c.loop-b.invariant.digits ∙ ap (all_digits c.args.base) over),
      c.loop-b.invariant.added c.loop-b.n (rw over refl),
    )
