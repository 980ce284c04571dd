-- `typed::number::decimal` meets its contract: a digit more for each byte (Decimals), and the number is kept at most at the largest
-- (`cut`). Assumes nothing.
use Rattle.std.proofs.Common.{◌∙◌, rules, sym, arith}
use Rattle.typed.proofs.Decimals.{cut, decimal_none, decimal_some, decimal_goes, decimal_stops, decimal_ends}
use Rattle.typed.proofs.number.decimal.Goals as goal

pub returns-then-is_empty : goal.returns-then-is_empty
returns-then-is_empty c = sym (decimal_none _ (search rules))

pub loop-c-init : goal.loop-c-init
loop-c-init c = (search rules, decimal_some _ c.if-is_empty.ensures)

pub returns-then-not-is_ascii_digit : goal.returns-then-not-is_ascii_digit
returns-then-not-is_ascii_digit c =
    sym (sym c.loop-c.invariant.1 ∙ decimal_stops c.loop-c.n _ c.loop-c.c-index c.loop-c-test.true c.if-not-is_ascii_digit.ensures.value)

pub loop-c-preserved : goal.loop-c-preserved
loop-c-preserved c =
    let goes = decimal_goes c.loop-c.n c.args.word.now c.loop-c.c-index c.loop-c-test.true c.if-not-is_ascii_digit.ensures.value in
    (search rules, cut _ _ _ (omega arith) ∙ sym goes ∙ c.loop-c.invariant.1)

pub returns : goal.returns
returns c = sym (sym c.loop-c.invariant.1 ∙ decimal_ends c.loop-c.n _ c.loop-c.c-index c.loop-c.invariant.0 (search rules))
