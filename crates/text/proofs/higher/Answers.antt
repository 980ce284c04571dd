-- `text::higher` meets its contract: one digit, the last behind the highest ones, or what the library writes. Assumes nothing.
use Rattle.std.proofs.Common.{[], ◌∷◌, ◌+◌, ◌/◌, ◌%◌, sym, arith}
use Rattle.text.specs.Text.{decimal}
use Rattle.text.proofs.Text.{decimal_one, decimal_more, length_one, length_more, added_as, added_two}
use Rattle.text.proofs.higher.Goals as goal

pub digit-requires : goal.digit-requires
digit-requires c = omega (arith, length_one c.args.tens c.if-tens-lt10.true)

pub highest-requires : goal.highest-requires
highest-requires c = omega (arith, length_more c.args.tens c.if-tens-lt10.false)

pub digit-requires-then-tens-lt1000 : goal.digit-requires-then-tens-lt1000
digit-requires-then-tens-lt1000 c = omega (arith, length_more c.args.tens c.if-tens-lt10.false)

pub returns-then-tens-lt10 : goal.returns-then-tens-lt10
returns-then-tens-lt10 c =
    (added_as c.args.out.now.items (sym (decimal_one c.args.tens c.if-tens-lt10.true)) c.digit.ensures.0, omega (arith, length_one c.args.tens c.if-tens-lt10.true))

pub returns-then-tens-lt1000 : goal.returns-then-tens-lt1000
returns-then-tens-lt1000 c = (
  added_two c.args.out.now.items (decimal (c.args.tens / 10)) ((48 + c.args.tens % 10) ∷ []) c.highest.ensures.0 c.digit-then-tens-lt1000.ensures.0
      (sym (decimal_more c.args.tens c.if-tens-lt10.false)),
  omega (arith, length_more c.args.tens c.if-tens-lt10.false),
)
