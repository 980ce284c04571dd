-- `text::highest` meets its contract: one digit, or two. Assumes nothing.
use Rattle.std.proofs.Common.{[], ◌∷◌, ◌+◌, ◌/◌, ◌%◌, sym, arith}
use Rattle.text.proofs.Text.{decimal_one, decimal_two, length_one, length_more, added_as, added_two}
use Rattle.text.proofs.highest.Goals as goal

pub digit-requires : goal.digit-requires
digit-requires c = omega (arith, length_one c.args.hundreds c.if-hundreds-lt10.true)

pub digit-requires-else-hundreds-lt10 : goal.digit-requires-else-hundreds-lt10
digit-requires-else-hundreds-lt10 c = omega (arith, length_more c.args.hundreds c.if-hundreds-lt10.false)

pub digit-requires-else-hundreds-lt10-2 : goal.digit-requires-else-hundreds-lt10-2
digit-requires-else-hundreds-lt10-2 c = omega (arith, length_more c.args.hundreds c.if-hundreds-lt10.false, length_one (c.args.hundreds / 10) (omega arith))

pub returns-then-hundreds-lt10 : goal.returns-then-hundreds-lt10
returns-then-hundreds-lt10 c =
    (added_as c.args.out.now.items (sym (decimal_one c.args.hundreds c.if-hundreds-lt10.true)) c.digit.ensures.0, omega (arith, length_one c.args.hundreds c.if-hundreds-lt10.true))

pub returns-else-hundreds-lt10 : goal.returns-else-hundreds-lt10
returns-else-hundreds-lt10 c = (
  added_two c.args.out.now.items ((48 + c.args.hundreds / 10) ∷ []) ((48 + c.args.hundreds % 10) ∷ []) c.digit-else-hundreds-lt10.ensures.0 c.digit-else-hundreds-lt10-2.ensures.0
      (decimal_two c.args.hundreds (omega arith) (omega arith)),
  omega (arith, length_more c.args.hundreds c.if-hundreds-lt10.false, length_one (c.args.hundreds / 10) (omega arith)),
)
