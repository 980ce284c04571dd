-- `text::number` meets its contract: one digit, or the last behind the higher ones. Assumes nothing.
use Rattle.std.proofs.Common.{[], ◌∷◌, ◌+◌, ◌/◌, ◌%◌, sym, arith}
use Rattle.text.specs.Text.{decimal}
use Rattle.text.proofs.Text.{decimal_one, decimal_more, length_more, decimal_short, higher_length, decimal_room, added_as, added_two}
use Rattle.text.proofs.number.Goals as goal

pub higher-requires : goal.higher-requires
higher-requires c = omega (arith, decimal_room c.args.n _ c.ranges.n.fits c.requires, length_more c.args.n c.if-n-lt10.false)

pub digit-requires-else-n-lt10 : goal.digit-requires-else-n-lt10
digit-requires-else-n-lt10 c = omega (arith, decimal_room c.args.n _ c.ranges.n.fits c.requires, length_more c.args.n c.if-n-lt10.false)

pub returns-then-n-lt10 : goal.returns-then-n-lt10
returns-then-n-lt10 c =
    (added_as c.args.out.now.items (sym (decimal_one c.args.n c.if-n-lt10.true)) c.digit.ensures.0, λ h. omega arith, omega arith)

pub returns-else-n-lt10 : goal.returns-else-n-lt10
returns-else-n-lt10 c =
    let more = length_more c.args.n c.if-n-lt10.false in (
      added_two c.args.out.now.items (decimal (c.args.n / 10)) ((48 + c.args.n % 10) ∷ []) c.higher.ensures.0 c.digit-else-n-lt10.ensures.0
          (sym (decimal_more c.args.n c.if-n-lt10.false)),
      λ h. omega (arith, more, decimal_short c.args.n h),
      omega (arith, higher_length c.args.n c.ranges.n.fits),
    )
