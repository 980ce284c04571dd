-- `text::placed::total` meets its contract: the last digit behind the others, by induction on the number, which falls. Assumes nothing.
use Rattle.std.proofs.Common.{sym, rules, arith}
use Rattle.text.proofs.Text.{decimal_one, decimal_more, higher_length, wrote_as, wrote_then}
use Rattle.text.proofs.placed.+total.Goals as goal

pub returns-then-n-lt10 : goal.returns-then-n-lt10
returns-then-n-lt10 t c = (wrote_as (sym (decimal_one _ (search rules))) c.digit.ensures.0, search rules)

pub digit-requires-else-n-lt10 : goal.digit-requires-else-n-lt10
digit-requires-else-n-lt10 t c =
    (omega (arith, c.requires, c.total-higher.ensures.0.place, higher_length c.args.n (search rules)), omega arith)

pub returns-else-n-lt10 : goal.returns-else-n-lt10
returns-else-n-lt10 t c = (
  wrote_as (sym (decimal_more c.args.n (search rules))) (wrote_then c.total-higher.ensures.0 c.digit-else-n-lt10.ensures.0),
  omega (arith, c.digit-else-n-lt10.ensures.1, c.total-higher.ensures.0.place, higher_length c.args.n (search rules)),
)
