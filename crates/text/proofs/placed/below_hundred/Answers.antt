-- `text::placed::below_hundred` meets its contract: one digit, or two. Assumes nothing.
use Rattle.std.proofs.Common.{sym, rules}
use Rattle.text.proofs.Text.{decimal_one, decimal_two, wrote_as, wrote_then}
use Rattle.text.proofs.placed.below_hundred.Goals as goal

pub returns-then-n-lt10 : goal.returns-then-n-lt10
returns-then-n-lt10 c = (wrote_as (sym (decimal_one _ (search rules))) c.digit.ensures.0, search rules)

pub returns-else-n-lt10 : goal.returns-else-n-lt10
returns-else-n-lt10 c = (wrote_as (decimal_two _ (search rules) (search rules)) (wrote_then c.digit-tens.ensures.0 c.digit-else-n-lt10.ensures.0), search rules)
