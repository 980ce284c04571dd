-- `text::placed::number` meets its contract: the last two digits one after the other behind the rest. Assumes nothing.
use Rattle.std.proofs.Common.{rules}
use Rattle.text.proofs.Text.{decimal_four, wrote_as, wrote_then}
use Rattle.text.proofs.placed.number.Goals as goal

pub returns-else-n-lt100 : goal.returns-else-n-lt100
returns-else-n-lt100 c = (wrote_as (decimal_four _ (search rules)) (wrote_then (wrote_then c.below_hundred-hundreds.ensures.0 c.digit-tens.ensures.0) c.digit.ensures.0), search rules)
