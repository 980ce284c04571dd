-- One more at the place, and none elsewhere. Assumes nothing.
use Rattle.std.proofs.Common.{rules}
use Rattle.totals.proofs.Laws.{past_more_at, one_more_set}
use Rattle.totals.proofs.one_more_at.Goals as goal

pub returns-then-i-lt17 : goal.returns-then-i-lt17
returns-then-i-lt17 c = one_more_set c.args.table.now c.args.i c.one_more.result (search rules) c.if-i-lt17.true c.one_more.ensures

pub returns-else-i-lt17 : goal.returns-else-i-lt17
returns-else-i-lt17 c = past_more_at c.args.table.now c.args.i (search rules) c.if-i-lt17.false
