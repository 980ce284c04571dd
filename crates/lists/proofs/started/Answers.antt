-- The starter alone is marked at first.
use Rattle.std.proofs.Common.{rules}
use Rattle.rules.specs.Lists.{starter}
use Rattle.lists.proofs.Gathering.{marks_next, of_rows}
use Rattle.lists.proofs.Waited.{starter_marks}
use Rattle.lists.proofs.started.Goals as goal

pub add_waited-count-requires : goal.add_waited-count-requires
add_waited-count-requires c = (search rules, rw c.with.ensures (marks_next (starter c.args.p) 0 (starter_marks c.args.p)))

pub returns : goal.returns
returns c = of_rows (starter c.args.p) 0 _ _ _ c.add_waited-count.ensures
