-- All numbers of the set below some bound are added, and those from it on are left.
use Rattle.std.proofs.Common.{◌<◌, ◌^◌}
use Rattle.lists.specs.Growing.{list_in}
use Rattle.lists.proofs.Turns.{Taking}
use Rattle.lists.proofs.gather.add_set.Given as goal

abbrev pub invariant-loop-left : goal.invariant-loop-left
invariant-loop-left l = (l.left < 2 ^ 64) × Taking (list_in l.fn.rows l.fn.start) l.lead l.fresh (list_in l.rows l.count) l.left

abbrev pub decreases-loop-left : goal.decreases-loop-left
decreases-loop-left l = l.left
