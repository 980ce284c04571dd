-- Those who bar at the places passed are added, and the marks are those of the list.
use Rattle.rules.specs.Book.{bars, who_at}
use Rattle.lists.specs.Growing.{list_in}
use Rattle.lists.proofs.Turns.{Gathered}
use Rattle.lists.proofs.gather.add_ahead.Given as goal

abbrev pub invariant-loop-i : goal.invariant-loop-i
invariant-loop-i l = let at = l.fn.at in Gathered (bars at.book at.process at.mode) (who_at at.book) (list_in l.fn.rows l.fn.start) l.lead (list_in l.rows l.count) l.seen l.i
