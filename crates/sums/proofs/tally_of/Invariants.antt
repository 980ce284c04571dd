-- The places passed whose rings count.
use Rattle.std.proofs.Common.{◌≡◌, ◌≤◌}
use Rattle.rules.specs.Tables.{count_of}
use Rattle.rules.specs.Board.{counts}
use Rattle.sums.proofs.tally_of.Given as goal

abbrev pub invariant-loop-s : goal.invariant-loop-s
invariant-loop-s l = (l.tally ≤ l.s) × (l.tally ≡ count_of l.s (counts l.rings))
