-- The lengths of the lines passed.
use Rattle.std.proofs.Common.{◌≡◌, ◌≤◌, ◌*◌}
use Rattle.rules.specs.Tables.{sum}
use Rattle.rules.specs.Board.{object_at}
use Rattle.sums.proofs.in_lines.Given as goal

abbrev pub invariant-loop-object : goal.invariant-loop-object
invariant-loop-object l = (l.load ≤ 255 * l.object-index) × (l.load ≡ sum l.object-index (λ k. (object_at l.fn.b k).line_count))
