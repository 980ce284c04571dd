-- The load of the messages passed.
use Rattle.std.proofs.Common.{◌≡◌, ◌≤◌, ◌*◌}
use Rattle.rules.specs.Tables.{sum}
use Rattle.rules.specs.Board.{kind_load, kind_at}
use Rattle.sums.proofs.in_messages.Given as goal

abbrev pub invariant-loop-flight : goal.invariant-loop-flight
invariant-loop-flight l = (l.load ≤ 2 * l.flight-index) × (l.load ≡ sum l.flight-index (λ k. kind_load (kind_at l.fn.b k)))
