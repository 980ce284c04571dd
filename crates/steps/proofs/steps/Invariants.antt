-- `steps::steps` meets its contract. The invariant: board and room are those after the commands passed. Assumes nothing.
use Prim.Native.Nat.{◌≤◌}
use Rattle.steps.proofs.Reaching.{Reached}
use Rattle.steps.proofs.steps.Given as goal

abbrev pub invariant-loop-i : goal.invariant-loop-i
invariant-loop-i g l = (l.i ≤ l.n) × Reached l.initial.b l.part l.initial.room l.i l.b l.room
