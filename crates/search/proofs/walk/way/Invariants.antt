-- `way` meets its contract. The loop's invariant: i of the way are written, and x goes on with the waits that are left.
use Prim.Native.Nat.{◌-◌}
use Rattle.search.specs.Waiting.{arc}
use Rattle.search.proofs.Walks.{Walked}
use Rattle.search.proofs.walk.way.Given as goal

abbrev pub invariant-loop-i : goal.invariant-loop-i
invariant-loop-i l = Walked (arc l.sets) l.p l.n l.processes l.i (l.n - l.i) l.x
