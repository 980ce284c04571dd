-- What the shape of a board gives of one record: how far its numbers reach, and the book of an object.
use Prim.Native.Nat.{ℕ, ◌≤◌, ◌<◌}
use native.Mathlib.Omega.{arith}
use lib.ListN.{length}
use Rattle.rules.specs.declared.Board.{Board}
use Rattle.rules.specs.Board.{object_at}
use Rattle.laws.specs.Shape.{ObjectShaped}
use Rattle.laws.proofs.Records.{up_to_is}
use Rattle.laws.proofs.Kept.{Good}

module _ (b : Board) (g : Good b) where
  pub few_processes : b.process_count ≤ 16
  few_processes = g.shaped.records.table.count_of_processes.1

  pub few_objects : b.object_count ≤ 16
  few_objects = g.shaped.records.table.count_of_objects.1

  pub process_there : (p : ℕ) → p < b.process_count → p < length b.processes
  process_there p h = omega (arith, g.sized.processes, few_processes)

  pub object_there : (o : ℕ) → o < b.object_count → o < length b.objects
  object_there o h = omega (arith, g.sized.objects, few_objects)

  pub book : (o : ℕ) → o < b.object_count → ObjectShaped (object_at b o) b.process_count
  book o h = rw (up_to_is o b.object_count b.process_count h) at (g.shaped.records.objects o)
