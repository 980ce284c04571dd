-- `engine::grants::grant_rest` meets its contract: each turn of its loop sends the next grant, and where the others lead stays the same.
-- Assumes nothing.
use mathlib.Core.Path.{◌≡◌}
use Prim.Native.Nat.{◌-◌, ◌≤◌}
use Rattle.rules.specs.Board.{send_grants}
use Rattle.engine.specs.Grants.{places_from}
use Rattle.engine.proofs.grants.grant_rest.Given as goal

abbrev pub invariant-loop-k : goal.invariant-loop-k
invariant-loop-k l = (l.granted ≤ 16) × (send_grants l.b l.o (places_from l.book l.k (l.granted - l.k)) ≡ send_grants l.initial.b l.o (places_from l.book 1 (l.granted - 1)))
