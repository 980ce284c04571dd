-- `round` meets its contract. The loop's invariant: p has not come round in fewer than k waits.
use mathlib.Core.Path.{◌≡◌}
use mathlib.Core.Bool.{false}
use Prim.Native.Nat.{ℕ, suc, ◌<◌}
use lib.ListN.{get_or}
use Rattle.rules.specs.Bits.{taken}
use Rattle.search.proofs.walk.round.Given as goal

abbrev pub invariant-loop-k : goal.invariant-loop-k
invariant-loop-k l = (j : ℕ) → suc j < l.k → taken (get_or l.comers (suc j) 0) l.p ≡ false
