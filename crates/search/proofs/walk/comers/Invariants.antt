-- `comers` meets its contract. The loop's invariant: the first k sets are written, and the next one is at hand.
use mathlib.Core.Path.{◌≡◌}
use Rattle.search.specs.Numbers.{set_of}
use Rattle.search.specs.Waiting.{arc}
use Rattle.search.specs.Ways.{comes}
use Rattle.search.proofs.Walks.{begun}
use Rattle.search.proofs.walk.comers.Given as goal

abbrev pub invariant-loop-after : goal.invariant-loop-after
invariant-loop-after l = (l.set ≡ set_of 16 (comes (arc l.fn.sets) l.fn.p l.after-index)) × (l.after-items ≡ begun 17 (λ j. set_of 16 (comes (arc l.fn.sets) l.fn.p j)) l.after-index)
