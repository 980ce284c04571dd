-- `waiters` meets its contract. The loop's invariant: the numbers below x are decided.
use mathlib.Core.Path.{◌≡◌}
use mathlib.Core.Bool.{◌&&◌}
use Rattle.rules.specs.Bits.{taken}
use Rattle.search.specs.Numbers.{any, set_of}
use Rattle.search.specs.Waiting.{arc}
use Rattle.search.proofs.walk.waiters.Given as goal

abbrev pub invariant-loop-x : goal.invariant-loop-x
invariant-loop-x l = l.found ≡ set_of l.x (λ y. any 16 (λ q. arc l.fn.sets y q && taken l.fn.set q))
