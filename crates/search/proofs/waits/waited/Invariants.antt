-- `waited` meets its contract. The loop's invariant: the set has those that p waits for in the lines of the first objects.
use Rattle.rules.specs.Board.{object_at}
use Rattle.objects.specs.Sets.{SetOf}
use Rattle.search.specs.Numbers.{any}
use Rattle.search.specs.Waiting.{waits_in}
use Rattle.search.proofs.waits.waited.Given as goal

abbrev pub invariant-loop-object : goal.invariant-loop-object
invariant-loop-object l = SetOf (λ q. any l.object-index (λ i. waits_in (object_at l.fn.b i) l.fn.p q)) l.set
