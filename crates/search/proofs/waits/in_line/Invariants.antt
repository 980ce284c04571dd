-- `in_line` meets its contract. The loop's invariant: the set has those that p waits for at the first k places.
use Rattle.objects.specs.Sets.{SetOf}
use Rattle.search.specs.Numbers.{any}
use Rattle.search.specs.Waiting.{waits_at}
use Rattle.search.proofs.waits.in_line.Given as goal

abbrev pub invariant-loop-at : goal.invariant-loop-at
invariant-loop-at l = SetOf (λ q. any l.at (waits_at l.fn.o l.fn.p q)) l.set
