-- `at_place` meets its contract. The loop's invariant: the set has those that p would wait for at place j.
use Rattle.objects.specs.Sets.{SetOf}
use Rattle.search.proofs.Sets.{waited_at}
use Rattle.search.proofs.waits.at_place.Given as goal

abbrev pub invariant-loop-j : goal.invariant-loop-j
invariant-loop-j l = SetOf (waited_at l.fn.o l.fn.p l.fn.m l.j) l.set
