-- The set has, of the places passed, those where the test held.
use Rattle.values.proofs.Places.{Told}
use Rattle.values.proofs.bits.places.Given as goal

abbrev pub invariant-loop-k : goal.invariant-loop-k
invariant-loop-k g l = Told g.F.Fn l.test l.row l.k l.set
