-- `places` meets its contract: at each place the set has what the test gave there.
use Rattle.std.proofs.lemmas.Fn.{says_at}
use Rattle.std.proofs.Common.{refl}
use Rattle.std.specs.Fn.{FnReturnsAt}
use Rattle.values.proofs.Places.{told_none, told_next}
use Rattle.values.proofs.bits.places.Goals as goal

pub loop-k-init : goal.loop-k-init
loop-k-init g c = told_none _ _ _

pub loop-k-preserved : goal.loop-k-preserved
loop-k-preserved g c =
    let v = c.loop-k in
    let read = c.index-row-k in
    let gave : FnReturnsAt g.F.Fn c.args.test read.result c.test.result = says_at g.F.Fn c.test.ensures refl in
    rw c.marked-set.ensures (told_next _ _ _ v.k v.set v.invariant read.result c.loop-k-test.true read.is c.test.result gave)
