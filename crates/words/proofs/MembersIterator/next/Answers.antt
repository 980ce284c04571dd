-- A set that is not empty has a lowest number, which is below 64; without it the set is a smaller number.
use Rattle.std.proofs.Common.{◌<◌, arith}
use Rattle.values.proofs.Lowest.{lowest_below, lowest_out}
use Rattle.words.proofs.MembersIterator.next.Goals as goal

pub without-self-requires : goal.without-self-requires
without-self-requires c = lowest_below _ (omega arith) c.if-left-eq0.false c.lowest-k.ensures.0

pub returns-clause-steps : goal.returns-clause-steps
returns-clause-steps c = (lowest_below _ (omega arith) c.if-left-eq0.false c.lowest-k.ensures.0, c.lowest-k.ensures.0, c.without-self.ensures)

pub returns-clause-goes : goal.returns-clause-goes
returns-clause-goes c =
    let less : c.without-self.result < c.args.self.now.left = lowest_out _ (omega arith) c.if-left-eq0.false c.lowest-k.ensures.0 c.without-self.ensures in
    record { on = λ h. (tt, tt, less); keeps = tt; rests = λ h. tt }
