-- One entry more is marked.
use Rattle.std.proofs.Common.{◌≡◌, arith, add-one, get_or}
use Rattle.rules.specs.Tables.{among, rows}
use Rattle.rules.specs.Lists.{listed}
use Rattle.rules.proofs.Bits.{taken_zero}
use Rattle.lists.proofs.Turns.{front_at, mark_row}
use Rattle.lists.proofs.gather.listed.Goals as goal

pub loop-p-init : goal.loop-p-init
unfolding among rows
loop-p-init c = taken_zero

pub loop-p-preserved : goal.loop-p-preserved
loop-p-preserved c =
    let v = c.loop-p in
    let who = c.args.l.now.who in
    rw (add-one, c.with-seen.ensures, front_at who c.wide-n.result v.p-index c.loop-p-test.true) (mark_row _ (λ j. get_or who j 0) v.p-index v.invariant)

pub returns : goal.returns
unfolding listed
returns c =
    let v = c.loop-p in
    let e : v.p-index ≡ c.args.l.now.count = omega (arith, c.wide-n.ensures.0, c.requires.count, c.requires.size) in
    record { has = λ k h. rw e at (v.invariant k) }
