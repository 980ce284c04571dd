-- The lowest number of what is left is taken out, and added.
use Rattle.std.proofs.Common.{◌<◌, arith}
use Rattle.lists.proofs.Turns.{taking_none, taking_all, taking_unlisted, taking_one, lowest_below, lowest_out}
use Rattle.lists.proofs.gather.add_set.Goals as goal

pub loop-left-init : goal.loop-left-init
loop-left-init c = (c.ranges.fresh.fits, taking_none _ _ _ c.requires.1 c.requires.0)

pub without-left-requires : goal.without-left-requires
without-left-requires c = lowest_below _ c.loop-left.invariant.0 c.loop-left-test.true c.lowest-q.ensures.0

pub add_entry-count-requires : goal.add_entry-count-requires
add_entry-count-requires c =
    let v = c.loop-left in
    λ _. taking_unlisted _ _ _ c.requires.1 _ _ v.invariant.1 _ c.lowest-q.ensures.0 (lowest_below _ v.invariant.0 c.loop-left-test.true c.lowest-q.ensures.0)

pub loop-left-smaller : goal.loop-left-smaller
loop-left-smaller c = lowest_out _ c.loop-left.invariant.0 c.loop-left-test.true c.lowest-q.ensures.0 c.without-left.ensures

pub loop-left-preserved : goal.loop-left-preserved
loop-left-preserved c =
    let v = c.loop-left in
    let less : c.without-left.result < v.left = lowest_out _ v.invariant.0 c.loop-left-test.true c.lowest-q.ensures.0 c.without-left.ensures in
    (omega (arith, v.invariant.0), taking_one _ _ _ c.requires.1 _ _ v.invariant.1 _ c.lowest-q.ensures.0 (lowest_below _ v.invariant.0 c.loop-left-test.true c.lowest-q.ensures.0) _ _ c.add_entry-count.ensures c.without-left.ensures)

pub returns : goal.returns
returns c =
    let v = c.loop-left in
    taking_all _ _ _ c.requires.1 _ _ v.invariant.1 c.loop-left-test.false
