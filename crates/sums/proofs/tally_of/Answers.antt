-- A place counts or does not.
use Rattle.std.proofs.Common.{sym, ◌∙◌, arith}
use Rattle.rules.specs.Board.{counts}
use Rattle.sums.proofs.Sums.{sum_none, count_more, count_same}
use Rattle.sums.proofs.tally_of.Goals as goal
use Rattle.sums.proofs.tally_of.Goals.{then-counts, else-counts}

pub loop-s-init : goal.loop-s-init
loop-s-init c = (omega arith, sum_none _)

pub loop-s-preserved : goal.loop-s-preserved
loop-s-preserved c =
    let v = c.loop-s in
    elim c.if-counts.branch [
      | then-counts w ↦ (omega (arith, v.invariant.0), w.tally-is ∙ count_more v.tally v.s (counts c.args.rings) v.invariant.1 (sym c.counts.ensures ∙ w.if-counts.true))
      | else-counts w ↦ (omega (arith, v.invariant.0), w.tally-is ∙ count_same v.tally v.s (counts c.args.rings) v.invariant.1 (sym c.counts.ensures ∙ w.if-counts.false))
    ]
