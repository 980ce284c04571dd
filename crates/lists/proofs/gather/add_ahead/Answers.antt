-- One who bars and is not marked is added; nobody else changes the list.
use Rattle.std.proofs.Common.{◌≡◌, sym, ◌∙◌, arith}
use Rattle.rules.specs.Book.{ahead}
use Rattle.lists.proofs.Turns.{barred_passes, barred_not, gathered_none, gathered_fails, gathered_marked, gathered_unlisted, gathered_one}
use Rattle.lists.proofs.gather.add_ahead.Goals as goal
use Rattle.lists.proofs.gather.add_ahead.Goals.{then-is_barred+then-not-has, else-is_barred, else-is_barred-via-then-is_barred+else-not-has, else-is_barred-via-else-is_barred}

pub loop-i-init : goal.loop-i-init
loop-i-init c = gathered_none _ _ _ _ _ c.requires.0 c.requires.1

pub add_entry-count-requires : goal.add_entry-count-requires
add_entry-count-requires c =
    let a = c.args.at in
    let here = barred_passes a.book a.process a.mode c.wide-ahead.result c.loop-i.i c.loop-i-test.true c.is_barred.ensures a.in_range.0 c.if-is_barred.true in
    gathered_unlisted _ _ _ _ _ _ _ c.loop-i.invariant _ here (sym c.has.ensures ∙ c.if-not-has.true)

pub loop-i-preserved : goal.loop-i-preserved
loop-i-preserved c =
    let a = c.args.at in
    let v = c.loop-i.invariant in
    let here = barred_passes a.book a.process a.mode c.wide-ahead.result c.loop-i.i c.loop-i-test.true c.is_barred.ensures a.in_range.0 in
    elim c.if-is_barred.branch [
      | then-is_barred+then-not-has w ↦ rw (w.rows-is, w.count-is, w.seen-is) (gathered_one _ _ _ _ _ _ _ v _ (here w.if-is_barred.true) _ _ w.add_entry-count.ensures w.with-seen.ensures)
      | else-is_barred w ↦ rw (w.rows-is, w.count-is, w.seen-is) (elim w.else-is_barred.branch [
        | else-is_barred-via-then-is_barred+else-not-has x ↦ gathered_marked _ _ _ _ _ _ _ v _ (here x.if-is_barred.true) (sym x.has.ensures ∙ x.if-not-has.false)
        | else-is_barred-via-else-is_barred x ↦ gathered_fails _ _ _ _ _ _ _ v (barred_not a.book a.process a.mode _ _ c.loop-i-test.true c.is_barred.ensures x.if-is_barred.false)
      ])
    ]

pub returns : goal.returns
unfolding ahead
returns c =
    let v = c.loop-i in
    let e : v.i ≡ c.args.at.place = omega (arith, c.wide-ahead.ensures.0, c.args.at.in_range.0.size, c.args.at.in_range.2) in
    rw e at v.invariant.is
