-- Those already listed are marked. A process that does not stand in the line adds nobody.
use Rattle.std.proofs.Common.{rules}
use Rattle.lists.proofs.Gathering.{marks_next, of_rows}
use Rattle.lists.proofs.Waited.{grown_inside, grown_outside}
use Rattle.lists.proofs.grown.Goals as goal
use Rattle.lists.proofs.grown.Goals.{then-k-o, else-k-o}

pub add_waited-count-requires : goal.add_waited-count-requires
add_waited-count-requires c = (search rules, marks_next c.args.l 0 c.listed.ensures)

pub returns : goal.returns
returns c =
    let a = c.args in
    elim c.if-k-o.branch [
      | then-k-o w ↦ let e = w.asked_at.ensures in
          rw (w.rows-is, w.count-is) (grown_inside a.l a.o _ a.k _ e.1 e.2 w.if-k-o.true _ _ e.0 e.3 _ (of_rows a.l a.l.next _ _ _ w.add_waited-count.ensures))
      | else-k-o w ↦ rw (w.rows-is, w.count-is) (grown_outside a.l a.o a.k w.if-k-o.false)
    ]
