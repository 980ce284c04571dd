-- A sheet that the stream ended in is counted as cut off. Assumes nothing.
use Rattle.std.proofs.Common.{ap, ◌∙◌, inl, inr}
use Rattle.totals.specs.Totals.{came, noted}
use Rattle.term.specs.Feed.{closed, end_at}
use Rattle.term.proofs.Laws.{ended_at}
use Rattle.term.proofs.ended.Goals as goal

pub returns-in-Between : goal.returns-in-Between
unfolding end_at
returns-in-Between c = elim c.in-Between.is [ inl e ↦ ended_at c.args.c _ e | inr e ↦ ended_at c.args.c _ e ]

pub returns-in-Length : goal.returns-in-Length
unfolding end_at came
returns-in-Length c =
    let t = c.args.c.totals in
    ap closed (c.noted-totals.ensures ∙ ap (noted t) c.refused_as.ensures)
    ∙ elim c.in-Length.is [ inl e ↦ ended_at c.args.c _ e.1 | inr e ↦ ended_at c.args.c _ e.2 ]
