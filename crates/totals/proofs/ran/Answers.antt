-- Ran, with its rings, and nothing else. Assumes nothing.
use Rattle.std.proofs.Common.{◌∙◌, arith, rules}
use Rattle.rules.specs.Board.{tally_of}
use Rattle.totals.proofs.Laws.{none_more, none_more_at, made_alike, one_more_some, none_more_none}
use Rattle.totals.proofs.ran.Goals as goal
use Rattle.totals.proofs.ran.Goals.{then-ringed, else-ringed}

pub returns : goal.returns
returns c =
    let t = c.args.t in
    made_alike
    c.one_more.ensures
    c.one_more-2.ensures
    (none_more t.refused)
    (none_more_at t.refused_with (search rules))
    (elim c.if-ringed.branch [
      | then-ringed w ↦ w.result-is ∙ w.one_more-then-ringed.ensures ∙ one_more_some t.ringed (tally_of c.args.recorded) (omega arith)
      | else-ringed w ↦ w.result-is ∙ none_more_none t.ringed (tally_of c.args.recorded) (omega arith)
    ])
    c.with_rings.ensures
