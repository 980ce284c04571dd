-- Too long, or the run of what the buffer holds. Assumes nothing.
use Rattle.std.proofs.Common.{ap, sym, ◌∙◌, rules}
use Rattle.totals.specs.Totals.{ran_to, came}
use Rattle.term.proofs.Laws.{sized_long, sized_whole}
use Rattle.term.proofs.came.Goals as goal

pub returns-then-held-gt8206 : goal.returns-then-held-gt8206
unfolding came
returns-then-held-gt8206 c = c.refused_as.ensures ∙ ap came (sym (sized_long c.args.held c.args.sheet.now (search rules)))

pub returns : goal.returns
unfolding came
returns c =
    let a = c.args in
    ap ran_to c.run-ran.ensures.0 ∙ ap came (sym (sized_whole a.held a.sheet.now (search rules)))
