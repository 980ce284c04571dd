-- By the sheet's answer. Assumes nothing.
use Rattle.std.proofs.Common.{ℕ, ◌∙◌, ap, eqb}
use Rattle.rules.specs.Tables.{pick}
use Rattle.totals.specs.Totals.{plus}
use Rattle.totals.proofs.Laws.{noted_ran, noted_refused}
use Rattle.totals.proofs.noted.Goals as goal

pub returns-in-Done : goal.returns-in-Done
returns-in-Done c = c.ran.ensures ∙ noted_ran c.args.t c.args.sheet c.in-Done.is

pub returns-in_default : goal.returns-in_default
returns-in_default c =
    let a = c.args in
    c.refused.ensures ∙ ap (λ (n : ℕ). plus a.t 0 1 (λ k. pick (eqb k n) 1 0) 0 (λ l. 0)) (c.from-in_default.ensures ∙ c.from.ensures) ∙ noted_refused a.t a.sheet c.in_default.not-Done
