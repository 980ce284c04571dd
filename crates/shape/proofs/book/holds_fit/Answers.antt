-- The two sets have no number in common, where each lies below the count. Assumes nothing.
use mathlib.Core.Path.{sym, ◌∙◌}
use Rattle.rules.specs.Shape.{holds_fit}
use Rattle.rules.proofs.Tables.{true_not_false}
use Rattle.shape.proofs.Tests.{onward, set_below, disjoint}
use Rattle.shape.proofs.book.holds_fit.Goals as goal
use Rattle.shape.proofs.book.holds_fit.Goals.{then-set_fits, else-set_fits}

pub returns-then-set_fits-2 : goal.returns-then-set_fits-2
unfolding holds_fit
returns-then-set_fits-2 c = elim c.if-set_fits.branch [
  | then-set_fits w ↦
      let a = c.args in
      let shared = sym c.set_fits.ensures ∙ w.if-set_fits.true in
      onward _ _ _ shared (onward _ _ _ (sym w.set_fits-then-set_fits.ensures ∙ sym w.value-is ∙ c.if-set_fits-2.true) (disjoint a.shared a.exclusive (set_below a.shared a.c c.requires shared)))
  | else-set_fits w ↦ absurd (true_not_false (sym c.if-set_fits-2.true ∙ w.value-is ∙ w.if-set_fits.false))
]
