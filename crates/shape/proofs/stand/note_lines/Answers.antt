-- The lines passed are noted, in order. Assumes nothing.
use borrow.Author.Rules.{rules}
use mathlib.Core.Path.{◌≡◌, refl, sym, ◌∙◌}
use native.Mathlib.Omega.{arith}
use lib.ListN.{length}
use Rattle.shape.specs.Stand.{each_noted}
use Rattle.sums.proofs.Sums.{length_mapped}
use Rattle.shape.proofs.Noted.{each_more, each_stops, line_read}
use Rattle.shape.proofs.stand.note_lines.Goals as goal

pub loop-book-init : goal.loop-book-init
unfolding each_noted
loop-book-init c = refl

pub loop-book-preserved : goal.loop-book-preserved
loop-book-preserved c =
    let sizes : length c.args.books ≡ 16 = search (rules, length_mapped) in
    let v = c.loop-book in
    each_more _ _ _ v.standing v.invariant _ (line_read c.args.books v.book-index v.standing _ _ (omega arith) c.note_row.ensures ∙ c.in_ok-standing.was)

pub returns-in_err-standing : goal.returns-in_err-standing
returns-in_err-standing c =
    let sizes : length c.args.books ≡ 16 = search (rules, length_mapped) in
    let v = c.loop-book in
    c.from_residual.ensures ∙ sym (each_stops _ _ _ v.standing v.invariant _ (omega arith) (line_read c.args.books v.book-index v.standing _ _ (omega arith) c.note_row.ensures ∙ c.in_err-standing.was))
