-- Those passed are noted, in order. Assumes nothing.
use borrow.Author.Rules.{rules}
use mathlib.Core.Path.{◌≡◌, refl, sym, ◌∙◌}
use native.Mathlib.Omega.{arith}
use lib.ListN.{length}
use Rattle.std.proofs.lemmas.List.{length-take}
use Rattle.shape.specs.Stand.{each_noted}
use Rattle.sums.proofs.Sums.{length_mapped}
use Rattle.shape.proofs.Noted.{each_more, each_stops, place_read}
use Rattle.shape.proofs.stand.note_row.Goals as goal

pub loop-p-init : goal.loop-p-init
unfolding each_noted
loop-p-init c = refl

pub loop-p-preserved : goal.loop-p-preserved
loop-p-preserved c =
    let sizes : length c.args.row ≡ 16 = search (rules, length_mapped) in
    let taken = length-take c.wide.result c.args.row in
    let v = c.loop-p in
    each_more _ _ _ v.standing v.invariant _ (place_read c.args.row c.wide.result v.p-index _ v.standing _ (omega arith) (omega arith) c.note.ensures ∙ c.in_ok-standing.was)

pub returns-in_err-standing : goal.returns-in_err-standing
returns-in_err-standing c =
    let sizes : length c.args.row ≡ 16 = search (rules, length_mapped) in
    let taken = length-take c.wide.result c.args.row in
    let v = c.loop-p in
    c.from_residual.ensures ∙ sym (each_stops _ _ _ v.standing v.invariant _ (omega arith) (place_read c.args.row c.wide.result v.p-index _ v.standing _ (omega arith) (omega arith) c.note.ensures ∙ c.in_err-standing.was))
