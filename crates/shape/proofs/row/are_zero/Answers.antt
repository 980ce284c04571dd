-- The places passed are all zero exactly where what was gathered is. Assumes nothing.
use borrow.Author.Rules.{rules}
use mathlib.Core.Path.{◌≡◌, refl, sym, ◌∙◌}
use native.Mathlib.Omega.{arith}
use lib.Dec.{eqb}
use lib.ListN.{length, get_or}
use mathlib.Core.Bool.{Bool, true, false, ◌&&◌}
use Rattle.rules.specs.Tables.{all}
use Rattle.sums.proofs.Sums.{length_mapped}
use Rattle.shape.proofs.Tests.{zero_more, zero_rows}
use Rattle.shape.proofs.row.are_zero.Goals as goal

both_true : (t : Bool) → t && true ≡ t
both_true true = refl
both_true false = refl

pub loop-x-init : goal.loop-x-init
unfolding all
loop-x-init c = refl

pub loop-x-preserved : goal.loop-x-preserved
loop-x-preserved c =
    let v = c.loop-x in
    let sizes : length c.args.row ≡ 16 = search (rules, length_mapped) in
    zero_more true v.any v.x-index _ c.args.row (omega arith) v.invariant

pub loop-y-init : goal.loop-y-init
unfolding all
loop-y-init c =
    let v = c.loop-x in
    let e : v.x-index ≡ 16 = omega arith in
    rw e at v.invariant ∙ sym (both_true _)

pub loop-y-preserved : goal.loop-y-preserved
loop-y-preserved c =
    let v = c.loop-y in
    let sizes : length c.args.other ≡ 16 = search (rules, length_mapped) in
    zero_more (all 16 (λ j. eqb (get_or c.args.row j 0) 0)) v.any v.y-index _ c.args.other (omega arith) v.invariant

pub returns : goal.returns
returns c =
    let v = c.loop-y in
    let sizes : length c.args.other ≡ 16 = search (rules, length_mapped) in
    let e : v.y-index ≡ 16 = omega arith in
    (rw e at v.invariant) ∙ zero_rows c.args.row c.args.other
