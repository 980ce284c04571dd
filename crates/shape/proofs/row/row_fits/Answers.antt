-- The marks of the places passed are all zero exactly where those places fit. Assumes nothing.
use borrow.Author.Rules.{rules}
use mathlib.Core.Path.{◌≡◌, refl, sym, ap, ◌∙◌}
use Prim.Native.Nat.{ℕ}
use native.Mathlib.Omega.{arith}
use lib.Dec.{ltb}
use lib.ListN.{length}
use Rattle.rules.specs.Tables.{pick, all}
use Rattle.rules.specs.Shape.{row_fits}
use Rattle.sums.proofs.Sums.{length_mapped, read_at}
use Rattle.shape.proofs.Tests.{gathered, all_next}
use Rattle.shape.proofs.row.row_fits.Goals as goal

pub loop-k-init : goal.loop-k-init
unfolding all
loop-k-init c = refl

pub loop-k-preserved : goal.loop-k-preserved
loop-k-preserved c =
    let a = c.args in
    let v = c.loop-k in
    let e = c.wide-end.ensures.0 in
    let sizes : length a.row ≡ 16 = search (rules, length_mapped) in
    let limit = c.limit_at.ensures ∙ ap (λ (n : ℕ). pick (ltb v.k n) a.c 1) e in
    let mark = c.over-wrong.ensures ∙ ap (λ (x : ℕ). pick (ltb x c.limit_at.result) 0 1) (read_at a.row v.k _ 0 (omega arith)) in
    gathered v.wrong c.over-wrong.result _ _ a.c _ (ltb v.k a.n) v.invariant mark limit ∙ sym (all_next v.k _)

pub returns : goal.returns
unfolding row_fits
returns c =
    let v = c.loop-k in
    let sizes : length c.args.row ≡ 16 = search (rules, length_mapped) in
    let e : v.k ≡ 16 = omega arith in
    rw e at v.invariant
