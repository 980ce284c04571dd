-- The marks of the places passed are all zero exactly where their leads fit. Assumes nothing.
use borrow.Author.Rules.{rules}
use mathlib.Core.Path.{◌≡◌, refl, sym, ap, ◌∙◌}
use Prim.Native.Nat.{ℕ}
use native.Mathlib.Omega.{arith}
use lib.Dec.{ltb}
use lib.ListN.{length}
use mathlib.Core.Bool.{◌&&◌}
use Rattle.rules.specs.Tables.{pick, all}
use Rattle.sums.proofs.Sums.{length_mapped, read_at}
use Rattle.shape.proofs.Tests.{gathered, all_next}
use Rattle.shape.proofs.message.leads_fit.Goals as goal

pub loop-k-init : goal.loop-k-init
unfolding all
loop-k-init c = refl

pub loop-k-preserved : goal.loop-k-preserved
loop-k-preserved c =
    let a = c.args.l in
    let v = c.loop-k in
    let sizes : length a.leads ≡ 16 = search (rules, length_mapped) in
    let mark = c.over-wrong.ensures ∙ ap (λ (x : ℕ). pick (ltb x c.lead_limit.result) 0 1) (read_at a.leads v.k _ 0 (omega arith)) in
    gathered v.wrong c.over-wrong.result _ _ v.k _ (ltb 0 v.k && ltb v.k a.count) v.invariant mark c.lead_limit.ensures ∙ sym (all_next v.k _)

pub returns : goal.returns
returns c =
    let v = c.loop-k in
    let sizes : length c.args.l.leads ≡ 16 = search (rules, length_mapped) in
    let e : v.k ≡ 16 = omega arith in
    rw e at v.invariant
