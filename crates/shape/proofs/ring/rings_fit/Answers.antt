-- Every ring passed fits. Assumes nothing.
use borrow.Author.Rules.{rules}
use mathlib.Core.Path.{◌≡◌, refl, ap, ◌∙◌}
use native.Mathlib.Omega.{arith}
use mathlib.Core.Bool.{not}
use lib.ListN.{length, get_or}
use Rattle.rules.specs.Tables.{all}
use Rattle.sums.proofs.Sums.{read_at, length_mapped}
use Rattle.shape.proofs.Tests.{ends_table, goes_on}
use Rattle.rules.specs.declared.Ring.{Ring}
use Rattle.rules.specs.Lists.{no_ring}
use Rattle.rules.specs.Shape.{ring_fits}
use Rattle.shape.proofs.ring.rings_fit.Goals as goal

pub loop-s-init : goal.loop-s-init
unfolding all
loop-s-init c = refl

pub returns-then-not-ring_fits : goal.returns-then-not-ring_fits
returns-then-not-ring_fits c =
    let sizes : length c.args.rings ≡ 16 = search (rules, length_mapped) in
    let one : c.ring_fits.result ≡ ring_fits (get_or c.args.rings c.loop-s.s no_ring) c.loop-s.s c.args.pc = let a = c.args in
    let v = c.loop-s in
    let l = sizes in
    c.ring_fits.ensures ∙ ap (λ (r : Ring). ring_fits r v.s a.pc) (read_at a.rings v.s _ _ (omega arith)) in
    let v = c.loop-s in
    ends_table 16 v.s _ _ (omega arith) (one) (ap not c.if-not-ring_fits.true)

pub loop-s-preserved : goal.loop-s-preserved
loop-s-preserved c =
    let sizes : length c.args.rings ≡ 16 = search (rules, length_mapped) in
    let one : c.ring_fits.result ≡ ring_fits (get_or c.args.rings c.loop-s.s no_ring) c.loop-s.s c.args.pc = let a = c.args in
    let v = c.loop-s in
    let l = sizes in
    c.ring_fits.ensures ∙ ap (λ (r : Ring). ring_fits r v.s a.pc) (read_at a.rings v.s _ _ (omega arith)) in
    let v = c.loop-s in
    goes_on v.s _ _ v.invariant (one) (ap not c.if-not-ring_fits.false)
