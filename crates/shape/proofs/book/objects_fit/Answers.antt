-- Every object passed fits. Assumes nothing.
use borrow.Author.Rules.{rules}
use mathlib.Core.Path.{◌≡◌, refl, ap}
use native.Mathlib.Omega.{arith}
use mathlib.Core.Bool.{not}
use lib.ListN.{length, get_or}
use Rattle.rules.specs.Tables.{all}
use Rattle.sums.proofs.Sums.{length_mapped}
use Rattle.shape.proofs.Tests.{ends_table, goes_on, read_fits}
use Rattle.rules.specs.Board.{no_object}
use Rattle.rules.specs.Shape.{object_fits, up_to}
use Rattle.shape.proofs.book.objects_fit.Goals as goal

pub loop-o-init : goal.loop-o-init
unfolding all
loop-o-init c = refl

pub returns-then-not-object_fits : goal.returns-then-not-object_fits
returns-then-not-object_fits c =
    let sizes : length c.args.books ≡ 16 = search (rules, length_mapped) in
    let one : c.object_fits.result ≡ object_fits (get_or c.args.books c.loop-o.o no_object) (up_to c.loop-o.o c.args.oc c.args.pc) = let a = c.args in
    let v = c.loop-o in
    let l = sizes in
    read_fits object_fits a.books v.o _ _ _ _ _ _ _ (omega arith) c.object_fits.ensures c.up_to.ensures c.wide-end.ensures.0 in
    let v = c.loop-o in
    ends_table 16 v.o _ _ (omega arith) (one) (ap not c.if-not-object_fits.true)

pub loop-o-preserved : goal.loop-o-preserved
loop-o-preserved c =
    let sizes : length c.args.books ≡ 16 = search (rules, length_mapped) in
    let one : c.object_fits.result ≡ object_fits (get_or c.args.books c.loop-o.o no_object) (up_to c.loop-o.o c.args.oc c.args.pc) = let a = c.args in
    let v = c.loop-o in
    let l = sizes in
    read_fits object_fits a.books v.o _ _ _ _ _ _ _ (omega arith) c.object_fits.ensures c.up_to.ensures c.wide-end.ensures.0 in
    let v = c.loop-o in
    goes_on v.o _ _ v.invariant (one) (ap not c.if-not-object_fits.false)
