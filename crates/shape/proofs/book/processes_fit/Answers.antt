-- Every process passed fits. Assumes nothing.
use borrow.Author.Rules.{rules}
use mathlib.Core.Path.{◌≡◌, refl, ap}
use native.Mathlib.Omega.{arith}
use mathlib.Core.Bool.{not}
use lib.ListN.{length, get_or}
use Rattle.rules.specs.Tables.{all}
use Rattle.sums.proofs.Sums.{length_mapped}
use Rattle.shape.proofs.Tests.{ends_table, goes_on, read_fits}
use Rattle.rules.specs.Board.{no_process}
use Rattle.rules.specs.Shape.{process_fits, up_to}
use Rattle.shape.proofs.book.processes_fit.Goals as goal

pub loop-p-init : goal.loop-p-init
unfolding all
loop-p-init c = refl

pub returns-then-not-process_fits : goal.returns-then-not-process_fits
returns-then-not-process_fits c =
    let sizes : length c.args.books ≡ 16 = search (rules, length_mapped) in
    let one : c.process_fits.result ≡ process_fits (get_or c.args.books c.loop-p.p no_process) (up_to c.loop-p.p c.args.pc c.args.oc) = let a = c.args in
    let v = c.loop-p in
    let l = sizes in
    read_fits process_fits a.books v.p _ _ _ _ _ _ _ (omega arith) c.process_fits.ensures c.up_to.ensures c.wide-end.ensures.0 in
    let v = c.loop-p in
    ends_table 16 v.p _ _ (omega arith) (one) (ap not c.if-not-process_fits.true)

pub loop-p-preserved : goal.loop-p-preserved
loop-p-preserved c =
    let sizes : length c.args.books ≡ 16 = search (rules, length_mapped) in
    let one : c.process_fits.result ≡ process_fits (get_or c.args.books c.loop-p.p no_process) (up_to c.loop-p.p c.args.pc c.args.oc) = let a = c.args in
    let v = c.loop-p in
    let l = sizes in
    read_fits process_fits a.books v.p _ _ _ _ _ _ _ (omega arith) c.process_fits.ensures c.up_to.ensures c.wide-end.ensures.0 in
    let v = c.loop-p in
    goes_on v.p _ _ v.invariant (one) (ap not c.if-not-process_fits.false)
