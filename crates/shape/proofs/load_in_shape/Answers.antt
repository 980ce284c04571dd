-- Clause after clause; the load last. Assumes nothing.
use mathlib.Core.Path.{◌≡◌, ◌∙◌, sym, ap}
use mathlib.Core.Bool.{true, ◌&&◌}
use Prim.Native.Nat.{ℕ}
use lib.Dec.{leb}
use Rattle.std.specs.Bool.{then_some}
use Rattle.rules.specs.Shape.{counts_fit, message_fits}
use Rattle.shape.proofs.Noted.{once_each}
use Rattle.shape.proofs.Clauses.{asked, not_asked, processes_fit, objects_fit, messages_fit, rings_fit, stand_once, tables_fit, ready, chain, out_of_shape, load_handed}
use Rattle.shape.proofs.load_in_shape.Goals as goal
use Rattle.shape.proofs.load_in_shape.Goals.{then-counts_fit, else-counts_fit, then-processes_fit, else-processes_fit, then-objects_fit, else-objects_fit, then-messages_fit, else-messages_fit, then-tables_fit, else-tables_fit}

pub stand_once-fits-requires : goal.stand_once-fits-requires
unfolding counts_fit message_fits
stand_once-fits-requires c =
    let b = c.args.b in
    let e2 : c.if-counts_fit.value ≡ c.counts_fit.result && processes_fit b = elim c.if-counts_fit.branch [
      | then-counts_fit w ↦ asked _ _ _ _ w.if-counts_fit.true w.value-is w.processes_fit.ensures
      | else-counts_fit w ↦ not_asked _ _ _ w.if-counts_fit.false w.value-is
    ] in
    let e3 : c.if-processes_fit.value ≡ c.if-counts_fit.value && objects_fit b = elim c.if-processes_fit.branch [
      | then-processes_fit w ↦ asked _ _ _ _ w.if-processes_fit.true w.value-is w.objects_fit.ensures
      | else-processes_fit w ↦ not_asked _ _ _ w.if-processes_fit.false w.value-is
    ] in
    let e4 : c.if-objects_fit.value ≡ c.if-processes_fit.value && messages_fit b = elim c.if-objects_fit.branch [
      | then-objects_fit w ↦ asked _ _ _ _ w.if-objects_fit.true w.value-is w.messages_fit.ensures
      | else-objects_fit w ↦ not_asked _ _ _ w.if-objects_fit.false w.value-is
    ] in
    let e5 : c.if-messages_fit.tables_fit ≡ c.if-objects_fit.value && rings_fit b = elim c.if-messages_fit.branch [
      | then-messages_fit w ↦ asked _ _ _ _ w.if-messages_fit.true w.tables_fit-is w.rings_fit-tables_fit.ensures
      | else-messages_fit w ↦ not_asked _ _ _ w.if-messages_fit.false w.tables_fit-is
    ] in
    ready b _ _ _ _ _ c.counts_fit.ensures e2 e3 e4 e5 c.if-tables_fit.true

pub returns-then-not-fits : goal.returns-then-not-fits
unfolding counts_fit message_fits
returns-then-not-fits c =
    let b = c.args.b in
    let e2 : c.if-counts_fit.value ≡ c.counts_fit.result && processes_fit b = elim c.if-counts_fit.branch [
      | then-counts_fit w ↦ asked _ _ _ _ w.if-counts_fit.true w.value-is w.processes_fit.ensures
      | else-counts_fit w ↦ not_asked _ _ _ w.if-counts_fit.false w.value-is
    ] in
    let e3 : c.if-processes_fit.value ≡ c.if-counts_fit.value && objects_fit b = elim c.if-processes_fit.branch [
      | then-processes_fit w ↦ asked _ _ _ _ w.if-processes_fit.true w.value-is w.objects_fit.ensures
      | else-processes_fit w ↦ not_asked _ _ _ w.if-processes_fit.false w.value-is
    ] in
    let e4 : c.if-objects_fit.value ≡ c.if-processes_fit.value && messages_fit b = elim c.if-objects_fit.branch [
      | then-objects_fit w ↦ asked _ _ _ _ w.if-objects_fit.true w.value-is w.messages_fit.ensures
      | else-objects_fit w ↦ not_asked _ _ _ w.if-objects_fit.false w.value-is
    ] in
    let e5 : c.if-messages_fit.tables_fit ≡ c.if-objects_fit.value && rings_fit b = elim c.if-messages_fit.branch [
      | then-messages_fit w ↦ asked _ _ _ _ w.if-messages_fit.true w.tables_fit-is w.rings_fit-tables_fit.ensures
      | else-messages_fit w ↦ not_asked _ _ _ w.if-messages_fit.false w.tables_fit-is
    ] in
    let e6 : c.if-tables_fit.fits ≡ c.if-messages_fit.tables_fit && stand_once b = elim c.if-tables_fit.branch [
      | then-tables_fit w ↦ let r = ready b _ _ _ _ _ c.counts_fit.ensures e2 e3 e4 e5 w.if-tables_fit.true in asked _ _ _ _ w.if-tables_fit.true w.fits-is (w.stand_once-fits.ensures ∙ once_each b r.0 r.1)
      | else-tables_fit w ↦ not_asked _ _ _ w.if-tables_fit.false w.fits-is
    ] in
    out_of_shape b (sym (chain b _ _ _ _ _ c.counts_fit.ensures e2 e3 e4 e5 _ e6) ∙ c.if-not-fits.true)

pub returns : goal.returns
unfolding counts_fit message_fits
returns c =
    let b = c.args.b in
    let e2 : c.if-counts_fit.value ≡ c.counts_fit.result && processes_fit b = elim c.if-counts_fit.branch [
      | then-counts_fit w ↦ asked _ _ _ _ w.if-counts_fit.true w.value-is w.processes_fit.ensures
      | else-counts_fit w ↦ not_asked _ _ _ w.if-counts_fit.false w.value-is
    ] in
    let e3 : c.if-processes_fit.value ≡ c.if-counts_fit.value && objects_fit b = elim c.if-processes_fit.branch [
      | then-processes_fit w ↦ asked _ _ _ _ w.if-processes_fit.true w.value-is w.objects_fit.ensures
      | else-processes_fit w ↦ not_asked _ _ _ w.if-processes_fit.false w.value-is
    ] in
    let e4 : c.if-objects_fit.value ≡ c.if-processes_fit.value && messages_fit b = elim c.if-objects_fit.branch [
      | then-objects_fit w ↦ asked _ _ _ _ w.if-objects_fit.true w.value-is w.messages_fit.ensures
      | else-objects_fit w ↦ not_asked _ _ _ w.if-objects_fit.false w.value-is
    ] in
    let e5 : c.if-messages_fit.tables_fit ≡ c.if-objects_fit.value && rings_fit b = elim c.if-messages_fit.branch [
      | then-messages_fit w ↦ asked _ _ _ _ w.if-messages_fit.true w.tables_fit-is w.rings_fit-tables_fit.ensures
      | else-messages_fit w ↦ not_asked _ _ _ w.if-messages_fit.false w.tables_fit-is
    ] in
    let e6 : c.if-tables_fit.fits ≡ c.if-messages_fit.tables_fit && stand_once b = elim c.if-tables_fit.branch [
      | then-tables_fit w ↦ let r = ready b _ _ _ _ _ c.counts_fit.ensures e2 e3 e4 e5 w.if-tables_fit.true in asked _ _ _ _ w.if-tables_fit.true w.fits-is (w.stand_once-fits.ensures ∙ once_each b r.0 r.1)
      | else-tables_fit w ↦ not_asked _ _ _ w.if-tables_fit.false w.fits-is
    ] in
    let fits : tables_fit b ≡ true = sym (chain b _ _ _ _ _ c.counts_fit.ensures e2 e3 e4 e5 _ e6) ∙ c.if-not-fits.false in
    c.then_some.ensures ∙ ap (λ (n : ℕ). then_some (leb n 64) n) c.load-load.ensures.0 ∙ load_handed b fits
