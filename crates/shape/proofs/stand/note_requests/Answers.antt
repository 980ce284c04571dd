-- The requests passed are noted, in order. Assumes nothing.
use borrow.Author.Rules.{rules}
use mathlib.Core.Path.{◌≡◌, refl, sym, ◌∙◌}
use native.Mathlib.Omega.{arith}
use lib.ListN.{length}
use Rattle.shape.specs.Stand.{each_noted}
use Rattle.sums.proofs.Sums.{length_mapped}
use Rattle.shape.proofs.Noted.{each_more, each_stops, request_read}
use Rattle.shape.proofs.stand.note_requests.Goals as goal

pub loop-flight-init : goal.loop-flight-init
unfolding each_noted
loop-flight-init c = refl

pub loop-flight-preserved : goal.loop-flight-preserved
loop-flight-preserved c =
    let sizes : length c.args.flights ≡ 64 = search (rules, length_mapped) in
    let v = c.loop-flight in
    each_more _ _ _ v.standing v.invariant _ (request_read c.args.flights v.flight-index v.standing _ _ (omega arith) c.note_kind.ensures ∙ c.in_ok-standing.was)

pub returns-in_err-standing : goal.returns-in_err-standing
returns-in_err-standing c =
    let sizes : length c.args.flights ≡ 64 = search (rules, length_mapped) in
    let v = c.loop-flight in
    c.from_residual.ensures ∙ sym (each_stops _ _ _ v.standing v.invariant _ (omega arith) (request_read c.args.flights v.flight-index v.standing _ _ (omega arith) c.note_kind.ensures ∙ c.in_err-standing.was))
