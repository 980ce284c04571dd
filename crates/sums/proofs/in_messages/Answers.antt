-- The load of the messages passed.
use Rattle.std.proofs.Common.{◌≡◌, ◌∙◌, ap, rules, arith, length}
use Rattle.std.proofs.lemmas.List.{get_or_default}
use Rattle.rules.specs.declared.Flight.{Flight}
use Rattle.rules.specs.Board.{kind_load, kind_at}
use Rattle.sums.proofs.Sums.{sum_more, sum_none, length_mapped}
use Rattle.sums.proofs.in_messages.Goals as goal

pub loop-flight-init : goal.loop-flight-init
loop-flight-init c = (omega arith, sum_none _)

pub loop-flight-preserved : goal.loop-flight-preserved
loop-flight-preserved c =
    let a = c.args.b in
    let v = c.loop-flight in
    let sizes : length a.flights ≡ 64 = search (rules, length_mapped) in
    let one : c.kind_load-load.result ≡ kind_load (kind_at a v.flight-index) = c.kind_load-load.ensures.0 ∙ ap (λ (f : Flight). kind_load f.kind) (get_or_default a.flights v.flight-index _ _ (omega arith)) in
    (omega (arith, v.invariant.0, c.kind_load-load.ensures.1), sum_more v.load v.flight-index c.kind_load-load.result _ v.invariant.1 one)
