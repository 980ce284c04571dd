-- The lengths of the lines passed.
use Rattle.std.proofs.Common.{◌≡◌, ◌∙◌, ◌<◌, ap, rules, arith, length}
use Rattle.std.proofs.lemmas.List.{get_or_default}
use Rattle.rules.specs.declared.Object.{Object}
use Rattle.rules.specs.Board.{object_at}
use Rattle.sums.proofs.Sums.{sum_more, sum_none, length_mapped}
use Rattle.sums.proofs.in_lines.Goals as goal

pub loop-object-init : goal.loop-object-init
loop-object-init c = (omega arith, sum_none _)

pub loop-object-preserved : goal.loop-object-preserved
loop-object-preserved c =
    let a = c.args.b in
    let v = c.loop-object in
    let sizes : length a.objects ≡ 16 = search (rules, length_mapped) in
    let one : c.from-load.result ≡ (object_at a v.object-index).line_count = c.from-load.ensures ∙ ap (λ (x : Object). x.line_count) (get_or_default a.objects v.object-index _ _ (omega arith)) in
    let small : c.from-load.result < 256 = search rules in
    (omega (arith, v.invariant.0, small), sum_more v.load v.object-index c.from-load.result _ v.invariant.1 one)
