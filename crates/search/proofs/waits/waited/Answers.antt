-- `waited` meets its contract. The loop's invariant: the set has those that p waits for in the lines of the first objects.
use mathlib.Core.Path.{◌≡◌}
use native.Mathlib.Omega.{arith}
use native.Mathlib.Numerals.{add-one}
use lib.ListN.{length}
use Rattle.rules.specs.Board.{no_object, object_at}
use Rattle.sums.proofs.Sums.{read_at, length_mapped}
use Rattle.search.specs.Waiting.{waits_in, waits_for}
use Rattle.search.proofs.Sets.{gathered_none, gathered_more}
use borrow.Author.Rules.{rules}
use Rattle.search.proofs.waits.waited.Goals as goal

pub loop-object-init : goal.loop-object-init
loop-object-init c = let a = c.args in gathered_none (λ i q. waits_in (object_at a.b i) a.p q)

pub loop-object-preserved : goal.loop-object-preserved
loop-object-preserved c =
    let sizes : length c.args.b.objects ≡ 16 = search (rules, length_mapped) in
    let a = c.args in
    let v = c.loop-object in
    rw add-one (gathered_more (λ i q. waits_in (object_at a.b i) a.p q) v.object-index _ v.invariant _ (rw (read_at a.b.objects v.object-index _ no_object (omega arith)) at c.in_line-set.ensures))

pub returns : goal.returns
unfolding waits_for
returns c =
    let v = c.loop-object in
    let sizes : length c.args.b.objects ≡ 16 = search (rules, length_mapped) in
    let e : v.object-index ≡ 16 = omega arith in
    rw e at v.invariant
