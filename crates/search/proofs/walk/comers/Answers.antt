-- `comers` meets its contract. The loop's invariant: the first k sets are written, and the next one is at hand.
use mathlib.Core.Path.{◌≡◌, sym, ◌∙◌}
use native.Mathlib.Omega.{arith}
use native.Mathlib.Numerals.{add-one}
use Prim.Native.Nat.{ℕ}
use Rattle.search.specs.Numbers.{set_of}
use Rattle.search.specs.Waiting.{arc}
use Rattle.search.specs.Ways.{comes, comers}
use Rattle.search.proofs.Numbers.{set_below}
use Rattle.search.proofs.Walks.{begun_none, begun_more, begun_all, comers_first, comers_next}
use Rattle.search.proofs.walk.comers.Goals as goal

pub loop-after-init : goal.loop-after-init
loop-after-init c =
    let f : ℕ → ℕ = λ j. set_of 16 (comes (arc c.args.sets) c.args.p j) in
    (c.with-set.ensures ∙ comers_first (arc c.args.sets) c.args.p c.requires, sym (begun_none 17 f))

pub waiters-set-requires : goal.waiters-set-requires
waiters-set-requires c = rw c.loop-after.invariant.0 (set_below 16 _)

pub loop-after-preserved : goal.loop-after-preserved
loop-after-preserved c =
    let v = c.loop-after in
    let a = c.args in
    let f : ℕ → ℕ = λ j. set_of 16 (comes (arc a.sets) a.p j) in (
      c.waiters-set.ensures ∙ rw add-one (comers_next a.sets a.p v.after-index v.set v.invariant.0),
      rw (v.invariant.0, v.invariant.1, add-one) (begun_more 17 f v.after-index (omega arith)),
    )

pub returns : goal.returns
unfolding comers
returns c =
    let v = c.loop-after in
    let a = c.args in
    let e : v.after-index ≡ 17 = omega arith in
    rw e at v.invariant.1 ∙ begun_all 17 (λ j. set_of 16 (comes (arc a.sets) a.p j))
