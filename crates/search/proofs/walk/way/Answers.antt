-- `way` meets its contract. The loop's invariant: i of the way are written, and x goes on with the waits that are left.
use mathlib.Core.Path.{◌≡◌, ◌∙◌}
use mathlib.Core.Bool.{true}
use native.Mathlib.Omega.{arith}
use Prim.Native.Nat.{ℕ, suc, ◌+◌, ◌-◌}
use Rattle.search.specs.Waiting.{arc}
use Rattle.search.specs.Ways.{comes, next}
use Rattle.search.proofs.Walks.{walked_more, walked_all, next_lowest}
use Rattle.search.proofs.walk.way.Goals as goal

pub loop-i-preserved : goal.loop-i-preserved
loop-i-preserved c =
    let v = c.loop-i in
    let a = c.args in
    let left : ℕ = a.n - 1 - v.i in
    let z : a.n - v.i ≡ suc left = omega arith in
    let m : a.n - (v.i + 1) ≡ left = omega arith in
    let e : comes (arc a.sets) a.p (suc left) v.x ≡ true = rw z at v.invariant.on in
    let goes_on : c.lowest-x.result ≡ next (arc a.sets) a.p left v.x = c.lowest-x.ensures.0 ∙ rw (c.wide.ensures.0, c.requires.2) (next_lowest a.sets a.p left v.x (omega arith) e) in
    rw m (walked_more (arc a.sets) a.p a.n v.processes v.i (a.n - v.i) left v.x _ (omega arith) z v.invariant goes_on)

pub returns : goal.returns
returns c =
    let v = c.loop-i in
    let a = c.args in
    walked_all (arc a.sets) a.p a.n v.processes v.i (a.n - v.i) v.x (omega arith) v.invariant
