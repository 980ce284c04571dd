-- `round` meets its contract. The loop's invariant: p has not come round in fewer than k waits.
use mathlib.Core.Path.{sym, ◌∙◌}
use native.Mathlib.Omega.{arith}
use lib.ListN.{get_or}
use Rattle.rules.specs.Bits.{taken}
use Rattle.search.proofs.Walks.{round_here, round_none}
use Rattle.search.proofs.walk.round.Goals as goal

pub returns-then-has : goal.returns-then-has
returns-then-has c =
    let v = c.loop-k in
    let a = c.args in
    (round_here (λ k. taken (get_or a.comers k 0) a.p) v.k (omega arith) (omega arith) v.invariant (sym c.has.ensures ∙ c.if-has.true), omega arith)

pub returns : goal.returns
returns c =
    let v = c.loop-k in
    let a = c.args in
    sym (round_none (λ k. taken (get_or a.comers k 0) a.p) v.k (omega arith) v.invariant)
