-- `along` meets its contract: no ring past the last process or where p does not come round in 16 waits, and otherwise the way round.
use mathlib.Core.Path.{◌≡◌, sym, ap, ◌∙◌}
use Prim.Native.Nat.{ℕ}
use native.Mathlib.Omega.{arith}
use Rattle.rules.specs.Lists.{ring_of}
use Rattle.search.specs.Waiting.{arc}
use Rattle.search.specs.Ways.{way, round}
use Rattle.search.proofs.Ways.{none_past, none_far, found_is, round_comes}
use Rattle.search.proofs.Walks.{round_told}
use Rattle.search.proofs.along.Goals as goal

pub returns-then-p-ge16 : goal.returns-then-p-ge16
returns-then-p-ge16 c = let a = c.args in c.no_ring.ensures ∙ sym (none_past (arc a.sets) a.p c.if-p-ge16.true)

pub way-requires : goal.way-requires
way-requires c =
    let a = c.args in
    let came = round_told (arc a.sets) a.p c.comers-comers.result c.in-Some.n c.if-p-ge16.false c.comers-comers.ensures c.in-Some.ensures.0 in
    (c.if-p-ge16.false, c.in-Some.ensures.1, c.comers-comers.ensures, rw came (round_comes (arc a.sets) a.p (rw came at c.in-Some.ensures.1)))

pub returns-in-Some : goal.returns-in-Some
returns-in-Some c =
    let a = c.args in
    let came = round_told (arc a.sets) a.p c.comers-comers.result c.in-Some.n c.if-p-ge16.false c.comers-comers.ensures c.in-Some.ensures.0 in
    c.way.ensures ∙ ap (λ (n : ℕ). ring_of (way (arc a.sets) a.p n a.p)) came ∙ sym (found_is (arc a.sets) a.p c.if-p-ge16.false (rw came at c.in-Some.ensures.1))

pub returns-in-None : goal.returns-in-None
returns-in-None c =
    let a = c.args in
    let far : 17 ≡ round (arc a.sets) a.p = round_told (arc a.sets) a.p c.comers-comers.result 17 c.if-p-ge16.false c.comers-comers.ensures (sym c.in-None.ensures) in
    c.no_ring-in-None.ensures ∙ sym (none_far (arc a.sets) a.p c.if-p-ge16.false (omega arith))
