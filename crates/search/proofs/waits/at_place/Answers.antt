-- `at_place` meets its contract. The loop's invariant: the set has those that p would wait for at place j.
use borrow.Author.Rules.{rules}
use mathlib.Core.Path.{◌≡◌, sym, ap, ◌∙◌}
use mathlib.Core.Bool.{not, ◌&&◌}
use mathlib.Core.List.{List}
use Prim.Native.Nat.{ℕ, ◌<◌}
use native.Mathlib.Omega.{arith}
use native.Mathlib.Numerals.{add-one}
use lib.Dec.{eqb}
use lib.ListN.{length, get_or, take}
use Rattle.std.proofs.lemmas.List.{get_or-take, length-take}
use Rattle.rules.specs.Book.{conflict, mode_at}
use Rattle.sums.proofs.Sums.{read_at, length_mapped}
use Rattle.search.proofs.Sets.{waited_first, waited_past, waited_clear, waited_more}
use Rattle.search.proofs.waits.at_place.Goals as goal
use Rattle.search.proofs.waits.at_place.Goals.{then-q-lt16+then-bars, else-q-lt16, else-q-lt16-via-then-q-lt16+else-bars, else-q-lt16-via-else-q-lt16}

-- the number at a place of the line, as it is read
stands : (line : List ℕ) (n k d : ℕ) → k < length (take n line) → k < n → get_or line k 0 ≡ get_or (take n line) k d
stands line n k d h l = sym (read_at (take n line) k d 0 h ∙ get_or-take n line k 0 l)

pub loop-j-init : goal.loop-j-init
loop-j-init c = waited_first c.args.o c.args.p c.args.m _ c.rivals-set.ensures

pub loop-j-preserved : goal.loop-j-preserved
loop-j-preserved c =
    let v = c.loop-j in
    let a = c.args in
    let sizes : length a.o.line ≡ 16 = search (rules, length_mapped) in
    let long = length-take c.wide.result a.o.line in
    let ahead : v.j < c.wide.result = omega arith in
    let answer = λ (q : ℕ). not (eqb q a.p) && conflict a.m (mode_at a.o v.j) in
    elim c.if-q-lt16.branch [
      | then-q-lt16+then-bars w ↦
          let s = stands a.o.line c.wide.result v.j _ (omega arith) ahead in
          rw (add-one, w.set-is, w.with-set.ensures) (waited_more a.o a.p a.m v.j _ v.invariant _ s w.if-q-lt16.true (ap answer s ∙ sym w.bars.ensures ∙ w.if-bars.true))
      | else-q-lt16 w ↦ elim w.else-q-lt16.branch [
        | else-q-lt16-via-then-q-lt16+else-bars u ↦
            let s = stands a.o.line c.wide.result v.j _ (omega arith) ahead in
            rw (add-one, w.set-is) (waited_clear a.o a.p a.m v.j _ v.invariant (ap answer s ∙ sym u.bars.ensures ∙ u.if-bars.false))
        | else-q-lt16-via-else-q-lt16 u ↦
            let s = stands a.o.line c.wide.result v.j _ (omega arith) ahead in
            rw (add-one, w.set-is) (waited_past a.o a.p a.m v.j _ v.invariant (rw s u.if-q-lt16.false))
      ]
    ]
