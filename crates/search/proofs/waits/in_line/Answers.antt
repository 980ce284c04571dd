-- `in_line` meets its contract. The loop's invariant: the set has those that p waits for at the first places.
use borrow.Author.Rules.{rules}
use mathlib.Core.Path.{◌≡◌, sym, ◌∙◌}
use Prim.Native.Nat.{ℕ}
use native.Mathlib.Omega.{arith}
use native.Mathlib.Numerals.{add-one}
use lib.ListN.{length}
use Rattle.sums.proofs.Sums.{read_at, length_mapped}
use Rattle.search.specs.Waiting.{waits_at, waits_in}
use Rattle.search.proofs.Sets.{gathered_none, gathered_pass, gathered_more, stands_past, stands_other, stands_here}
use Rattle.search.proofs.waits.in_line.Goals as goal
use Rattle.search.proofs.waits.in_line.Goals.{then-k-o+then-q-p, else-k-o, else-k-o-via-then-k-o+else-q-p, else-k-o-via-else-k-o}

pub loop-at-init : goal.loop-at-init
loop-at-init c = let a = c.args in gathered_none (λ k q. waits_at a.o a.p q k)

pub loop-at-preserved : goal.loop-at-preserved
loop-at-preserved c =
    let v = c.loop-at in
    let a = c.args in
    let sizes : length a.o.line ≡ 16 = search (rules, length_mapped) in
    let told = λ (k q : ℕ). waits_at a.o a.p q k in
    elim c.if-k-o.branch [
      | then-k-o+then-q-p w ↦
          rw (add-one, w.set-is)
          (gathered_more told v.at _ v.invariant _ (stands_here a.o a.p v.at _ w.if-k-o.true (sym (read_at a.o.line v.at _ 0 (omega arith)) ∙ w.if-q-p.true) (rw w.mode_at.ensures at w.at_place-set.ensures)))
      | else-k-o w ↦ elim w.else-k-o.branch [
        | else-k-o-via-then-k-o+else-q-p u ↦
            rw (add-one, w.set-is) (gathered_pass told v.at _ v.invariant (stands_other a.o a.p v.at (λ z. u.if-q-p.false (read_at a.o.line v.at _ 0 (omega arith) ∙ z))))
        | else-k-o-via-else-k-o u ↦ rw (add-one, w.set-is) (gathered_pass told v.at _ v.invariant (stands_past a.o a.p v.at u.if-k-o.false))
      ]
    ]

pub returns : goal.returns
unfolding waits_in
returns c =
    let v = c.loop-at in
    let sizes : length c.args.o.line ≡ 16 = search (rules, length_mapped) in
    let e : v.at ≡ 16 = omega arith in
    rw e at v.invariant
