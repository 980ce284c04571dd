-- The rings of the places passed, each at its length. Assumes nothing.
use Rattle.std.proofs.Common.{ℕ, ◌≡◌, sym, ◌∙◌, ap, get_or, arith, rules}
use Rattle.rules.specs.Tables.{rows}
use Rattle.rules.specs.Board.{rings_of_length}
use Rattle.totals.specs.Totals.{more}
use Rattle.totals.proofs.Laws.{at, none_within, ring_read, ring_counts, no_ring_counts}
use Rattle.totals.proofs.with_rings.Goals as goal
use Rattle.totals.proofs.with_rings.Goals.{then-counts, else-counts}

pub loop-s-init : goal.loop-s-init
loop-s-init c = none_within c.args.table c.args.rings (search rules)

pub loop-s-preserved : goal.loop-s-preserved
loop-s-preserved c =
    let a = c.args in
    let v = c.loop-s in
    elim c.if-counts.branch [
      | then-counts w ↦ w.next-is ∙ w.one_more_at.ensures ∙ ap (λ (n : ℕ). rows 17 (λ k. more (get_or v.next k 0) (at n k))) w.from.ensures ∙ ring_counts a.table v.next a.rings v.s v.invariant (ring_read a.rings v.s (search rules) c.loop-s-test.true) (sym c.counts.ensures ∙ w.if-counts.true)
      | else-counts w ↦ w.next-is ∙ no_ring_counts a.table v.next a.rings v.s v.invariant (sym c.counts.ensures ∙ w.if-counts.false)
    ]

pub returns : goal.returns
unfolding rings_of_length
returns c =
    let v = c.loop-s in
    let e : v.s ≡ 16 = omega arith in
    rw e at v.invariant
