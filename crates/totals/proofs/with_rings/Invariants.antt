-- The rings of the places passed, each at its length. Assumes nothing.
use Rattle.std.proofs.Common.{◌≡◌, get_or}
use Rattle.rules.specs.Tables.{rows}
use Rattle.totals.specs.Totals.{more}
use Rattle.totals.proofs.Laws.{within}
use Rattle.totals.proofs.with_rings.Given as goal

abbrev pub invariant-loop-s : goal.invariant-loop-s
invariant-loop-s l = l.next ≡ rows 17 (λ k. more (get_or l.initial.next k 0) (within l.fn.rings l.s k))
