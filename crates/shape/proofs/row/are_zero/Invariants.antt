-- The places passed are all zero exactly where what was gathered is. Assumes nothing.
use mathlib.Core.Path.{◌≡◌}
use mathlib.Core.Bool.{◌&&◌}
use lib.Dec.{eqb}
use lib.ListN.{get_or}
use Rattle.rules.specs.Tables.{all}
use Rattle.shape.proofs.row.are_zero.Given as goal

abbrev pub invariant-loop-x : goal.invariant-loop-x
invariant-loop-x l = eqb l.any 0 ≡ all l.x-index (λ j. eqb (get_or l.fn.row j 0) 0)

abbrev pub invariant-loop-y : goal.invariant-loop-y
invariant-loop-y l = eqb l.any 0 ≡ all 16 (λ j. eqb (get_or l.fn.row j 0) 0) && all l.y-index (λ j. eqb (get_or l.fn.other j 0) 0)
