-- The marks of the places passed are all zero exactly where those places fit. Assumes nothing.
use mathlib.Core.Path.{◌≡◌}
use lib.Dec.{eqb, ltb}
use lib.ListN.{get_or}
use Rattle.rules.specs.Tables.{pick, all}
use Rattle.shape.proofs.row.row_fits.Given as goal

abbrev pub invariant-loop-k : goal.invariant-loop-k
invariant-loop-k l = eqb l.wrong 0 ≡ all l.k (λ j. pick (ltb j l.fn.n) (ltb (get_or l.fn.row j 0) l.fn.c) (eqb (get_or l.fn.row j 0) 0))
