-- The marks of the places passed are all zero exactly where their leads fit. Assumes nothing.
use mathlib.Core.Path.{◌≡◌}
use lib.Dec.{eqb}
use Rattle.rules.specs.Tables.{all}
use Rattle.rules.specs.Shape.{lead_fits}
use Rattle.shape.proofs.message.leads_fit.Given as goal

abbrev pub invariant-loop-k : goal.invariant-loop-k
invariant-loop-k l = eqb l.wrong 0 ≡ all l.k (lead_fits l.fn.l)
