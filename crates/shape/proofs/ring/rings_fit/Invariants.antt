-- Every ring passed fits. Assumes nothing.
use mathlib.Core.Path.{◌≡◌}
use mathlib.Core.Bool.{true}
use lib.ListN.{get_or}
use Rattle.rules.specs.Tables.{all}
use Rattle.rules.specs.Lists.{no_ring}
use Rattle.rules.specs.Shape.{ring_fits}
use Rattle.shape.proofs.ring.rings_fit.Given as goal

abbrev pub invariant-loop-s : goal.invariant-loop-s
invariant-loop-s l = all l.s (λ q. ring_fits (get_or l.fn.rings q no_ring) q l.pc) ≡ true
