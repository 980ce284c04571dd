-- The number falls.
use Rattle.text.proofs.placed.+total.Given as goal

abbrev pub decreases-total : goal.decreases-total
decreases-total l = l.n
