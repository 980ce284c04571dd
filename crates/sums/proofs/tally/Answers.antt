-- The tally is of the board's recorded rings. Assumes nothing.
use Rattle.rules.specs.Board.{tally as rings}
use Rattle.sums.proofs.tally.Goals as goal

pub returns : goal.returns
unfolding rings
returns c = c.tally_of.ensures
