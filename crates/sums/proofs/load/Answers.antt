-- Both sums together. Assumes nothing.
use Rattle.std.proofs.Common.{arith}
use Rattle.rules.specs.Board.{load}
use Rattle.sums.proofs.load.Goals as goal

pub returns : goal.returns
unfolding load
returns c =
    (omega (arith, c.in_messages.ensures.0, c.in_lines.ensures.0), omega (arith, c.in_messages.ensures.1, c.in_lines.ensures.1))
