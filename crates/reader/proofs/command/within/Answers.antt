-- By the cases of how many commands are read.
use Rattle.std.proofs.Common.{arith}
use Rattle.std.proofs.lemmas.Grind.{common_steps}
use Rattle.reader.specs.Place.{commands_within}
use Rattle.reader.proofs.command.within.Goals as goal

pub returns-then-n-gt4096 : goal.returns-then-n-gt4096
unfolding commands_within
returns-then-n-gt4096 c = grind (arith, common_steps)

pub returns : goal.returns
unfolding commands_within
returns c = grind (arith, common_steps)
