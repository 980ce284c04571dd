-- By the cases of what is read at a bit.
use Rattle.std.proofs.Common.{arith}
use Rattle.std.proofs.lemmas.Grind.{common_steps}
use Rattle.reader.specs.Place.{within}
use Rattle.reader.proofs.field.within.Goals as goal

pub returns-then-at-gt4294967296 : goal.returns-then-at-gt4294967296
unfolding within
returns-then-at-gt4294967296 c = grind (arith, common_steps)

pub returns-else-at-gt4294967296 : goal.returns-else-at-gt4294967296
unfolding within
returns-else-at-gt4294967296 c = grind (arith, common_steps)
