-- `bench::whole_commands` meets its contract: its tests are those of the room. Assumes nothing.
use Rattle.std.proofs.Common.{rules}
use Rattle.rules.specs.Answers.{first_of}
use Rattle.bench.proofs.whole_commands.Goals as goal

pub returns-then-s-eq1 : goal.returns-then-s-eq1
unfolding first_of
returns-then-s-eq1 c = search rules

pub returns-then-room-n : goal.returns-then-room-n
unfolding first_of
returns-then-room-n c = search rules

pub returns : goal.returns
unfolding first_of
returns c = search rules
