-- The loop of the engine: so many commands are done, and the board, the room and the load are those that the rules give for them.
use Rattle.std.proofs.Common.{◌-◌}
use Rattle.engine.proofs.Working.{Working}
use Rattle.engine.proofs.turns.Given as goal

abbrev pub invariant-loop-i : goal.invariant-loop-i
invariant-loop-i g l = Working (g.S.Source.drains l.source) l.initial.b (g.S.Source.commands l.source) l.initial.room l.most l.i l.b l.room l.load

abbrev pub decreases-loop-i : goal.decreases-loop-i
decreases-loop-i g l = l.most - l.i
