-- `steps::steps` meets its contract. The invariant: board and room are those after the commands passed. Assumes nothing.
use mathlib.Core.Path.{refl}
use Rattle.std.proofs.Common.{rules, of_calls}
use Rattle.steps.specs.BySteps.{board_by_steps, room_by_steps}
use Rattle.steps.proofs.Reaching.{one_more}
use Rattle.steps.proofs.steps.Goals as goal

pub loop-i-init : goal.loop-i-init
unfolding board_by_steps room_by_steps
loop-i-init g c = (search rules, (refl, refl))

pub loop-i-preserved : goal.loop-i-preserved
loop-i-preserved g c =
    let a = c.args in
    let l = c.loop-i in
    (search rules, one_more a.opened a.part.now a.room.now l.i l.invariant.1 c.command_at.ensures (c.requires.3 _ _ _ (search of_calls)) c.from.ensures)
