-- `steps::run` meets its contract: the sheet without its commands opens the board, and the commands are stepped on it. Assumes nothing.
use native.Mathlib.Omega.{arith}
use Rattle.steps.proofs.Shorter.{part_shorter}
use Rattle.steps.proofs.Reaching.{whole_sheet}
use Rattle.steps.proofs.run.Goals as goal

pub overflow_sub-start : goal.overflow_sub-start
overflow_sub-start g c = omega (arith, part_shorter c.args.s.now c.commands-part.ensures)

pub returns : goal.returns
returns g c =
    let a = c.args in
    whole_sheet a.s.now a.room.now c.commands-part.ensures c.count-n.ensures c.run-opened.ensures.0 c.steps-board.ensures
