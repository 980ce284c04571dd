-- A good sheet is run by the bench on its opening, and a refused one runs nothing. Assumes nothing.
use Rattle.sheet.proofs.Parts.{part_of_good}
use Rattle.sheet.proofs.Runs.{run_refused, run_good}
use Rattle.sheet.proofs.run.Goals as goal

pub returns-in-Ok : goal.returns-in-Ok
returns-in-Ok c =
    let a = c.args in
    let e = c.in-Ok.ensures in
    run_good a.s.now a.room.now e.0 e.1 (part_of_good a.s.now e.0 e.1 c.rest_from.ensures) c.run_opening.ensures

pub returns-in-Err : goal.returns-in-Err
returns-in-Err c = run_refused c.args.s.now c.args.room.now c.in-Err.ensures.0 c.in-Err.ensures.1 c.refused.ensures
