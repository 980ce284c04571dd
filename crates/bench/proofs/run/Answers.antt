-- `bench::run` meets its contract: the shape, an odd byte and the room, then the engine. Assumes nothing.
use mathlib.Core.Path.{refl, sym}
use Rattle.bench.proofs.Calls.{both, run_unshaped, run_refused, run_whole}
use Rattle.bench.proofs.run.Goals as goal

pub returns-in_default : goal.returns-in_default
returns-in_default c =
    let a = c.args in
    both (run_unshaped a.b a.s.now a.room.now (sym c.in_default.ensures.shape)) c.refused.ensures refl

pub returns-in-Ok : goal.returns-in-Ok
returns-in-Ok c =
    let a = c.args in
    let w = c.turns.ensures.sheet refl in
    both (run_whole a.b a.s.now a.room.now (sym c.in-Some.ensures.shape) c.in-Ok.n c.in-Ok.ensures.0 c.in-Ok.ensures.2) w.0 w.1

pub returns-in-Err : goal.returns-in-Err
returns-in-Err c =
    let a = c.args in
    both (run_refused a.b a.s.now a.room.now (sym c.in-Some.ensures.shape) c.in-Err.answer c.in-Err.ensures.0 c.in-Err.ensures.1) c.refused-in-Err.ensures refl
