-- `bench::step` meets its contract: the shape first; then the command is packed, and is one turn of the engine, whose answer is read back
-- from its number. Assumes nothing.
use mathlib.Core.Path.{refl, sym, ap, ◌∙◌}
use Rattle.rules.specs.declared.Ran.{Ran}
use Rattle.rules.specs.Commands.{turn}
use Rattle.bench.proofs.Calls.{step_refused, step_taken}
use Rattle.bench.proofs.Packing.{once-turns}
use Rattle.bench.proofs.step.Goals as goal

pub returns-in_default : goal.returns-in_default
returns-in_default c = step_refused c.args.b c.args.c (sym c.in_default.ensures.shape)

pub returns-in-Err : goal.returns-in-Err
returns-in-Err c =
    let a = c.args in
    c.in-Err.ensures a.b refl refl ∙ step_taken a.b a.c (sym c.in-Some.ensures.shape)

pub returns : goal.returns
returns c =
    let a = c.args in
    let t = c.turns-turned in
    let w = t.ensures.sheet refl in
    once-turns a.b _ t.result.board _ (ap (λ (r : Ran). r.board) w.0) w.1 c.from.result c.from.ensures
    ∙ ap (turn a.b) c.in-Ok.ensures ∙ step_taken a.b a.c (sym c.in-Some.ensures.shape)
