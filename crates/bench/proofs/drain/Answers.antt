-- `bench::drain` meets its contract: the shape first. Assumes nothing.
use mathlib.Core.Path.{sym, ◌∙◌}
use Rattle.bench.proofs.Calls.{drain_refused, drain_taken}
use Rattle.engine.proofs.Working.{drained_is}
use Rattle.bench.proofs.drain.Goals as goal

pub returns-in_default : goal.returns-in_default
returns-in_default c = drain_refused c.args.b c.args.budget (sym c.in_default.ensures.shape)

pub returns : goal.returns
returns c =
    let a = c.args in
    drained_is _ a.budget a.b _ _ c.turns-r.result c.turns-r.ensures ∙ drain_taken a.b a.budget (sym c.in-Some.ensures.shape)
