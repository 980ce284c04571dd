-- `drained` meets its contract: one delivery after another (Desks). Assumes nothing.
use Rattle.desk.proofs.Desks.{drain_none, drain_next}
use Rattle.desk.proofs.drained.Goals as goal

pub loop-i-init : goal.loop-i-init
loop-i-init c = drain_none c.args.start c.args.command

pub loop-i-preserved : goal.loop-i-preserved
loop-i-preserved c = drain_next c.args.start c.args.command _ _ c.loop-i._i c.loop-i.invariant c.drain_one-desk.ensures
