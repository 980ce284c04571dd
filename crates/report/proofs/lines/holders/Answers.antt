-- `report::lines::holders` meets its contract: each process that is passed has its entry. Assumes nothing.
use Rattle.std.proofs.Common.{arith}
use Rattle.printed.proofs.Lines.{no_side, side_added, holders_whole}
use Rattle.text.proofs.Text.{added_none, added_as}
use Rattle.report.proofs.lines.holders.Goals as goal

pub loop-p-init : goal.loop-p-init
loop-p-init c = record { room = omega arith; text = added_none _ (no_side _) }

pub loop-p-preserved : goal.loop-p-preserved
loop-p-preserved c = record { room = omega arith; text = side_added _ _ _ c.loop-p.invariant.text c.holder.ensures.text }

pub returns-clause-text : goal.returns-clause-text
returns-clause-text c = added_as _ (holders_whole c.args.o.now (omega arith)) c.loop-p.invariant.text
