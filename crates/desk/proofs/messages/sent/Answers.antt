-- `sent` meets its contract: the machine's operations on sets of 64. Assumes nothing.
use Rattle.desk.proofs.Sending.{sent_freed, sent_past, sent_none}
use Rattle.desk.proofs.messages.sent.Goals.{in_default-via-in-Some+else-n-lt64, in_default-via-in_default}
use Rattle.desk.proofs.messages.sent.Goals as goal

pub returns-in-Some : goal.returns-in-Some
returns-in-Some c = sent_freed _ _ c.ranges.before.fits c.ranges.after.fits c.args.freed _ c.in-Some.is c.if-n-lt64.true

pub returns-in_default : goal.returns-in_default
returns-in_default c = elim c.in_default.branch [
  | in_default-via-in-Some+else-n-lt64 w ↦ sent_past _ _ c.ranges.before.fits c.ranges.after.fits c.args.freed _ w.in-Some.is w.if-n-lt64.false
  | in_default-via-in_default w ↦ sent_none _ _ c.ranges.before.fits c.ranges.after.fits c.args.freed w.in_default.is
]
