-- `after` meets its contract: those that were sent are marked. Assumes nothing.
use Rattle.std.proofs.Common.{◌∙◌}
use Rattle.desk.proofs.Sending.{marked_sent}
use Rattle.desk.proofs.senders.after.Goals as goal

pub returns : goal.returns
returns c = let a = c.args in c.marked.ensures ∙ marked_sent a.senders a.before a.after c.sent.result a.site c.sent.ensures
