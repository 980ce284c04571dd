-- A list of 16 stays, a shorter one takes the process at its end.
use Rattle.rules.proofs.Lists.{add_one_full, add_one_new}
use Rattle.std.proofs.Common.{sym}
use Rattle.lists.specs.Growing.{list_in}
use Rattle.lists.proofs.gather.add_entry.Goals as goal

pub returns-then-count-ge16 : goal.returns-then-count-ge16
returns-then-count-ge16 c = let a = c.args in sym (add_one_full (list_in a.rows.now a.count) a.lead a.q c.if-count-ge16.true)

pub returns : goal.returns
returns c = let a = c.args in rw c.wide-end.ensures.0 (sym (add_one_new (list_in a.rows.now a.count) a.lead a.q (c.requires c.if-count-ge16.false) c.if-count-ge16.false))
