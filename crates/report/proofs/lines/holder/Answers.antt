-- `report::lines::holder` meets its contract: a holder has its entry. Assumes nothing.
use Rattle.std.proofs.Common.{sym, ◌∙◌}
use Rattle.printed.proofs.Lines.{held_exclusive, held_shared, held_not}
use Rattle.text.proofs.Text.{added_none, added_as}
use Rattle.report.proofs.lines.holder.Goals as goal

pub returns-then-has-clause-text : goal.returns-then-has-clause-text
returns-then-has-clause-text c = added_as c.args.out.now.items (held_exclusive c.args.o.now c.args.p (sym c.has.ensures ∙ c.if-has.true)) c.entry.ensures.text

pub returns-then-has-2-clause-text : goal.returns-then-has-2-clause-text
returns-then-has-2-clause-text c =
    added_as c.args.out.now.items (held_shared c.args.o.now c.args.p (sym c.has.ensures ∙ c.if-has.false) (sym c.has-else-has.ensures ∙ c.if-has-2.true)) c.entry-then-has-2.ensures.text

pub returns-else-has-2-clause-text : goal.returns-else-has-2-clause-text
returns-else-has-2-clause-text c =
    added_none c.args.out.now.items (held_not c.args.o.now c.args.p (sym c.has.ensures ∙ c.if-has.false) (sym c.has-else-has.ensures ∙ c.if-has-2.false))
