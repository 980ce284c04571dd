-- A holder in conflict, or one ahead.
use Rattle.std.proofs.Common.{sym, ◌∙◌}
use Rattle.rules.specs.Book.{waited_for, rivals, rival}
use Rattle.rules.proofs.Tables.{among_append}
use Rattle.objects.proofs.Holds.{set_among}
use Rattle.lists.proofs.standing.Standing.waits_for.Goals as goal

pub returns-then-has : goal.returns-then-has
unfolding waited_for rivals
returns-then-has c =
    let a = c.args in
    let e = sym (set_among (rival a.self.book a.self.process a.self.mode) c.rivals.result c.rivals.ensures a.s) ∙ sym c.has.ensures ∙ c.if-has.true in
    c.if-has.true ∙ rw (among_append, e)

pub returns-else-has : goal.returns-else-has
unfolding waited_for rivals
returns-else-has c =
    let a = c.args in
    let e = sym (set_among (rival a.self.book a.self.process a.self.mode) c.rivals.result c.rivals.ensures a.s) ∙ sym c.has.ensures ∙ c.if-has.false in
    c.is_behind.ensures ∙ rw (among_append, e)
