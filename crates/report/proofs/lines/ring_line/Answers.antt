-- `report::lines::ring_line` meets its contract: an empty place has no line. Assumes nothing.
use Rattle.std.proofs.Common.{[], ◌∷◌}
use borrow.Author.Tests.{eq-eqb, ne_eqb}
use Rattle.text.specs.Text.{after_spaces}
use Rattle.printed.specs.Lines.{word_ring, ring_entries}
use Rattle.printed.proofs.Lines.{ring_parts, ring_none}
use Rattle.text.proofs.Text.{added_none, added_three}
use Rattle.report.proofs.lines.ring_line.Goals as goal

pub returns-then-ring-ne0-clause-text : goal.returns-then-ring-ne0-clause-text
returns-then-ring-ne0-clause-text c =
    added_three c.args.out.now.items word_ring (after_spaces (ring_entries c.args.ring.now)) c.word.ensures.0 c.members.ensures.text (10 ∷ []) c.put.ensures.0
    (ring_parts c.args.ring.now (ne_eqb _ _ c.if-ring-ne0.true))

pub returns-else-ring-ne0-clause-text : goal.returns-else-ring-ne0-clause-text
returns-else-ring-ne0-clause-text c = added_none c.args.out.now.items (ring_none c.args.ring.now (eq-eqb _ _ c.if-ring-ne0.false))
