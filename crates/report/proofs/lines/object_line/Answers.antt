-- `report::lines::object_line` meets its contract: its parts one after another. Assumes nothing.
use Rattle.std.proofs.Common.{[], ◌∷◌}
use Rattle.text.specs.Text.{bytes, decimal, after_spaces}
use Rattle.printed.specs.Lines.{holder_entries, line_entries}
use Rattle.printed.proofs.Lines.{object_parts}
use Rattle.text.proofs.Text.{added_six}
use Rattle.report.proofs.lines.object_line.Goals as goal

pub returns-clause-text : goal.returns-clause-text
returns-clause-text c =
    added_six c.args.out.now.items (111 ∷ []) (decimal c.args.i) c.put.ensures.0 c.number.ensures.0
    (after_spaces (holder_entries c.args.o.now)) c.holders.ensures.text (bytes " /") c.word.ensures.0
    (after_spaces (line_entries c.args.o.now)) c.line.ensures.text (10 ∷ []) c.put-2.ensures.0 (object_parts c.args.i c.args.o.now)
