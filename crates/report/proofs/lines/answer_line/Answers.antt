-- `report::lines::answer_line` meets its contract: its parts one after another. Assumes nothing.
use Rattle.std.proofs.Common.{[], ◌∷◌, ◌+◌}
use Rattle.text.specs.Text.{decimal}
use Rattle.printed.proofs.Lines.{command_parts}
use Rattle.text.proofs.Text.{added_four}
use Rattle.report.proofs.lines.answer_line.Goals as goal

pub returns-clause-text : goal.returns-clause-text
returns-clause-text c =
    added_four c.args.out.now.items (decimal (c.args.i + 1)) (32 ∷ []) c.number.ensures.0 c.put.ensures.0 (decimal c.from.result) c.number-2.ensures.0 (10 ∷ []) c.put-2.ensures.0
    (command_parts _ _ c.from.ensures)
