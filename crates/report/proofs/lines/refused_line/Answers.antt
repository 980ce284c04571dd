-- `report::lines::refused_line` meets its contract: the word and the number. Assumes nothing.
use Rattle.std.proofs.Common.{[], ◌∷◌}
use Rattle.text.specs.Text.{bytes, decimal}
use Rattle.printed.proofs.Lines.{refused_parts}
use Rattle.text.proofs.Text.{added_three}
use Rattle.report.proofs.lines.refused_line.Goals as goal

pub returns-clause-text : goal.returns-clause-text
returns-clause-text c =
    added_three c.args.out.now.items (bytes "sheet ") (decimal c.from.result) c.word.ensures.0 c.number.ensures.0 (10 ∷ []) c.put.ensures.0
    (refused_parts _ c.from.ensures)
