-- `report::lines::entry` meets its contract: its parts one after another. Assumes nothing.
use Rattle.std.proofs.Common.{[], ◌∷◌}
use Rattle.text.specs.Text.{decimal}
use Rattle.printed.proofs.Lines.{entry_parts}
use Rattle.text.proofs.Text.{added_three}
use Rattle.report.proofs.lines.entry.Goals as goal

pub returns-clause-text : goal.returns-clause-text
returns-clause-text c =
    added_three c.args.out.now.items (32 ∷ []) (decimal c.from.result) c.put.ensures.0 c.number.ensures.0 (c.letter.result ∷ []) c.put-2.ensures.0
    (entry_parts _ _ c.from.ensures c.letter.ensures)
