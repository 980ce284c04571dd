-- `report::lines::last_line` meets its contract. Assumes nothing.
use Rattle.std.proofs.Common.{[], ◌∷◌}
use Rattle.text.specs.Text.{bytes, decimal}
use Rattle.printed.proofs.Lines.{last_parts}
use Rattle.text.proofs.Text.{added_five}
use Rattle.report.proofs.lines.last_line.Goals as goal

pub returns-clause-text : goal.returns-clause-text
returns-clause-text c =
    added_five c.args.out.now.items (bytes "messages ") (decimal c.in_flight.result) c.word.ensures.0 c.number.ensures.0
    (bytes " rings ") c.word-2.ensures.0 (decimal c.tally.result) c.number-2.ensures.0 (10 ∷ []) c.put.ensures.0
    (last_parts _ c.in_flight.ensures.0 c.tally.ensures.0)
