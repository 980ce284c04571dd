-- `report::lines::member` meets its contract: a space and the number. Assumes nothing.
use Rattle.std.proofs.Common.{[], ◌∷◌}
use Rattle.text.specs.Text.{decimal}
use Rattle.printed.proofs.Lines.{member_parts}
use Rattle.text.proofs.Text.{added_two}
use Rattle.report.proofs.lines.member.Goals as goal

pub returns-clause-text : goal.returns-clause-text
returns-clause-text c =
    added_two c.args.out.now.items (32 ∷ []) (decimal c.from.result) c.put.ensures.0 c.number.ensures.0 (member_parts _ c.from.ensures)
