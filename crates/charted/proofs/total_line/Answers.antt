-- `charted::total_line` meets its contract: its parts one after another. Assumes nothing.
use Rattle.charted.proofs.Lines.{total_parts}
use Rattle.charted.proofs.total_line.Goals as goal

pub returns-clause-text : goal.returns-clause-text
returns-clause-text c = cc (total_parts c.args.out.now.items c.args.name.now c.args.n)
