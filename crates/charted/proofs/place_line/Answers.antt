-- `charted::place_line` meets its contract: its parts one after another. Assumes nothing.
use Rattle.charted.proofs.Lines.{place_parts}
use Rattle.charted.proofs.place_line.Goals as goal

pub returns-clause-text : goal.returns-clause-text
returns-clause-text c = cc (place_parts c.args.out.now.items c.args.name.now c.args.table.now c.args.k)
