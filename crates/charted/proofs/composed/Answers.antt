-- `charted::composed` meets its contract: the lines one after another. Assumes nothing.
use Rattle.std.proofs.Common.{rules}
use Rattle.charted.proofs.Lines.{chart_whole}
use Rattle.charted.proofs.composed.Goals as goal

pub returns : goal.returns
returns c = (
  chart_whole _ c.clear.ensures c.total_line.ensures.text c.total_line-2.ensures.text c.total_line-3.ensures.text c.refused_lines.ensures.text c.total_line-4.ensures.text c.ring_lines.ensures.text,
  search rules,
)
