-- `charted::refused_lines` meets its contract: each number that is passed has its line. Assumes nothing.
use Rattle.std.proofs.Common.{◌∙◌, arith}
use Rattle.text.proofs.Text.{page_none, page_next}
use Rattle.charted.proofs.Lines.{refused_whole}
use Rattle.charted.proofs.refused_lines.Goals as goal

pub loop-k-init : goal.loop-k-init
loop-k-init c = record { room = omega arith; text = page_none _ _ }

pub loop-k-preserved : goal.loop-k-preserved
loop-k-preserved c = record {
  room = omega arith;
  text = page_next _ _ _ c.loop-k.invariant.text c.place_line.ensures.text;
}

pub returns-clause-text : goal.returns-clause-text
returns-clause-text c = c.loop-k.invariant.text ∙ refused_whole _ _ c.loop-k.k-index (omega arith)
