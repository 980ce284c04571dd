-- `charted::ring_lines` meets its contract: each length that is passed has its line. Assumes nothing.
use Rattle.std.proofs.Common.{◌∙◌, arith}
use Rattle.text.proofs.Text.{page_none}
use Rattle.charted.proofs.Lines.{rings_next, rings_whole}
use Rattle.charted.proofs.ring_lines.Goals as goal

pub loop-k-init : goal.loop-k-init
loop-k-init c = record { room = omega arith; text = page_none _ _ }

pub loop-k-preserved : goal.loop-k-preserved
loop-k-preserved c = record {
  room = omega arith;
  text = rings_next _ _ _ c.loop-k.k c.loop-k.auto.k c.loop-k.invariant.text c.place_line.ensures.text;
}

pub returns-clause-text : goal.returns-clause-text
returns-clause-text c = c.loop-k.invariant.text ∙ rings_whole _ _ c.loop-k.k (omega arith)
