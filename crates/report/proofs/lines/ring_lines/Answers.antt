-- `report::lines::ring_lines` meets its contract: each starter has its line. Assumes nothing.
use Rattle.std.proofs.Common.{ap, arith, length-take}
use Rattle.rules.specs.declared.Ring.{Ring}
use Rattle.printed.specs.Lines.{ring_line}
use Rattle.printed.proofs.Lines.{rings_whole, same_at}
use Rattle.text.proofs.Text.{page_none, page_next, added_as}
use Rattle.report.proofs.lines.ring_lines.Goals as goal

pub loop-ring-init : goal.loop-ring-init
loop-ring-init c = record { room = omega arith; text = page_none _ _ }

pub loop-ring-preserved : goal.loop-ring-preserved
loop-ring-preserved c = record {
  room = omega arith;
  text = page_next _ _ _ c.loop-ring.invariant.text
      (added_as _ (ap ring_line (same_at c.args.b.now.rings c.loop-ring.ring-index _ _ c.loop-ring-test.true)) c.ring_line.ensures.text);
}

pub returns-clause-text : goal.returns-clause-text
returns-clause-text c = added_as _ (rings_whole c.args.b.now (omega (arith, length-take {A = Ring}))) c.loop-ring.invariant.text
