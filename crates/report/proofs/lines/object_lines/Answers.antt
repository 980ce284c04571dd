-- `report::lines::object_lines` meets its contract: each object has its line. Assumes nothing.
use Rattle.std.proofs.Common.{ap, arith, length-take}
use Rattle.rules.specs.declared.Object.{Object}
use Rattle.printed.specs.Lines.{object_line}
use Rattle.printed.proofs.Lines.{objects_whole, first_at}
use Rattle.text.proofs.Text.{at_most_is, page_none, page_next, added_as}
use Rattle.report.proofs.lines.object_lines.Goals as goal

pub loop-i-init : goal.loop-i-init
loop-i-init c = record { room = omega arith; text = page_none _ _ }

pub loop-i-preserved : goal.loop-i-preserved
loop-i-preserved c = record {
  room = omega arith;
  text = page_next _ _ _ c.loop-i.invariant.text
      (added_as _ (ap (object_line c.loop-i.i) (first_at _ c.args.b.now.objects c.loop-i.i _ _ c.loop-i-test.true)) c.object_line.ensures.text);
}

pub returns-clause-text : goal.returns-clause-text
returns-clause-text c =
    added_as _ (objects_whole c.args.b.now (at_most_is 16 (omega (arith, length-take {A = Object})) c.at_most-n.ensures.0 c.wide.ensures.0)) c.loop-i.invariant.text
