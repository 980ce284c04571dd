-- `report::lines::answer_lines` meets its contract: each command has its line. Assumes nothing.
use Rattle.std.proofs.Common.{refl, ap, arith, ℕ, length-take}
use Rattle.printed.specs.Lines.{command_line}
use Rattle.printed.proofs.Lines.{commands_whole, first_at}
use Rattle.text.proofs.Text.{at_most_is, page_none, page_next, added_as}
use Rattle.report.proofs.lines.answer_lines.Goals as goal

pub loop-i-init : goal.loop-i-init
loop-i-init c = record { room = omega arith; text = page_none _ _ }

pub loop-i-preserved : goal.loop-i-preserved
loop-i-preserved c = record {
  room = omega arith;
  text = page_next _ _ _ c.loop-i.invariant.text
      (added_as _ (ap (command_line c.loop-i.i) (first_at _ c.args.answers.now c.loop-i.i _ _ c.loop-i-test.true)) c.answer_line.ensures.text);
}

pub returns-clause-text : goal.returns-clause-text
returns-clause-text c =
    added_as _ (commands_whole c.args.commands c.args.answers.now (at_most_is 4096 (omega (arith, length-take {A = ℕ})) c.at_most-n.ensures.0 refl)) c.loop-i.invariant.text
