-- `report::lines::line` meets its contract: each place of the line has its entry. Assumes nothing.
use Rattle.std.proofs.Common.{ap, ap₂, arith, ℕ, ◌∷◌, [], ◌∙◌, length-take}
use Rattle.rules.specs.declared.Mode.{Mode}
use Rattle.rules.specs.Book.{mode_if}
use Rattle.text.specs.Text.{after_spaces}
use Rattle.printed.specs.Lines.{entry}
use Rattle.printed.proofs.Lines.{no_rows, rows_added, line_whole, first_at}
use Rattle.text.proofs.Text.{at_most_is, added_none, added_as}
use Rattle.report.proofs.lines.line.Goals as goal

pub loop-k-init : goal.loop-k-init
loop-k-init c = record { room = omega arith; text = added_none _ (no_rows _) }

pub loop-k-preserved : goal.loop-k-preserved
loop-k-preserved c = record {
  room = omega arith;
  text = rows_added _ _ _ c.loop-k.invariant.text
      (added_as _ (ap₂ (λ (x : ℕ) (m : Mode). after_spaces (entry x m ∷ [])) (first_at _ c.args.o.now.line c.loop-k.k _ _ c.loop-k-test.true) (c.mode_if.ensures ∙ ap mode_if c.has.ensures)) c.entry.ensures.text);
}

pub returns-clause-text : goal.returns-clause-text
returns-clause-text c =
    added_as _ (line_whole c.args.o.now (at_most_is 16 (omega (arith, length-take {A = ℕ})) c.at_most-n.ensures.0 c.wide.ensures.0)) c.loop-k.invariant.text
