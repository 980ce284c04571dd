-- `report::lines::members` meets its contract: each process of the ring has its number. Assumes nothing.
use Rattle.std.proofs.Common.{ap, arith, ℕ, ◌∷◌, [], length-take}
use Rattle.text.specs.Text.{after_spaces, decimal}
use Rattle.printed.proofs.Lines.{no_rows, rows_added, members_whole, first_at}
use Rattle.text.proofs.Text.{at_most_is, added_none, added_as}
use Rattle.report.proofs.lines.members.Goals as goal

pub loop-p-init : goal.loop-p-init
loop-p-init c = record { room = omega arith; text = added_none _ (no_rows _) }

pub loop-p-preserved : goal.loop-p-preserved
loop-p-preserved c = record {
  room = omega arith;
  text = rows_added _ _ _ c.loop-p.invariant.text
      (added_as _ (ap (λ (x : ℕ). after_spaces (decimal x ∷ [])) (first_at _ c.args.ring.now.processes c.loop-p.p-index _ _ c.loop-p-test.true)) c.member.ensures.text);
}

pub returns-clause-text : goal.returns-clause-text
returns-clause-text c =
    added_as _ (members_whole c.args.ring.now (at_most_is 16 (omega (arith, length-take {A = ℕ})) c.at_most-n.ensures.0 c.wide.ensures.0)) c.loop-p.invariant.text
