-- The objects that were passed have their lines.
use Rattle.std.proofs.Common.{◌+◌, ◌*◌, ◌≤◌}
use Rattle.arrayvec.specs.ArrayVec.{array_vec_len, Extends}
use Rattle.rules.specs.Board.{object_at}
use Rattle.text.specs.Text.{flat}
use Rattle.printed.specs.Lines.{object_line}
use Rattle.report.proofs.lines.object_lines.Given as goal

abbrev pub invariant-loop-i : goal.invariant-loop-i
invariant-loop-i l = record {
  room : array_vec_len l.out ≤ array_vec_len l.initial.out + 200 * l.i;
  text : Extends l.initial.out (flat l.i (λ j. object_line j (object_at l.b j))) l.out;
}
