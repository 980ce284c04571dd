-- The commands that were passed have their lines.
use Rattle.std.proofs.Common.{◌+◌, ◌*◌, ◌≤◌, get_or}
use Rattle.arrayvec.specs.ArrayVec.{array_vec_len, Extends}
use Rattle.text.specs.Text.{flat}
use Rattle.printed.specs.Lines.{command_line}
use Rattle.report.proofs.lines.answer_lines.Given as goal

abbrev pub invariant-loop-i : goal.invariant-loop-i
invariant-loop-i l = record {
  room : array_vec_len l.out ≤ array_vec_len l.initial.out + 10 * l.i;
  text : Extends l.initial.out (flat l.i (λ j. command_line j (get_or l.answers j 0))) l.out;
}
