-- The processes that were passed have their numbers.
use Rattle.std.proofs.Common.{◌+◌, ◌*◌, ◌≤◌, get_or}
use Rattle.arrayvec.specs.ArrayVec.{array_vec_len, Extends}
use Rattle.rules.specs.Tables.{rows}
use Rattle.text.specs.Text.{after_spaces, decimal}
use Rattle.report.proofs.lines.members.Given as goal

abbrev pub invariant-loop-p : goal.invariant-loop-p
invariant-loop-p l = record {
  room : array_vec_len l.out ≤ array_vec_len l.initial.out + 5 * l.p-index;
  text : Extends l.initial.out (after_spaces (rows l.p-index (λ j. decimal (get_or l.ring.processes j 0)))) l.out;
}
