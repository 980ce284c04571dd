-- The places that were passed have their entries.
use Rattle.std.proofs.Common.{◌+◌, ◌*◌, ◌≤◌}
use Rattle.arrayvec.specs.ArrayVec.{array_vec_len, Extends}
use Rattle.rules.specs.Tables.{rows}
use Rattle.rules.specs.Book.{who_at, mode_at}
use Rattle.text.specs.Text.{after_spaces}
use Rattle.printed.specs.Lines.{entry}
use Rattle.report.proofs.lines.line.Given as goal

abbrev pub invariant-loop-k : goal.invariant-loop-k
invariant-loop-k l = record {
  room : array_vec_len l.out ≤ array_vec_len l.initial.out + 6 * l.k;
  text : Extends l.initial.out (after_spaces (rows l.k (λ j. entry (who_at l.o j) (mode_at l.o j)))) l.out;
}
