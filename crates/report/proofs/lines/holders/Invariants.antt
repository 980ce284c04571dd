-- The processes that were passed have their entries.
use Rattle.std.proofs.Common.{◌+◌, ◌*◌, ◌≤◌}
use Rattle.arrayvec.specs.ArrayVec.{array_vec_len, Extends}
use Rattle.rules.specs.Book.{holder_at}
use Rattle.text.specs.Text.{after_spaces, flat}
use Rattle.printed.specs.Lines.{entry_if}
use Rattle.report.proofs.lines.holders.Given as goal

abbrev pub invariant-loop-p : goal.invariant-loop-p
invariant-loop-p l = record {
  room : array_vec_len l.out ≤ array_vec_len l.initial.out + 6 * l.p;
  text : Extends l.initial.out (after_spaces (flat l.p (λ q. entry_if q (holder_at l.o q)))) l.out;
}
