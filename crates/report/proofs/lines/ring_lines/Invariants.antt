-- The starters that were passed have their lines.
use Rattle.std.proofs.Common.{◌+◌, ◌*◌, ◌≤◌}
use Rattle.arrayvec.specs.ArrayVec.{array_vec_len, Extends}
use Rattle.rules.specs.Board.{ring_at}
use Rattle.text.specs.Text.{flat}
use Rattle.printed.specs.Lines.{ring_line}
use Rattle.report.proofs.lines.ring_lines.Given as goal

abbrev pub invariant-loop-ring : goal.invariant-loop-ring
invariant-loop-ring l = record {
  room : array_vec_len l.out ≤ array_vec_len l.initial.out + 85 * l.ring-index;
  text : Extends l.initial.out (flat l.ring-index (λ j. ring_line (ring_at l.b j))) l.out;
}
