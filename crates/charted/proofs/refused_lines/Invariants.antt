-- The numbers that were passed have their lines.
use Rattle.std.proofs.Common.{◌+◌, ◌*◌, ◌≤◌, get_or}
use Rattle.arrayvec.specs.ArrayVec.{array_vec_len, Extends}
use Rattle.text.specs.Text.{bytes, flat}
use Rattle.charted.specs.Lines.{place_line}
use Rattle.charted.proofs.refused_lines.Given as goal

abbrev pub invariant-loop-k : goal.invariant-loop-k
invariant-loop-k l = record {
  room : array_vec_len l.out ≤ array_vec_len l.initial.out + 40 * l.k-index;
  text : Extends l.initial.out (flat l.k-index (λ i. place_line (bytes "refused") l.table (get_or l.k-items i 0))) l.out;
}
