-- The lengths that were passed have their lines.
use Rattle.std.proofs.Common.{◌+◌, ◌-◌, ◌*◌, ◌≤◌}
use Rattle.arrayvec.specs.ArrayVec.{array_vec_len, Extends}
use Rattle.text.specs.Text.{bytes, flat}
use Rattle.charted.specs.Lines.{place_line}
use Rattle.charted.proofs.ring_lines.Given as goal

abbrev pub invariant-loop-k : goal.invariant-loop-k
invariant-loop-k l = record {
  room : array_vec_len l.out + 40 * (17 - l.k) ≤ array_vec_len l.initial.out + 600;
  text : Extends l.initial.out (flat (l.k - 2) (λ i. place_line (bytes "rings") l.table (i + 2))) l.out;
}
