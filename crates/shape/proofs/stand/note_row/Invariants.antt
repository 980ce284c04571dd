-- Those passed are noted, in order. Assumes nothing.
use Rattle.std.specs.Prelude.{◌≡◌, Some}
use Rattle.shape.specs.Stand.{noted_row}
use Rattle.shape.proofs.stand.note_row.Given as goal

abbrev pub invariant-loop-p : goal.invariant-loop-p
invariant-loop-p l = noted_row l.fn.standing l.fn.row l.p-index ≡ Some l.standing
