-- The lines passed are noted, in order. Assumes nothing.
use Rattle.std.specs.Prelude.{◌≡◌, Some}
use Rattle.shape.specs.Stand.{noted_lines}
use Rattle.shape.proofs.stand.note_lines.Given as goal

abbrev pub invariant-loop-book : goal.invariant-loop-book
invariant-loop-book l = noted_lines l.fn.standing l.fn.books l.book-index ≡ Some l.standing
