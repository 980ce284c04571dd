-- What was taken in is what the reader gave.
use Rattle.std.proofs.Common.{◌≡◌, length}
use Rattle.stream.proofs.Pieces.{Known}
use Rattle.stream.proofs.taken_in.Given as goal

abbrev pub invariant-loop : goal.invariant-loop
invariant-loop g l =
    (length l.piece ≡ 65536) × Known l.chart l.sheet (g.I.Read.remaining l.initial.from) (g.I.Read.remaining l.from)
