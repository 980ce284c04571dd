-- Pieces were taken in, and they are what the reader gave; no piece is longer than 65,536 bytes.
use Rattle.std.proofs.Common.{◌≡◌, List, ℕ, ◌*◌, ◌≤◌, length}
use Rattle.std.specs.Io.KnownBytes.{Consumes}
use Rattle.input.specs.Input.{Pieces}
use Rattle.input.proofs.whole.Given as goal

abbrev pub invariant-loop : goal.invariant-loop
invariant-loop g l =
    (l.count ≤ 65536 * l.counter) × (length l.piece ≡ 65536) × (length l.first ≡ 65536)
    × ((w : List ℕ) × Pieces l.initial.first w l.first l.count × Consumes (g.R.Read.remaining l.initial.from) (g.R.Read.remaining l.from) w)
