-- The homes passed stand in the row.
use Rattle.std.proofs.Common.{◌≡◌, ◌+◌, ◌*◌, ◌<◌, length, get_or, ℕ}
use Rattle.rules.specs.Sheet.{field}
use Rattle.reader.proofs.row.homes.Given as goal

abbrev pub invariant-loop-k : goal.invariant-loop-k
invariant-loop-k l = (length l.home-items ≡ l.n) × ((j : ℕ) → j < l.k → get_or l.home-items j 0 ≡ field l.s (l.at + 3 * j) 3)
