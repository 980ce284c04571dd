-- How much is read at a bit: inside the bounds, all. Assumes nothing.
use Rattle.std.proofs.Common.{◌≡◌, ℕ, ◌≤◌}
use borrow.Author.Tests.{le-leb}
use Rattle.reader.specs.Place.{within}

pub within_all : (at n : ℕ) → n ≤ 16 → at ≤ 4294967296 → within at n ≡ n
unfolding within
within_all at n h g = simp (le-leb _ _ h, le-leb _ _ g)
