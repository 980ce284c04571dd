-- Sets of processes beside a list, as the handlers gather them in the digits of a number.
use Rattle.std.specs.Prelude.{ℕ, ◌<◌, ◌≡◌, true, false}
use Rattle.rules.specs.declared.Entries.{Entries}
use Rattle.rules.specs.Bits.{taken}
use Rattle.rules.specs.Lists.{listed}

-- the set has those who stand in the list
pub record Marks (l : Entries) (s : ℕ) : Type 0 where
  pub has : (k : ℕ) → k < 64 → taken s k ≡ listed l k

-- none of the set stands in the list
pub record Fresh (l : Entries) (s : ℕ) : Type 0 where
  pub below : s < 65536
  pub unlisted : (k : ℕ) → taken s k ≡ true → listed l k ≡ false
