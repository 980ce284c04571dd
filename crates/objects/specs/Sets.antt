-- Sets of processes, as the handlers gather them in the digits of a number.
use Rattle.std.specs.Prelude.{ℕ, ◌<◌, ◌≡◌, Bool, ◌&&◌, ltb}
use Rattle.rules.specs.Bits.{taken}

-- the set has the numbers below 16 that pass the test, and no other
pub record SetOf (t : ℕ → Bool) (s : ℕ) : Type 0 where
  pub below : s < 65536
  pub has : (k : ℕ) → taken s k ≡ (ltb k 16 && t k)
