-- What the engine rests on: sizes and ranges, and that the numbers in flight are those that hold a message. A board in shape has both,
-- and every command keeps them.
use Rattle.std.specs.Prelude.{◌≡◌, ℕ, ◌<◌}
use Rattle.rules.specs.declared.Board.{Board}
use Rattle.rules.specs.Board.{kind_at, in_flight, is_message}
use Rattle.rules.specs.Ranges.{Ranged}

pub record Ready (b : Board) : Type 0 where
  pub ranged : Ranged b
  pub matched : (n : ℕ) → n < 64 → in_flight b n ≡ is_message (kind_at b n)
