-- Sizes and ranges are kept by every command, accepted or refused, on any board. Nothing is asked of the numbers in a command: a
-- request or release that is accepted has passed the tests of its process and its object, and a delivery reads ranged messages only.
use Rattle.std.specs.Prelude.{ℕ, List}
use Rattle.rules.specs.declared.Board.{Board}
use Rattle.rules.specs.declared.Command.{Command}
use Rattle.rules.specs.Commands.{turn, delivered, draining}
use Rattle.rules.specs.Sheet.{board_after}
use Rattle.rules.specs.Ranges.{Ranged}

pub record RangesKept : Type 0 where
  pub command : (b : Board) (c : Command) → Ranged b → Ranged (turn b c).board
  -- also where no message n is in flight
  pub delivery : (b : Board) (n : ℕ) → Ranged b → Ranged (delivered b n)
  pub sheet : (b : Board) (s : List ℕ) (i : ℕ) → Ranged b → Ranged (board_after b s i)
  pub drain : (n : ℕ) (b : Board) → Ranged b → Ranged (draining n b).board
