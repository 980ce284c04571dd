-- The engine's two uses: the commands of a slice, or the lowest number in flight again and again.
use Rattle.std.specs.Prelude.{◌≡◌, Bool, true, false, List, ℕ, ◌/◌, ◌≤◌, ◌<◌, length}
use Rattle.rules.specs.declared.Board.{Board}
use Rattle.rules.specs.declared.Answer.TheVariants.{Done}
use Rattle.rules.specs.declared.Ran.{Ran}
use Rattle.rules.specs.Commands.{draining}
use Rattle.rules.specs.Sheet.{board_after, room_after}

-- the slice holds so many commands and the room has a byte for each; a drain writes into the room's first byte
pub record Reach (drains : Bool) (s : List ℕ) (most : ℕ) (room : List ℕ) : Type 0 where
  pub sheet : drains ≡ false → (most ≡ length s / 2) × (most ≤ length room)
  pub drain : drains ≡ true → 0 < length room

-- what is handed back, and the room then
pub record Worked (drains : Bool) (b : Board) (s : List ℕ) (most : ℕ) (room : List ℕ) (r : Ran) (after : List ℕ) : Type 0 where
  pub sheet : drains ≡ false → (r ≡ record { answer = Done; commands = most; board = board_after b s most }) × (after ≡ room_after b s room most)
  pub drain : drains ≡ true → r ≡ record { answer = Done; commands = (draining most b).made; board = (draining most b).board }
