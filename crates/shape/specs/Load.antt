-- The shape and the load at once.
use Rattle.std.specs.Prelude.{ℕ, Option, Some, None}
use Rattle.rules.specs.declared.Board.{Board}
use Rattle.rules.specs.Tables.{pick}
use Rattle.rules.specs.Board.{load}
use Rattle.rules.specs.Shape.{in_shape}

-- the load of a board in shape, which is at most 64; none for a board that is not
unfoldable pub load_in_shape : Board → Option ℕ
load_in_shape b = pick (in_shape b) (Some (load b)) None
