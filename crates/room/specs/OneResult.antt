-- "The board is stepped in the room its owner lends, as well as by value; both give one result."
use Rattle.std.specs.Prelude.{◌≡◌}
use Rattle.rules.specs.declared.Board.{Board}
use Rattle.rules.specs.declared.Command.{Command}
use Rattle.rules.specs.declared.Answer.{Answer}
use Rattle.rules.specs.declared.Stepped.{Stepped}
use Rattle.rules.specs.Shape.{step}

-- what the step by value may hand back
abbrev pub ByValue : Board → Command → Stepped → Type 0
ByValue b c r = r ≡ step b c

-- what the step in lent room may answer, and the board that may stand in the room after it
abbrev pub InRoom : Board → Command → Answer → Board → Type 0
InRoom b c answer after = (answer ≡ (step b c).answer) × (after ≡ (step b c).board)

-- "both give one result": the same answer and the same board, refusals too
abbrev pub OneResult : Type 0
OneResult = (b : Board) (c : Command) (r : Stepped) (answer : Answer) (after : Board) → ByValue b c r → InRoom b c answer after → (answer ≡ r.answer) × (after ≡ r.board)
