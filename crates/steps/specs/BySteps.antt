-- The commands of a part one by one, each by a call of its own, which asks the shape of the board first.
use Rattle.std.specs.Prelude.{◌≡◌, ℕ, zero, suc, ◌-◌, ◌/◌, min, List, [], ◌∷◌, set, length, take}
use Rattle.rules.specs.declared.Board.{Board}
use Rattle.rules.specs.declared.Command.{Command}
use Rattle.rules.specs.declared.Ran.{Ran}
use Rattle.rules.specs.declared.Stepped.{Stepped}
use Rattle.rules.specs.Answers.{number}
use Rattle.rules.specs.Shape.{step}
use Rattle.rules.specs.Sheet.{command_at, commands_part, Run, run_sheet}

-- a step whose result is always the rule's
abbrev pub ByRule : (Board → Command → Stepped → Type 0) → Type 0
ByRule post = (b : Board) (c : Command) (r : Stepped) → post b c r → r ≡ step b c

-- the board after i commands
unfoldable pub board_by_steps : Board → List ℕ → ℕ → Board
board_by_steps b s zero = b
board_by_steps b s (suc i) = (step (board_by_steps b s i) (command_at s i)).board

-- the room after i commands, the answer of each as one byte
unfoldable pub room_by_steps : Board → List ℕ → List ℕ → ℕ → List ℕ
room_by_steps b s room zero = room
room_by_steps b s room (suc i) = set (room_by_steps b s room i) i (number (step (board_by_steps b s i) (command_at s i)).answer)

-- a board that was opened, and the first n commands of a part on it
abbrev pub on_opened : Ran → List ℕ → ℕ → List ℕ → Run
on_opened opened part n room = record {
  ran = record { answer = opened.answer; commands = n; board = board_by_steps opened.board part n };
  room = room_by_steps opened.board part room n;
}

-- the sheet without its commands, which needs no room; and how many commands its part holds, of which there is room for 4,096
abbrev pub opened_by : List ℕ → List ℕ → Ran
opened_by s part = (run_sheet (take (length s - length part) s) (0 ∷ [])).ran

abbrev pub commands_of : List ℕ → ℕ
commands_of part = min (length part / 2) 4096

unfoldable pub by_steps : List ℕ → List ℕ → Run
by_steps s room = on_opened (opened_by s (commands_part s)) (commands_part s) (commands_of (commands_part s)) room
