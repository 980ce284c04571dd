-- A command packed for the engine.
use Rattle.std.specs.Prelude.{◌≡◌, ◌⊎◌, ◌≤◌, ◌<◌, ℕ, List, Result, MatchResult}
use Rattle.rules.specs.declared.Board.{Board}
use Rattle.rules.specs.declared.Command.{Command}
use Rattle.rules.specs.declared.Answer.{Answer}
use Rattle.rules.specs.declared.Answer.TheVariants.{NoProcess, NoObject}
use Rattle.rules.specs.declared.Stepped.{Stepped}
use Rattle.rules.specs.Commands.{turn}
use Rattle.rules.specs.Sheet.{command_at}

-- the answer to a process or an object that a board with pc processes and oc objects does not have
abbrev pub Outside : ℕ → ℕ → ℕ → ℕ → Answer → Type 0
Outside p o pc oc a = ((pc ≤ p) × (a ≡ NoProcess)) ⊎ ((p < pc) × (oc ≤ o) × (a ≡ NoObject))

-- every board with pc processes and oc objects answers the command so, and stays as it was
abbrev pub Refuses : ℕ → ℕ → Command → Answer → Type 0
Refuses pc oc c a = (b : Board) → b.process_count ≡ pc → b.object_count ≡ oc → ◌≡◌ {A = Stepped} (record { answer = a; board = b }) (turn b c)

-- what a command is packed into where a board has pc processes and oc objects: two bytes that stand for it, or the answer that every
-- such board refuses it with
abbrev pub Packs : ℕ → ℕ → Command → Result (List ℕ) Answer → Type 0
Packs pc oc c r = MatchResult r (λ bytes. command_at bytes 0 ≡ c) (Refuses pc oc c)
