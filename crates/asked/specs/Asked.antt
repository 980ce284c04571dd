-- What a whole line asks of a board: a command, a drain's budget, or an opening. The board takes a number above 255 as 255.
use Rattle.std.specs.Prelude.{ℕ, ◌%◌, List, eqb, get_or}
use Rattle.rules.specs.Tables.{pick, rows}
use Rattle.rules.specs.Commands.{opening}
use Rattle.rules.specs.declared.Command.{Command}
use Rattle.rules.specs.declared.Command.TheVariants as Do
use Rattle.rules.specs.declared.Stepped.{Stepped}
use Rattle.typed.specs.declared.Verb.{Verb}
use Rattle.typed.specs.declared.Verb.TheVariants.{Request, Release}
use Rattle.typed.specs.declared.Typed.{Typed}
use Rattle.typed.specs.Verbs.{is}
use Rattle.typed.specs.Homes.{number_at, homes}

-- ---- a command: process, object and mode of a request; process and object of a release; the message number of a delivery
-- A verb that names no command is as a delivery: such a line asks nothing of the board.
unfoldable pub command_of : Verb → ℕ → ℕ → ℕ → Command
command_of v p o m = pick (is v Request) (Do.Request p o m) (pick (is v Release) (Do.Release p o) (Do.Deliver p))

abbrev pub command : Typed → Command
command t = command_of t.verb (number_at t.numbers 0) (number_at t.numbers 1) (number_at t.numbers 2)

-- ---- a drain, or a follow; without a budget as many deliveries as a word can name, and no board needs so many
abbrev pub budget : Typed → ℕ
budget t = pick (eqb t.count 0) 65535 (get_or t.numbers 0 0)

-- ---- an opening
-- number k lives on node k modulo the node count; without nodes, on node 0
abbrev pub in_turn_at : ℕ → ℕ → ℕ
in_turn_at nodes k = pick (eqb nodes 0) 0 (k % nodes)

unfoldable pub in_turn : ℕ → List ℕ
in_turn nodes = rows 16 (in_turn_at nodes)

-- the homes behind so many others: those that are typed, or in turn where none is
unfoldable pub homes_behind : Typed → ℕ → List ℕ
homes_behind t others = pick (eqb t.count 3) (in_turn (number_at t.numbers 0)) (homes t.numbers others)

unfoldable pub opened : Typed → Stepped
opened t = opening
    (number_at t.numbers 0)
    (number_at t.numbers 1)
    (number_at t.numbers 2)
    (homes_behind t 0)
    (homes_behind t (number_at t.numbers 1))
