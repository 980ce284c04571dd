-- Which typed lines are whole commands.
use Rattle.std.specs.Prelude.{ℕ, ◌+◌, Bool, false, ◌&&◌, List, eqb, leb, ltb}
use Rattle.std.specs.Option.{is_none}
use Rattle.rules.specs.Tables.{pick, either}
use Rattle.rules.specs.Commands.{outside}
use Rattle.typed.specs.declared.Verb.{Verb}
use Rattle.typed.specs.declared.Verb.TheVariants.{Blank, Open, Request, Release, Deliver, Drain, Follow, Show, Messages, Waits, Rings, Undo, Help, Quit, Unknown}
use Rattle.typed.specs.declared.Typed.{Typed}
use Rattle.typed.specs.Verbs.{is}
use Rattle.typed.specs.Homes.{number_at}

-- The least and the most words that a verb takes: of a drain and a follow the budget may be left out, of show, messages and waits the node.
-- A line that names no verb has never enough.
unfoldable pub takes : Verb → ℕ × ℕ
takes Open = (3, 35)
takes Request = (3, 3)
takes Release = (2, 2)
takes Deliver = (1, 1)
takes Drain = (0, 1)
takes Follow = (0, 1)
takes Show = (0, 1)
takes Messages = (0, 1)
takes Waits = (0, 1)
takes Rings = (0, 0)
takes Undo = (0, 0)
takes Help = (0, 0)
takes Quit = (0, 0)
takes Blank = (1, 0)
takes Unknown = (1, 0)

abbrev pub least : Verb → ℕ
least v = (takes v).0

abbrev pub most : Verb → ℕ
most v = (takes v).1

-- ---- an opening: the counts of nodes, processes and objects, then homes
-- "Limits: 1 to 8 nodes, 1 to 16 processes, 1 to 16 objects"
unfoldable pub count_outside : List ℕ → Bool
count_outside row = either (outside (number_at row 0) 8) (either (outside (number_at row 1) 16) (outside (number_at row 2) 16))

-- three counts, and a home for each process and object
abbrev pub with_homes : List ℕ → ℕ
with_homes row = 3 + number_at row 1 + number_at row 2

-- It types its counts alone, or all homes too. Where a count is outside its limit the board refuses it, whatever homes follow.
unfoldable pub opens : List ℕ → ℕ → Bool
opens row count = pick (ltb count 3) false (either (eqb count 3) (either (eqb count (with_homes row)) (count_outside row)))

-- ---- any line
-- as many words as the verb takes
unfoldable pub has_all : Verb → List ℕ → ℕ → Bool
has_all v row count = pick (is v Open) (opens row count) (leb (least v) count && leb count (most v))

-- each word is understood, and they are as many as the verb takes
unfoldable pub is_whole : Typed → Bool
is_whole t = pick (is_none t.odd) (has_all t.verb t.numbers t.count) false
