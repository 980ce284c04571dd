-- Which verb a verb is: each has its number, in the order in which they are declared.
use Rattle.std.specs.Prelude.{ℕ, Bool, eqb}
use Rattle.typed.specs.declared.Verb.{Verb}
use Rattle.typed.specs.declared.Verb.TheVariants.{Blank, Open, Request, Release, Deliver, Drain, Follow, Show, Messages, Waits, Rings, Undo, Help, Quit, Unknown}

abbrev pub number_of : Verb → ℕ
number_of Blank = 0
number_of Open = 1
number_of Request = 2
number_of Release = 3
number_of Deliver = 4
number_of Drain = 5
number_of Follow = 6
number_of Show = 7
number_of Messages = 8
number_of Waits = 9
number_of Rings = 10
number_of Undo = 11
number_of Help = 12
number_of Quit = 13
number_of Unknown = 14

-- one verb is the other
abbrev pub is : Verb → Verb → Bool
is v w = eqb (number_of v) (number_of w)
