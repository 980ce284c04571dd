-- Answers: the number of each, and how a list of tests decides.
use Rattle.std.specs.Prelude.{ℕ, Bool, List, [], ◌∷◌, eqb, get_or}
use Rattle.rules.specs.declared.Answer.{Answer}
use Rattle.rules.specs.declared.Answer.TheVariants.{Done, CountOutside, HomeOutside, NoProcess, NoObject, NoMode, ProcessWaits, HasReleased, HoldsAlready, HoldsNot, LoadTooHigh, NoMessage, SheetCut, WrongForm, SpareBit, OddByte, TooManyCommands, OutOfShape, RoomTooShort}
use Rattle.rules.specs.Tables.{pick}

-- the table of answer numbers
abbrev pub number : Answer → ℕ
number Done = 0
number CountOutside = 1
number HomeOutside = 2
number NoProcess = 3
number NoObject = 4
number NoMode = 5
number ProcessWaits = 6
number HasReleased = 7
number HoldsAlready = 8
number HoldsNot = 9
number LoadTooHigh = 10
number NoMessage = 11
number SheetCut = 12
number WrongForm = 13
number SpareBit = 14
number OddByte = 15
number TooManyCommands = 16
number OutOfShape = 17
number RoomTooShort = 18

-- the first test that holds gives the answer; where none does, it is done
unfoldable pub first_of : List (Bool × Answer) → Answer
first_of [] = Done
first_of (t ∷ ts) = pick t.0 t.1 (first_of ts)

-- "0 is done."
abbrev pub done : Answer → Bool
done a = eqb (number a) 0

-- the answers in the table's order, without the last
abbrev pub answers : List Answer
answers = Done ∷ CountOutside ∷ HomeOutside ∷ NoProcess ∷ NoObject ∷ NoMode ∷ ProcessWaits ∷ HasReleased ∷ HoldsAlready ∷ HoldsNot
    ∷ LoadTooHigh ∷ NoMessage ∷ SheetCut ∷ WrongForm ∷ SpareBit ∷ OddByte ∷ TooManyCommands ∷ OutOfShape ∷ []

-- the answer that a number stands for
unfoldable pub answer_of : ℕ → Answer
answer_of n = get_or answers n RoomTooShort
