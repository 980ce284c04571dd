-- The words of the paper's table for an answer, and those for a mode.
use Rattle.std.specs.Prelude.{List, [], ◌∷◌, ℕ}
use Rattle.rules.specs.Letters.{bytes}
use Rattle.rules.specs.declared.Answer.{Answer}
use Rattle.rules.specs.declared.Answer.TheVariants.{Done, CountOutside, HomeOutside, NoProcess, NoObject, NoMode, ProcessWaits, HasReleased, HoldsAlready, HoldsNot, LoadTooHigh, NoMessage, SheetCut, WrongForm, SpareBit, OddByte, TooManyCommands, OutOfShape, RoomTooShort}
use Rattle.rules.specs.declared.Mode.{Mode}
use Rattle.rules.specs.declared.Mode.TheVariants.{Shared, Exclusive}

abbrev pub answer_words : Answer → List ℕ
answer_words Done = bytes "done"
answer_words CountOutside = bytes "refused: a count outside its limit"
answer_words HomeOutside = bytes "refused: a home node not below the node count"
answer_words NoProcess = bytes "refused: no such process"
answer_words NoObject = bytes "refused: no such object"
answer_words NoMode = bytes "refused: mode neither 0 nor 1"
answer_words ProcessWaits = bytes "refused: its home has the process waiting"
answer_words HasReleased = bytes "refused: the process has released before"
answer_words HoldsAlready = bytes "refused: its home has it holding that object"
answer_words HoldsNot = bytes "refused: its home does not have it holding that object"
answer_words LoadTooHigh = bytes "refused: load above 62 (request) or above 63 (release)"
answer_words NoMessage = bytes "refused: message number above 63 or not in flight"
answer_words SheetCut = bytes "refused: sheet ends inside its header or homes"
answer_words WrongForm = bytes "refused: form is not 1"
answer_words SpareBit = bytes "refused: a spare bit is set"
answer_words OddByte = bytes "refused: one byte is left after the last whole command"
answer_words TooManyCommands = bytes "refused: more than 4,096 commands"
answer_words OutOfShape = bytes "refused: board out of shape"
answer_words RoomTooShort = bytes "refused: answer room shorter than the number of commands"

abbrev pub mode_word : Mode → List ℕ
mode_word Shared = bytes "shared"
mode_word Exclusive = bytes "exclusive"
