-- The packed sheet: its fields, its refusals in order, the commands that it holds, and what running it does to the board and to
-- every byte of the answer room. A sheet is a list of bytes; a field is named by the number of its first bit.
use Rattle.std.specs.Prelude.{ℕ, zero, suc, ◌+◌, ◌-◌, ◌*◌, ◌/◌, ◌%◌, ◌^◌, Bool, not, List, [], ◌∷◌, eqb, ltb, set, get_or, length, drop}
use Rattle.rules.specs.declared.Board.{Board}
use Rattle.rules.specs.declared.Command.{Command}
use Rattle.rules.specs.declared.Command.TheVariants as Do
use Rattle.rules.specs.declared.Answer.{Answer}
use Rattle.rules.specs.declared.Answer.TheVariants.{Done, HomeOutside, SheetCut, WrongForm, SpareBit, OddByte, TooManyCommands, OutOfShape, RoomTooShort}
use Rattle.rules.specs.declared.Ran.{Ran}
use Rattle.rules.specs.Tables.{pick, rows, all}
use Rattle.rules.specs.Answers.{number, done, first_of}
use Rattle.rules.specs.Commands.{turn, home_outside, opening, zero_board}
use Rattle.rules.specs.Shape.{in_shape}

-- ---- fields: "Fields are bit-packed, most significant first."
abbrev pub bit_at : List ℕ → ℕ → ℕ
bit_at s i = get_or s (i / 8) 0 / 2 ^ (7 - i % 8) % 2

-- the number that n bits from bit `at` on stand for
unfoldable pub field : List ℕ → ℕ → ℕ → ℕ
field s at zero = 0
field s at (suc n) = 2 * field s at n + bit_at s (at + n)

-- ---- "Header, 16 bits: form 4 (value 1), nodes less one 3, processes less one 4, objects less one 4, one spare."
abbrev pub form_of : List ℕ → ℕ
form_of s = field s 0 4

abbrev pub nodes_of : List ℕ → ℕ
nodes_of s = field s 4 3 + 1

abbrev pub processes_of : List ℕ → ℕ
processes_of s = field s 7 4 + 1

abbrev pub objects_of : List ℕ → ℕ
objects_of s = field s 11 4 + 1

abbrev pub header_spare : List ℕ → ℕ
header_spare s = field s 15 1

-- ---- "Then 3 bits of home for each process, then for each object, then spare bits to the byte's end."
-- n homes from bit `at` on; the places past them hold zero
unfoldable pub homes_from : List ℕ → ℕ → ℕ → List ℕ
homes_from s at n = rows 16 (λ k. pick (ltb k n) (field s (at + 3 * k) 3) 0)

abbrev pub process_homes : List ℕ → List ℕ
process_homes s = homes_from s 16 (processes_of s)

abbrev pub object_homes : List ℕ → List ℕ
object_homes s = homes_from s (16 + 3 * processes_of s) (objects_of s)

-- the bit after the homes, and the byte at which the commands start
abbrev pub homes_end : List ℕ → ℕ
homes_end s = 16 + 3 * (processes_of s + objects_of s)

abbrev pub commands_start : List ℕ → ℕ
commands_start s = (homes_end s + 7) / 8

abbrev pub spare_in_homes : List ℕ → ℕ
spare_in_homes s = field s (homes_end s) (8 * commands_start s - homes_end s)

-- ---- "Then commands of 16 bits: kind 2 (0 shared request, 1 exclusive request, 2 release, 3 deliver)."
-- Over the part of the sheet that holds the commands, command i starts at bit 16 * i.
abbrev pub kind_of : List ℕ → ℕ → ℕ
kind_of s i = field s (16 * i) 2

-- "Kinds 0 to 2 go on with process 4, object 4, six spare; kind 3 with message number 6, eight spare."
abbrev pub by_kind {ℓ} : {A : Type ℓ} → ℕ → A → A → A → A
by_kind k request release deliver = pick (ltb k 2) request (pick (eqb k 2) release deliver)

unfoldable pub command_at : List ℕ → ℕ → Command
command_at s i =
    let p = field s (16 * i + 2) 4 in
    let o = field s (16 * i + 6) 4 in
    by_kind (kind_of s i) (Do.Request p o (kind_of s i)) (Do.Release p o) (Do.Deliver (field s (16 * i + 2) 6))

unfoldable pub command_spare : List ℕ → ℕ → ℕ
command_spare s i = let six = field s (16 * i + 10) 6 in by_kind (kind_of s i) six six (field s (16 * i + 8) 8)

-- a spare bit is set in one of the first n commands
abbrev pub any_spare : List ℕ → ℕ → Bool
any_spare s n = not (all n (λ i. eqb (command_spare s i) 0))

-- whole commands
abbrev pub command_count : List ℕ → ℕ
command_count s = length s / 2

-- ---- running commands into lent room, on a board whose shape is known: board and room after i commands
unfoldable pub board_after : Board → List ℕ → ℕ → Board
board_after b s zero = b
board_after b s (suc i) = (turn (board_after b s i) (command_at s i)).board

-- "each writes its answer as one byte"
unfoldable pub room_after : Board → List ℕ → List ℕ → ℕ → List ℕ
room_after b s room zero = room
room_after b s room (suc i) = set (room_after b s room i) i (number (turn (board_after b s i) (command_at s i)).answer)

-- what running hands back, and every byte of the room
pub record Run : Type 0 where
  pub ran : Ran
  pub room : List ℕ

abbrev pub refused_run : Answer → Board → List ℕ → Run
refused_run a b room = record { ran = record { answer = a; commands = 0; board = b }; room = room }

abbrev pub whole_run : Board → List ℕ → List ℕ → ℕ → Run
whole_run b s room n = record { ran = record { answer = Done; commands = n; board = board_after b s n }; room = room_after b s room n }

-- ---- one call for many commands on any board, which the paper does not name: it is what runs the commands part of a sheet.
-- Being one call it asks the shape once, then for an odd byte, then for the room; it reads the fields, and spare bits are the sheet's.
abbrev pub room_tests : List ℕ → List ℕ → List (Bool × Answer)
room_tests s room = (eqb (length s % 2) 1, OddByte) ∷ (ltb (length room) (command_count s), RoomTooShort) ∷ []

abbrev pub run_tests : Board → List ℕ → List ℕ → List (Bool × Answer)
run_tests b s room = (not (in_shape b), OutOfShape) ∷ room_tests s room

unfoldable pub run : Board → List ℕ → List ℕ → Run
run b s room = let a = first_of (run_tests b s room) in
    pick (done a) (whole_run b s room (command_count s)) (refused_run a b room)

-- an opening and the commands on it in one call, on a board that is in shape: the opening's answer, then an odd byte, then the room.
-- "Where a refused opening or sheet hands back a board by value, that board is all zeros."
abbrev pub opening_run_tests : Answer → List ℕ → List ℕ → List (Bool × Answer)
opening_run_tests opened s room = (not (done opened), opened) ∷ room_tests s room

unfoldable pub run_opening : ℕ → ℕ → ℕ → List ℕ → List ℕ → List ℕ → List ℕ → Run
run_opening nodes processes objects home_of_process home_of_object s room =
    let opened = opening nodes processes objects home_of_process home_of_object in
    let a = first_of (opening_run_tests opened.answer s room) in
    pick (done a) (whole_run opened.board s room (command_count s)) (refused_run a zero_board room)

-- ---- the sheet
abbrev pub after_homes : List ℕ → List ℕ
after_homes s = drop (commands_start s) s

-- "Order: 12 (header), 13, 14 (header), 12 (homes), 2, 14 (homes), 15, 16, 14 (commands), 18."
abbrev pub reader_tests : List ℕ → List (Bool × Answer)
reader_tests s = (ltb (length s) 2, SheetCut)
    ∷ (not (eqb (form_of s) 1), WrongForm)
    ∷ (not (eqb (header_spare s) 0), SpareBit)
    ∷ (ltb (length s) (commands_start s), SheetCut)
    ∷ (home_outside (nodes_of s) (processes_of s) (process_homes s), HomeOutside)
    ∷ (home_outside (nodes_of s) (objects_of s) (object_homes s), HomeOutside)
    ∷ (not (eqb (spare_in_homes s) 0), SpareBit)
    ∷ (eqb (length (after_homes s) % 2) 1, OddByte)
    ∷ (ltb 4096 (command_count (after_homes s)), TooManyCommands)
    ∷ (any_spare (after_homes s) (command_count (after_homes s)), SpareBit) ∷ []

unfoldable pub reader_answer : List ℕ → Answer
reader_answer s = first_of (reader_tests s)

-- "hands back the part of the sheet that holds the commands; for a sheet that the reader refuses (18 aside) it hands back an empty part"
unfoldable pub commands_part : List ℕ → List ℕ
commands_part s = pick (done (reader_answer s)) (after_homes s) []

unfoldable pub sheet_answer : List ℕ → List ℕ → Answer
sheet_answer s room = first_of ((not (done (reader_answer s)), reader_answer s) ∷ (ltb (length room) (command_count (commands_part s)), RoomTooShort) ∷ [])

abbrev pub opening_of : List ℕ → Board
opening_of s = (opening (nodes_of s) (processes_of s) (objects_of s) (process_homes s) (object_homes s)).board

-- "A refused sheet runs nothing. A good one runs all commands; refused commands count as commands .. Bytes of the answer room beyond them stay."
unfoldable pub run_sheet : List ℕ → List ℕ → Run
run_sheet s room = let a = sheet_answer s room in
    pick (done a) (whole_run (opening_of s) (commands_part s) room (command_count (commands_part s))) (refused_run a zero_board room)
