-- What `board` prints, to the letter: "One run in full" of document 01.
use Rattle.std.specs.Prelude.{ℕ, ◌+◌, List, [], ◌∷◌, ◌++◌, eqb, get_or, replicate}
use Rattle.std.proofs.Math.Option.{Option, none, some}
use Rattle.rules.specs.declared.Mode.{Mode}
use Rattle.rules.specs.declared.Mode.TheVariants.{Shared, Exclusive}
use Rattle.rules.specs.declared.Object.{Object}
use Rattle.rules.specs.declared.Ring.{Ring}
use Rattle.rules.specs.declared.Board.{Board}
use Rattle.rules.specs.declared.Ran.{Ran}
use Rattle.rules.specs.Tables.{pick, rows, count_of}
use Rattle.rules.specs.Answers.{number, done}
use Rattle.rules.specs.Book.{holder_at, who_at, mode_at}
use Rattle.rules.specs.Board.{object_at, ring_at, in_flight, tally}
use Rattle.rules.specs.Sheet.{run_sheet}
use Rattle.text.specs.Text.{bytes, decimal, line_of, flat, at_most}

-- ---- object lines
-- "with S or X"
abbrev pub letter : Mode → ℕ
letter Shared = 83
letter Exclusive = 88

-- a process and the letter of its mode, as in `0X`
unfoldable pub entry : ℕ → Mode → List ℕ
entry p m = decimal p ++ letter m ∷ []

-- of a process that may hold, its entry, or none
abbrev pub entry_if : ℕ → Option Mode → List (List ℕ)
entry_if p none = []
entry_if p (some m) = entry p m ∷ []

-- "holders by rising number"
unfoldable pub holder_entries : Object → List (List ℕ)
holder_entries o = flat 16 (λ p. entry_if p (holder_at o p))

-- "the line from the front"
unfoldable pub line_entries : Object → List (List ℕ)
line_entries o = rows (at_most 16 o.line_count) (λ k. entry (who_at o k) (mode_at o k))

-- "Object lines: object, holders by rising number with S or X, a slash, the line from the front; entries are parted by one space; an
-- empty side prints nothing and its space is left out."
unfoldable pub object_line : ℕ → Object → List ℕ
object_line i o = line_of ((111 ∷ decimal i) ∷ holder_entries o ++ (47 ∷ []) ∷ line_entries o)

unfoldable pub object_lines : Board → List ℕ
object_lines b = flat (at_most 16 b.object_count) (λ i. object_line i (object_at b i))

-- ---- "Ring lines by starter.": `ring` and the processes, starter first; an empty place has no line
unfoldable pub ring_entries : Ring → List (List ℕ)
ring_entries r = rows (at_most 16 r.count) (λ k. decimal (get_or r.processes k 0))

abbrev pub word_ring : List ℕ
word_ring = bytes "ring"

unfoldable pub ring_line : Ring → List ℕ
ring_line r = pick (eqb r.count 0) [] (line_of (word_ring ∷ ring_entries r))

unfoldable pub ring_lines : Board → List ℕ
ring_lines b = flat 16 (λ s. ring_line (ring_at b s))

-- ---- "Last: messages in flight and tally.", as in `messages 0 rings 2`
abbrev pub word_messages : List ℕ
word_messages = bytes "messages"

abbrev pub word_rings : List ℕ
word_rings = bytes "rings"

unfoldable pub last_line : Board → List ℕ
last_line b = line_of (word_messages ∷ decimal (count_of 64 (in_flight b)) ∷ word_rings ∷ decimal (tally b) ∷ [])

-- ---- "command number from 1 and answer": of the command at a place of the sheet, from 0
unfoldable pub command_line : ℕ → ℕ → List ℕ
command_line i answer = line_of (decimal (i + 1) ∷ decimal answer ∷ [])

unfoldable pub command_lines : ℕ → List ℕ → List ℕ
command_lines n room = flat (at_most 4096 n) (λ i. command_line i (get_or room i 0))

-- ---- "For a refused sheet it prints only `sheet` and the number."
abbrev pub word_sheet : List ℕ
word_sheet = bytes "sheet"

unfoldable pub refused_line : ℕ → List ℕ
refused_line n = line_of (word_sheet ∷ decimal n ∷ [])

-- ---- the whole text of a run, of which the answers stand in a room
unfoldable pub printed : Ran → List ℕ → List ℕ
printed ran room = pick (done ran.answer)
    (command_lines ran.commands room ++ object_lines ran.board ++ ring_lines ran.board ++ last_line ran.board)
    (refused_line (number ran.answer))

-- "The program `board` reads a sheet on standard input .. It prints ..": the room for the answers is as long as the longest sheet's
unfoldable pub printed_sheet : List ℕ → List ℕ
printed_sheet s = let r = run_sheet s (replicate 4096 0) in printed r.ran r.room
