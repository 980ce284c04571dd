-- Lines that the checker has computed: whole or not, and what they ask.
use Rattle.std.proofs.Common.{◌≡◌, refl, Bool, true, false, List, [], ◌∷◌, ℕ, take}
use Prim.Native.String as Text
use Rattle.rules.specs.Tables.{rows}
use Rattle.rules.specs.declared.Command.{Command}
use Rattle.rules.specs.declared.Command.TheVariants as Do
use Rattle.typed.specs.Words.{comment_at, blank, of_sort, run, words_from}
use Rattle.typed.specs.Names.{bytes, alike, place_in, verb_of}
use Rattle.typed.specs.Numbers.{is_digit, decimal_from, decimal, mode_or, mode, asks_mode, letter_at, letter, digits, meaning}
use Rattle.typed.specs.Reading.{with_words, reading}
use Rattle.typed.specs.Homes.{homes}
use Rattle.asked.specs.Lines.{takes, count_outside, opens, has_all, is_whole}
use Rattle.asked.specs.Asked.{command_of, command, budget, in_turn, homes_behind}

abbrev Whole : Text.String → Bool → Type 0
Whole s answer = is_whole (reading (bytes s)) ≡ answer

abbrev Asks : Text.String → Command → Type 0
Asks s c = command (reading (bytes s)) ≡ c

abbrev Lives : Text.String → ℕ → List ℕ → Type 0
Lives s others hs = take 4 (homes_behind (reading (bytes s)) others) ≡ hs

-- an opening has its counts alone, or all homes; with a count outside its limit any homes
pub wholes : Whole "open 3 3 2" true
    × Whole "open 3 3 2 0 1 2 0 1" true
    × Whole "open 3 3 2 0 1 2 0" false
    × Whole "open 9 3 2 0" true
    × Whole "open 3 3" false
    × Whole "request 0 1 x" true
    × Whole "request 0 1" false
    × Whole "request 0 one x" false
    × Whole "drain" true
    × Whole "drain 3" true
    × Whole "drain 3 4" false
    × Whole "follow 3 # at most" true
    × Whole "show" true
    × Whole "show 2" true
    × Whole "show p2" false
    × Whole "messages 1 2" false
    × Whole "waits" true
    × Whole "waits 1" true
    × Whole "waits 1 2" false
    × Whole "rings 2" false
    × Whole "undo" true
    × Whole "undo 1" false
    × Whole "" false
    × Whole "# undo" false
    × Whole "grant 0 1" false
unfolding reading with_words comment_at words_from run blank of_sort alike place_in verb_of is_digit decimal_from decimal mode_or mode asks_mode letter_at letter digits meaning takes count_outside opens has_all is_whole
wholes = (refl, refl, refl, refl, refl, refl, refl, refl, refl, refl, refl, refl, refl, refl, refl, refl, refl, refl, refl, refl, refl, refl, refl, refl, refl)

-- the board takes a number above 255 as 255
pub asks : Asks "request 0 1 x" (Do.Request 0 1 1)
    × Asks "r 2 300 shared" (Do.Request 2 255 0)
    × Asks "release 4 5" (Do.Release 4 5)
    × Asks "release p4 o5 # both" (Do.Release 4 5)
    × Asks "deliver 7" (Do.Deliver 7)
    × (budget (reading (bytes "drain")) ≡ 65535)
    × (budget (reading (bytes "drain 300")) ≡ 300)
    × (budget (reading (bytes "f 5")) ≡ 5)
unfolding reading with_words comment_at words_from run blank of_sort alike place_in verb_of is_digit decimal_from decimal mode_or mode asks_mode letter_at letter digits meaning command_of
asks = (refl, refl, refl, refl, refl, refl, refl, refl)

-- homes in turn, and typed: those of the objects stand behind those of the processes
pub lives : Lives "open 3 3 2" 0 (0 ∷ 1 ∷ 2 ∷ 0 ∷ [])
    × Lives "open 3 3 2" 3 (0 ∷ 1 ∷ 2 ∷ 0 ∷ [])
    × Lives "open 3 3 2 2 1 0 1 2" 0 (2 ∷ 1 ∷ 0 ∷ 1 ∷ [])
    × Lives "open 3 3 2 2 1 0 1 2" 3 (1 ∷ 2 ∷ 0 ∷ 0 ∷ [])
unfolding reading with_words comment_at words_from run blank of_sort alike place_in verb_of is_digit decimal_from decimal mode_or mode asks_mode letter_at letter digits meaning in_turn homes_behind homes rows
lives = (refl, refl, refl, refl)
