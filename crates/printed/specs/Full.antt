-- The paper's sheets and their texts, byte for byte: the run in full, of which "It prints 20 lines", and the refused ones.
use Rattle.std.specs.Prelude.{ℕ, ◌≡◌, List, [], ◌∷◌, ◌++◌}
use Prim.Native.String as Text
use Rattle.rules.specs.Cases.{in_full, TableHolds}
use Rattle.text.specs.Text.{bytes}
use Rattle.printed.specs.Lines.{printed_sheet}

abbrev line : Text.String → List ℕ
line t = bytes t ++ 10 ∷ []

-- "command number from 1 and answer, `1 0`, `2 0` and so on to `14 0`, then `15 11`"
abbrev answers : List ℕ
answers = line "1 0"
    ++ line "2 0"
    ++ line "3 0"
    ++ line "4 0"
    ++ line "5 0"
    ++ line "6 0"
    ++ line "7 0"
    ++ line "8 0"
    ++ line "9 0"
    ++ line "10 0"
    ++ line "11 0"
    ++ line "12 0"
    ++ line "13 0"
    ++ line "14 0"
    ++ line "15 11"

-- the objects, the rings and the last line
abbrev state : List ℕ
state = line "o0 0X / 1X" ++ line "o1 1X / 0X" ++ line "ring 0 1" ++ line "ring 1 0" ++ line "messages 0 rings 2"

-- a sheet and what is printed for it
pub record Row : Type 0 where
  pub sheet : List ℕ
  pub text : List ℕ

unfoldable pub texts : List Row
texts =
    -- the run in full
    record { sheet = in_full; text = answers ++ state }
    -- `12 22 04 10` alone runs no command; "an empty side prints nothing and its space is left out"
    ∷ record { sheet = 18 ∷ 34 ∷ 4 ∷ 16 ∷ []; text = line "o0 /" ++ line "o1 /" ++ line "messages 0 rings 0" }
    -- empty sheet 12; 12 22 04: 12; 22 22: 13; 12 23 04 10: 14; 12 22 E4 10: 2
    ∷ record { sheet = []; text = line "sheet 12" }
    ∷ record { sheet = 18 ∷ 34 ∷ 4 ∷ []; text = line "sheet 12" }
    ∷ record { sheet = 34 ∷ 34 ∷ []; text = line "sheet 13" }
    ∷ record { sheet = 18 ∷ 35 ∷ 4 ∷ 16 ∷ []; text = line "sheet 14" }
    ∷ record { sheet = 18 ∷ 34 ∷ 228 ∷ 16 ∷ []; text = line "sheet 2" }
    ∷ []

abbrev AllPrinted : List Row → Type 0
AllPrinted [] = Unit {0}
AllPrinted (r ∷ rs) = (printed_sheet r.sheet ≡ r.text) × AllPrinted rs

abbrev pub TextsHold : Type 0
TextsHold = AllPrinted texts

-- "Marked (P) are proved, as a single table under one statement": on answers and boards, and on what is printed
abbrev pub PaperHolds : Type 0
PaperHolds = TableHolds × TextsHold
