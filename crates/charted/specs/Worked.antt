-- A stream and what is printed for it, byte for byte: the paper's run in full, and a sheet or more for each refusal.
use Rattle.std.specs.Prelude.{ℕ, ◌≡◌, List, [], ◌∷◌, ◌++◌, replicate}
use Prim.Native.String as Text
use Rattle.rules.specs.Cases.{in_full}
use Rattle.text.specs.Text.{bytes}
use Rattle.totals.specs.Stream.{sheets_in}
use Rattle.totals.specs.Totals.{totals_of}
use Rattle.charted.specs.Lines.{chart_lines}

unfoldable pub stream : List ℕ
stream =
    -- the run in full: 34 bytes
    (0 ∷ 34 ∷ in_full)
    -- `12 22 04 10` alone runs no command; with a byte more it is refused with 15
    ++ (0 ∷ 4 ∷ 18 ∷ 34 ∷ 4 ∷ 16 ∷ [])
    ++ (0 ∷ 5 ∷ 18 ∷ 34 ∷ 4 ∷ 16 ∷ 0 ∷ [])
    -- empty sheet 12; 22 22: 13; 12 23 04 10: 14; 12 22 E4 10: 2
    ++ (0 ∷ 0 ∷ [])
    ++ (0 ∷ 2 ∷ 34 ∷ 34 ∷ [])
    ++ (0 ∷ 4 ∷ 18 ∷ 35 ∷ 4 ∷ 16 ∷ [])
    ++ (0 ∷ 4 ∷ 18 ∷ 34 ∷ 228 ∷ 16 ∷ [])
    -- 8,207 bytes: one more than the buffer holds
    ++ (32 ∷ 15 ∷ replicate 8207 0)
    -- the stream ends inside the last sheet
    ++ (0 ∷ 4 ∷ 18 ∷ 34 ∷ [])

abbrev line : Text.String → List ℕ
line t = bytes t ++ 10 ∷ []

unfoldable pub lines : List ℕ
lines = line "sheets 9"
    ++ line "ran 2"
    ++ line "refused 7"
    ++ line "refused 2 1"
    ++ line "refused 12 2"
    ++ line "refused 13 1"
    ++ line "refused 14 1"
    ++ line "refused 15 1"
    ++ line "refused 16 1"
    ++ line "ringed 1"
    ++ line "rings 2 2"
    ++ line "rings 3 0"
    ++ line "rings 4 0"
    ++ line "rings 5 0"
    ++ line "rings 6 0"
    ++ line "rings 7 0"
    ++ line "rings 8 0"
    ++ line "rings 9 0"
    ++ line "rings 10 0"
    ++ line "rings 11 0"
    ++ line "rings 12 0"
    ++ line "rings 13 0"
    ++ line "rings 14 0"
    ++ line "rings 15 0"
    ++ line "rings 16 0"

abbrev pub WorkedHolds : Type 0
WorkedHolds = chart_lines (totals_of (sheets_in stream)) ≡ lines
