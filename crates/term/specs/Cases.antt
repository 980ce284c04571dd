-- Worked examples as one table: a stream, byte for byte, and its totals.
use Rattle.std.specs.Prelude.{ℕ, ◌≡◌, List, [], ◌∷◌, ◌++◌, set, replicate}
use Rattle.rules.specs.Cases.{in_full}
use Rattle.totals.specs.declared.Totals.{Totals}
use Rattle.totals.specs.Stream.{sheets_in}
use Rattle.totals.specs.Totals.{totals_of}

-- a table by number or by length, nothing in it
abbrev none : List ℕ
none = replicate 17 0

-- how many sheets ran; how many were refused, and by number; how many ended with a ring, and the rings by length
abbrev sums : ℕ → ℕ → ℕ → List ℕ → ℕ → List ℕ → Totals
sums sheets ran refused with ringed rings = record { sheets = sheets; ran = ran; refused = refused; refused_with = with; ringed = ringed; rings = rings }

-- one sheet, refused with n
abbrev refused_once : ℕ → Totals
refused_once n = sums 1 0 1 (set none n 1) 0 none

pub record Row : Type 0 where
  pub stream : List ℕ
  pub totals : Totals

unfoldable pub streams : List Row
streams =
    -- no sheet
    record { stream = []; totals = sums 0 0 0 none 0 none }
    -- "A stream that ends inside a length or a sheet, of any length, counts that sheet with 12": in its length, behind it, in the sheet
    ∷ record { stream = 0 ∷ []; totals = refused_once 12 }
    ∷ record { stream = 0 ∷ 4 ∷ []; totals = refused_once 12 }
    ∷ record { stream = 0 ∷ 4 ∷ 18 ∷ 34 ∷ 4 ∷ []; totals = refused_once 12 }
    ∷ record { stream = 255 ∷ 255 ∷ 18 ∷ 34 ∷ []; totals = refused_once 12 }
    -- a length of 0: an empty sheet is refused with 12
    ∷ record { stream = 0 ∷ 0 ∷ []; totals = refused_once 12 }
    -- 22 22: 13
    ∷ record { stream = 0 ∷ 2 ∷ 34 ∷ 34 ∷ []; totals = refused_once 13 }
    -- 12 22 04 10 runs no command; the next sheet is cut off
    ∷ record { stream = 0 ∷ 4 ∷ 18 ∷ 34 ∷ 4 ∷ 16 ∷ 0 ∷ 4 ∷ 18 ∷ 34 ∷ 4 ∷ []; totals = sums 2 1 1 (set none 12 1) 0 none }
    -- the run in full, with its two rings of length 2, between 22 22 and 12 23 04 10: 14
    ∷ record { stream = (0 ∷ 2 ∷ 34 ∷ 34 ∷ 0 ∷ 34 ∷ in_full) ++ 0 ∷ 4 ∷ 18 ∷ 35 ∷ 4 ∷ 16 ∷ []; totals = sums 3 1 2 (set (set none 13 1) 14 1) 1 (set none 2 2) }
    -- "A longer length is skipped and counted with 16": 8,206 zeros are read, and their form is wrong; 8,207 are skipped, and the sheet
    -- after them is counted; where one of them is missing, they are a sheet that is cut off
    ∷ record { stream = 32 ∷ 14 ∷ replicate 8206 0; totals = refused_once 13 }
    ∷ record { stream = (32 ∷ 15 ∷ replicate 8207 0) ++ 0 ∷ 4 ∷ 18 ∷ 34 ∷ 4 ∷ 16 ∷ []; totals = sums 2 1 1 (set none 16 1) 0 none }
    ∷ record { stream = 32 ∷ 15 ∷ replicate 8206 0; totals = refused_once 12 }
    -- the largest length
    ∷ record { stream = (255 ∷ 255 ∷ replicate 65535 0) ++ 0 ∷ 4 ∷ 18 ∷ 34 ∷ 4 ∷ 16 ∷ []; totals = sums 2 1 1 (set none 16 1) 0 none }
    ∷ []

abbrev AllCharted : List Row → Type 0
AllCharted [] = Unit {0}
AllCharted (r ∷ rs) = (totals_of (sheets_in r.stream) ≡ r.totals) × AllCharted rs

abbrev pub StreamsHold : Type 0
StreamsHold = AllCharted streams
