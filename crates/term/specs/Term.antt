-- What is promised of a chart: however its stream came in pieces, its totals are those of the stream's sheets, and they add up.
use Rattle.std.specs.Prelude.{◌≡◌, List, [], ◌∷◌, ◌++◌, ℕ, ◌+◌, ◌≤◌, length, get_or}
use Rattle.rules.specs.Tables.{sum}
use Rattle.rules.specs.Board.{tally_of}
use Rattle.totals.specs.declared.Came.{Came}
use Rattle.totals.specs.declared.Totals.{Totals}
use Rattle.totals.specs.Stream.{Sheet, buffer, sheets_in}
use Rattle.totals.specs.Totals.{if_ran, rings_in, most, total, totals_of}
use Rattle.term.specs.declared.Chart.{Chart}
use Rattle.term.specs.Feed.{Fed, beside, new, fed, ended}

-- the pieces of a stream, one after another
unfoldable pub joined : List (List ℕ) → List ℕ
joined [] = []
joined (p ∷ ps) = p ++ joined ps

unfoldable pub fed_all : Fed → List (List ℕ) → Fed
fed_all f [] = f
fed_all f (p ∷ ps) = fed_all (fed f p) ps

-- "each total equals its definition over the list of sheets": however a stream is cut into pieces, and whatever stood in the buffer before
abbrev pub Charted : Type 0
Charted = (pieces : List (List ℕ)) (sheet : List ℕ) → length sheet ≡ buffer
    → (ended (fed_all (beside new sheet) pieces).chart).totals ≡ totals_of (sheets_in (joined pieces))

-- ".. and stops": what comes after the end changes nothing
abbrev pub Stops : Type 0
Stops = (c : Chart) (sheet w : List ℕ) → fed (beside (ended c) sheet) w ≡ beside (ended c) sheet

-- "Sheets run and refused sum to all sheets read"
abbrev pub RunAndRefused : Totals → Type 0
RunAndRefused t = t.ran + t.refused ≡ t.sheets

-- "how many were refused, by number": the 17 places sum to the refused, and so do these six, the numbers that a sheet is refused with; so
-- the other places are 0
abbrev pub ByNumber : Totals → Type 0
ByNumber t = let with : ℕ → ℕ = λ n. get_or t.refused_with n 0 in
    (with 2 + with 12 + with 13 + with 14 + with 15 + with 16 ≡ t.refused) × (sum 17 with ≡ t.refused)

-- a sheet that ended with a ring ran
abbrev pub RingedRan : Totals → Type 0
RingedRan t = t.ringed ≤ t.ran

-- of as many sheets as a total can count
abbrev pub AddUp : Type 0
AddUp = (l : List Sheet) → length l ≤ most → RunAndRefused (totals_of l) × ByNumber (totals_of l) × RingedRan (totals_of l)

-- the rings that a sheet ended with, of any length
abbrev pub all_rings : Came → ℕ
all_rings r = if_ran r (tally_of r.rings)

-- "recorded rings by length from 2 to 16": every recorded ring has one of these lengths, so they sum to all recorded rings. This is of the
-- sums as they are defined, however large.
abbrev pub ByLength : Type 0
ByLength = (l : List Sheet) → sum 15 (λ k. total (rings_in (2 + k)) l) ≡ total all_rings l

pub record ChartHolds : Type 0 where
  pub charted : Charted
  pub stops : Stops
  pub sums : AddUp
  pub lengths : ByLength
