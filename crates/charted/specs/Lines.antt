-- What `chart` prints, to the letter: 25 lines, always all of them, in this order.
use Rattle.std.specs.Prelude.{ℕ, ◌+◌, List, [], ◌∷◌, ◌++◌, get_or}
use Rattle.text.specs.Text.{bytes, decimal, line_of, flat}
use Rattle.totals.specs.declared.Totals.{Totals}

-- a name and a number, as in `ran 1`
unfoldable pub total_line : List ℕ → ℕ → List ℕ
total_line name n = line_of (name ∷ decimal n ∷ [])

-- the number at place k of a table, as in `rings 2 1`
unfoldable pub place_line : List ℕ → List ℕ → ℕ → List ℕ
place_line name table k = line_of (name ∷ decimal k ∷ decimal (get_or table k 0) ∷ [])

-- "how many were refused, by number": these are all the numbers that a sheet is refused with
unfoldable pub refused_lines : List ℕ → List ℕ
refused_lines table = let with : ℕ → List ℕ = place_line (bytes "refused") table in
    with 2 ++ with 12 ++ with 13 ++ with 14 ++ with 15 ++ with 16

-- "recorded rings by length from 2 to 16"
unfoldable pub ring_lines : List ℕ → List ℕ
ring_lines table = flat 15 (λ i. place_line (bytes "rings") table (i + 2))

unfoldable pub chart_lines : Totals → List ℕ
chart_lines t = total_line (bytes "sheets") t.sheets
    ++ total_line (bytes "ran") t.ran
    ++ total_line (bytes "refused") t.refused
    ++ refused_lines t.refused_with
    ++ total_line (bytes "ringed") t.ringed
    ++ ring_lines t.rings
