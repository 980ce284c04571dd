-- The homes that an opening types, as the board takes numbers.
use Rattle.std.specs.Prelude.{ℕ, ◌+◌, min, List, get_or}
use Rattle.rules.specs.Tables.{rows}

-- one above 255 is outside every limit, as 255 is
abbrev pub cut : ℕ → ℕ
cut n = min 255 n

-- the number at a place of a row; 0 past the row's end
abbrev pub number_at : List ℕ → ℕ → ℕ
number_at row at = cut (get_or row at 0)

-- the 16 homes of a row behind its three counts and so many other homes
unfoldable pub homes : List ℕ → ℕ → List ℕ
homes row others = rows 16 (λ k. number_at row (3 + others + k))
