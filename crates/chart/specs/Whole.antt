-- "one report over a stream": of a stream of any length that was read piece by piece, what is handed on to be written is the lines of the
-- totals of its sheets.
use Rattle.std.specs.Prelude.{◌≡◌, List, ℕ}
use Rattle.totals.specs.Stream.{sheets_in}
use Rattle.totals.specs.Totals.{totals_of}
use Rattle.term.specs.Feed.{ended}
use Rattle.charted.specs.Lines.{chart_lines}
use Rattle.stream.specs.Pieces.{chart_of}

-- A stream w was taken in, as `stream::whole` does; `composed` was given its chart, and its text is on the page, which is handed on.
abbrev pub WholeCharted : Type 0
WholeCharted = (w page : List ℕ) → page ≡ chart_lines (ended (chart_of w)).totals → page ≡ chart_lines (totals_of (sheets_in w))
