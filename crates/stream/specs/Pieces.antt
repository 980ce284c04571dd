-- A stream that was taken in: the chart of all its bytes, over an empty buffer for one sheet.
use Rattle.std.specs.Prelude.{ℕ, List, replicate}
use Rattle.totals.specs.Stream.{buffer}
use Rattle.term.specs.declared.Chart.{Chart}
use Rattle.term.specs.Feed.{Fed, beside, new, fed}

abbrev pub start : Fed
start = beside new (replicate buffer 0)

unfoldable pub chart_of : List ℕ → Chart
chart_of w = (fed start w).chart
