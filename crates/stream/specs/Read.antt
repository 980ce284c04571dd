-- The chart of what was read of a stream, whether a read failed or not.
use Rattle.std.specs.Prelude.{Result, Ok, Err}
use Rattle.term.specs.declared.Chart.{Chart}
use Rattle.stream.specs.declared.Broken.{Broken}

abbrev pub chart_read : Result Chart Broken → Chart
chart_read (Ok chart) = chart
chart_read (Err broken) = broken.chart
