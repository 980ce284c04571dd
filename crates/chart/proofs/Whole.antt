-- What is written for a stream is the chart of its sheets: its totals are theirs, in one piece as in many. Assumes nothing.
use mathlib.Core.Path.{◌≡◌, ap, ◌∙◌}
use mathlib.Core.List.{List, [], ◌∷◌, append-nil}
use Prim.Native.Nat.{ℕ}
use lib.ListN.{length-replicate}
use Rattle.totals.specs.Stream.{sheets_in}
use Rattle.totals.specs.Totals.{totals_of}
use Rattle.term.specs.Feed.{ended}
use Rattle.term.specs.Term.{joined, fed_all}
use Rattle.term.proofs.Term.{chart_holds}
use Rattle.charted.specs.Lines.{chart_lines}
use Rattle.stream.specs.Pieces.{start, chart_of}
use Rattle.chart.specs.Whole.{WholeCharted}

totals-of : (w : List ℕ) → (ended (chart_of w)).totals ≡ totals_of (sheets_in w)
unfolding chart_of fed_all joined
totals-of w = chart_holds.charted (w ∷ []) start.sheet (length-replicate {A = ℕ} 8206 0) ∙ ap (λ (l : List ℕ). totals_of (sheets_in l)) (append-nil w)

pub whole_charted : WholeCharted
whole_charted w page e = e ∙ ap chart_lines (totals-of w)
