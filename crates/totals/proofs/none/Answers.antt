-- Every total of no sheet is zero. Assumes nothing.
use Rattle.rules.specs.Tables.{rows}
use Rattle.text.specs.Text.{at_most}
use Rattle.totals.specs.Totals.{total, totals_of}
use Rattle.values.proofs.Defaults.{zeros}
use Rattle.totals.proofs.Laws.{made_alike}
use Rattle.totals.proofs.none.Goals as goal

pub returns : goal.returns
unfolding totals_of total at_most rows
returns c = let d = c.default.ensures in made_alike d.0 d.1.0 d.1.1.0 (zeros _ 17 d.1.1.1.0) d.1.1.1.1.0 (zeros _ 17 d.1.1.1.1.1)
