-- `text::at_most` meets its contract. Assumes nothing.
use Rattle.std.proofs.Common.{rules, ◌∙◌}
use Rattle.text.proofs.Text.{at_most_min}
use Rattle.text.proofs.at_most.Goals as goal

pub returns : goal.returns
returns c = (c.min.ensures ∙ at_most_min _ _, search rules)
