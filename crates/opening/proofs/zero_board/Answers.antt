-- `zero_board` meets its contract: the default opening is one of zeros.
use Rattle.std.proofs.Common.{◌∙◌}
use Rattle.opening.proofs.Opened.{zero_default}
use Rattle.opening.proofs.zero_board.Goals as goal

pub returns : goal.returns
returns c = c.empty_board.ensures ∙ zero_default c.default.result c.default.ensures
