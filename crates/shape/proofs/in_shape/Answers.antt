-- A board is in shape where its load is handed back. Assumes nothing.
use Rattle.std.specs.Prelude.{is_some}
use mathlib.Core.Path.{ap, ◌∙◌}
use Rattle.shape.proofs.Clauses.{told_apart}
use Rattle.shape.proofs.in_shape.Goals as goal

pub returns : goal.returns
returns c = c.is_some.ensures ∙ ap is_some c.load_in_shape.ensures ∙ told_apart c.args.b
