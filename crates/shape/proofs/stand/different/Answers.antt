-- Those of the row are noted, and there is still one set of them. Assumes nothing.
use Rattle.std.specs.Prelude.{is_some}
use mathlib.Core.Path.{ap, ◌∙◌}
use Rattle.shape.proofs.Noted.{different_noted}
use Rattle.shape.proofs.stand.different.Goals as goal

pub returns : goal.returns
returns c = let a = c.args in c.is_some.ensures ∙ ap is_some c.note_row.ensures ∙ different_noted a.row a.n c.requires.below
