-- `through` meets its contract: the sets say what the test says.
use mathlib.Core.Path.{ap, ◌∙◌}
use mathlib.Core.List.{List}
use Prim.Native.Nat.{ℕ}
use Rattle.search.specs.Waiting.{arc}
use Rattle.search.specs.Ways.{shortest}
use Rattle.search.proofs.Waiting.{along_arcs}
use Rattle.search.proofs.through.Goals as goal

pub returns : goal.returns
returns c =
    let a = c.args in
    c.along.ensures ∙ ap (λ (l : List ℕ). shortest (arc l) a.p) c.arcs.ensures ∙ along_arcs a.b a.p
