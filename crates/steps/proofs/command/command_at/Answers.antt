-- `steps::command::command_at` meets its contract: a command stands in two bytes. Assumes nothing.
use mathlib.Core.Path.{sym, ◌∙◌}
use mathlib.Core.List.{[], ◌∷◌}
use native.Mathlib.Omega.{arith}
use Rattle.rules.proofs.Sheet.{command_bytes}
use Rattle.steps.proofs.command.command_at.Goals as goal

pub returns : goal.returns
returns c =
    let a = c.args in
    c.command_of.ensures ∙ command_bytes (_ ∷ _ ∷ []) 0 (omega arith) (omega arith) ∙ sym (command_bytes a.part.now a.i (omega arith) (omega arith))
