-- The contracts of the crate's public functions determine the answer and the board, by value and in the lent room.
use mathlib.Core.Path.{refl}
use seplogic.Ra.Ura.{Ura}
use base.Logic.{SProp}
use prog.Memory.{Memory}
use prog.Routine.{Routine}
use types.Logic.{Logic}
use contract.Monad.{Fun}
use Rattle.rules.specs.declared.Board.{Board}
use Rattle.rules.specs.declared.Answer.{Answer}
use Rattle.rules.specs.Shape as Shape
use Rattle.rules.specs.Determined.{Determined}
use Rattle.rules.proofs.Determined.{by_equation, by_equations}
use Rattle.room.specs.contracts.step_in as step_in
use Rattle.room.specs.contracts.step_lent as step-lent

module _ {M : Type 1} {𝓤 : Ura M} (𝓛 : Logic 𝓤) (mem : Memory → SProp 𝓤) (run : Routine → Fun 𝓤) where
  pub step_in_determined : Determined step_in.ended (step_in.clauses 𝓛 mem run) {S = Answer × Board} (λ κs r e. (r, e.0.now))
  step_in_determined = by_equations (λ κs a. (Shape.step a.0.now a.1.0).answer) (λ κs a. (Shape.step a.0.now a.1.0).board) (λ κs a g r e. refl)

  pub step_lent_determined : Determined step-lent.ended (step-lent.clauses 𝓛 mem run) (λ κs r e. r)
  step_lent_determined = by_equation (λ κs a. Shape.step a.0 a.1.0) (λ κs a g r e. refl)
