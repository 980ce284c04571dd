-- The contract of the linked function determines the number and every byte of the lent room.
use Rattle.std.proofs.Common.{refl, ℕ, List}
use seplogic.Ra.Ura.{Ura}
use base.Logic.{SProp}
use prog.Memory.{Memory}
use prog.Routine.{Routine}
use types.Logic.{Logic}
use contract.Monad.{Fun}
use Rattle.rules.specs.Answers as Answers
use Rattle.rules.specs.Sheet as Sheet
use Rattle.rules.specs.Determined.{Determined}
use Rattle.rules.proofs.Determined.{by_equations}
use Rattle.linked.specs.contracts.sparkcushion_run as whole

module _ {M : Type 1} {𝓤 : Ura M} (𝓛 : Logic 𝓤) (mem : Memory → SProp 𝓤) (run : Routine → Fun 𝓤) where
  pub sparkcushion_run_determined : Determined whole.ended (whole.clauses 𝓛 mem run) {S = ℕ × List ℕ} (λ κs r e. (r, e.1.0.now))
  sparkcushion_run_determined = by_equations (λ κs a. Answers.number (Sheet.run_sheet a.0.now a.1.0.now).ran.answer) (λ κs a. (Sheet.run_sheet a.0.now a.1.0.now).room) (λ κs a g r e. refl)
