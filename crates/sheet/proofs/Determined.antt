-- The contracts of the crate's public functions determine what they answer: answer, board, count, the part's bytes and every byte of the lent room.
use Rattle.std.proofs.Common.{refl, ℕ, List}
use seplogic.Ra.Ura.{Ura}
use base.Logic.{SProp}
use prog.Memory.{Memory}
use prog.Routine.{Routine}
use types.Logic.{Logic}
use contract.Monad.{Fun}
use Rattle.rules.specs.declared.Ran.{Ran}
use Rattle.rules.specs.Sheet as Sheet
use Rattle.rules.specs.Determined.{Determined}
use Rattle.rules.proofs.Determined.{by_equation, by_equations}
use Rattle.sheet.specs.Kept as Kept
use Rattle.sheet.specs.contracts.answer as answer
use Rattle.sheet.specs.contracts.commands as commands
use Rattle.sheet.specs.contracts.run as whole
use Rattle.sheet.specs.contracts.kept as kept

module _ {M : Type 1} {𝓤 : Ura M} (𝓛 : Logic 𝓤) (mem : Memory → SProp 𝓤) (run : Routine → Fun 𝓤) where
  pub answer_determined : Determined answer.ended (answer.clauses 𝓛 mem run) (λ κs r e. r)
  answer_determined = by_equation (λ κs a. Sheet.reader_answer a.0.now) (λ κs a g r e. refl)

  pub commands_determined : Determined commands.ended (commands.clauses 𝓛 mem run) (λ κs r e. r.now)
  commands_determined = by_equation (λ κs a. Sheet.commands_part a.0.now) (λ κs a g r e. refl)

  pub run_determined : Determined whole.ended (whole.clauses 𝓛 mem run) {S = Ran × List ℕ} (λ κs r e. (r, e.1.0.now))
  run_determined = by_equations (λ κs a. (Sheet.run_sheet a.0.now a.1.0.now).ran) (λ κs a. (Sheet.run_sheet a.0.now a.1.0.now).room) (λ κs a g r e. refl)

  pub kept_determined : Determined kept.ended (kept.clauses 𝓛 mem run) (λ κs r e. r)
  kept_determined = by_equation (λ κs a. Kept.kept_of a.0) (λ κs a g r e. refl)
