-- The contracts of the crate's public functions determine their results.
use Rattle.std.proofs.Common.{refl}
use seplogic.Ra.Ura.{Ura}
use base.Logic.{SProp}
use prog.Memory.{Memory}
use prog.Routine.{Routine}
use types.Logic.{Logic}
use contract.Monad.{Fun}
use Rattle.rules.specs.Determined.{Determined}
use Rattle.rules.proofs.Determined.{by_equation}
use Rattle.asked.specs.Lines as Lines
use Rattle.asked.specs.Asked as Asked
use Rattle.asked.specs.contracts.command as command
use Rattle.asked.specs.contracts.budget as budget
use Rattle.asked.specs.contracts.opened as opened
use Rattle.asked.specs.contracts.line.most as most
use Rattle.asked.specs.contracts.line.with_homes as with-homes
use Rattle.asked.specs.contracts.line.is_whole as is_whole

module _ {M : Type 1} {𝓤 : Ura M} (𝓛 : Logic 𝓤) (mem : Memory → SProp 𝓤) (run : Routine → Fun 𝓤) where
  pub command_determined : Determined command.ended (command.clauses 𝓛 mem run) (λ κs r e. r)
  command_determined = by_equation (λ κs a. Asked.command a.0) (λ κs a g r e. refl)

  pub budget_determined : Determined budget.ended (budget.clauses 𝓛 mem run) (λ κs r e. r)
  budget_determined = by_equation (λ κs a. Asked.budget a.0) (λ κs a g r e. refl)

  pub opened_determined : Determined opened.ended (opened.clauses 𝓛 mem run) (λ κs r e. r)
  opened_determined = by_equation (λ κs a. Asked.opened a.0) (λ κs a g r e. refl)

  pub most_determined : Determined most.ended (most.clauses 𝓛 mem run) (λ κs r e. r)
  most_determined = by_equation (λ κs a. Lines.most a.0) (λ κs a g r e. refl)

  pub with_homes_determined : Determined with-homes.ended (with-homes.clauses 𝓛 mem run) (λ κs r e. r)
  with_homes_determined = by_equation (λ κs a. Lines.with_homes a.0) (λ κs a g r e. refl)

  pub is_whole_determined : Determined is_whole.ended (is_whole.clauses 𝓛 mem run) (λ κs r e. r)
  is_whole_determined = by_equation (λ κs a. Lines.is_whole a.0) (λ κs a g r e. refl)
