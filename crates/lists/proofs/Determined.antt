-- The contracts of the handlers determine their results, whether or not the numbers are in range.
use Rattle.std.proofs.Common.{refl}
use seplogic.Ra.Ura.{Ura}
use base.Logic.{SProp}
use prog.Memory.{Memory}
use prog.Routine.{Routine}
use types.Logic.{Logic}
use contract.Monad.{Fun}
use Rattle.rules.specs.Book as Book
use Rattle.rules.specs.Lists as Lists
use Rattle.rules.specs.Determined.{Determined}
use Rattle.rules.proofs.Determined.{by_equation}
use Rattle.lists.specs.Onwards as Onwards
use Rattle.lists.specs.contracts.asks_next as asks-next
use Rattle.lists.specs.contracts.onward as onward
use Rattle.lists.specs.contracts.started as started
use Rattle.lists.specs.contracts.closes as closes
use Rattle.lists.specs.contracts.grown as grown
use Rattle.lists.specs.contracts.ring.along_leads as along-leads
use Rattle.lists.specs.contracts.ring.keeping as keeping

module _ {M : Type 1} {𝓤 : Ura M} (𝓛 : Logic 𝓤) (mem : Memory → SProp 𝓤) (run : Routine → Fun 𝓤) where
  pub asks_next_determined : Determined asks-next.ended (asks-next.clauses 𝓛 mem run) (λ κs r e. r)
  asks_next_determined = by_equation (λ κs a. Onwards.asks_next a.0 a.1.0) (λ κs a g r e. refl)

  pub onward_determined : Determined onward.ended (onward.clauses 𝓛 mem run) (λ κs r e. r)
  onward_determined = by_equation (λ κs a. Onwards.onward a.0 a.1.0 a.1.1.0) (λ κs a g r e. refl)

  pub started_determined : Determined started.ended (started.clauses 𝓛 mem run) (λ κs r e. r)
  started_determined = by_equation (λ κs a. Lists.add_all (Lists.starter a.1.0) 0 (Book.waited_for a.0 a.1.0 a.1.1.0 a.1.1.1.0)) (λ κs a g r e. refl)

  pub closes_determined : Determined closes.ended (closes.clauses 𝓛 mem run) (λ κs r e. r)
  closes_determined = by_equation (λ κs a. Onwards.closes a.0 a.1.0 a.1.1.0) (λ κs a g r e. refl)

  pub grown_determined : Determined grown.ended (grown.clauses 𝓛 mem run) (λ κs r e. r)
  grown_determined = by_equation (λ κs a. Onwards.grown a.0 a.1.0 a.1.1.0) (λ κs a g r e. refl)

  pub along_leads_determined : Determined along-leads.ended (along-leads.clauses 𝓛 mem run) (λ κs r e. r)
  along_leads_determined = by_equation (λ κs a. Lists.ring_of (Lists.along_leads a.1.0 a.0 a.1.0)) (λ κs a g r e. refl)

  pub keeping_determined : Determined keeping.ended (keeping.clauses 𝓛 mem run) (λ κs r e. r)
  keeping_determined = by_equation (λ κs a. Lists.keeping a.0 a.1.0) (λ κs a g r e. refl)
