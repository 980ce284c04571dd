-- The contracts of the crate's public functions determine their results.
use Rattle.std.proofs.Common.{refl}
use seplogic.Ra.Ura.{Ura}
use base.Logic.{SProp}
use prog.Memory.{Memory}
use prog.Routine.{Routine}
use types.Logic.{Logic}
use contract.Monad.{Fun}
use Rattle.rules.specs.Determined.{Determined}
use Rattle.rules.proofs.Determined.{by_equation}
use Rattle.typed.specs.Homes as Homes
use Rattle.typed.specs.Numbers as Numbers
use Rattle.typed.specs.Reading as Reading
use Rattle.typed.specs.contracts.asks_mode as asks-mode
use Rattle.typed.specs.contracts.homes.cut as cut
use Rattle.typed.specs.contracts.homes.homes as homes
use Rattle.typed.specs.contracts.read as read

module _ {M : Type 1} {𝓤 : Ura M} (𝓛 : Logic 𝓤) (mem : Memory → SProp 𝓤) (run : Routine → Fun 𝓤) where
  pub read_determined : Determined read.ended (read.clauses 𝓛 mem run) (λ κs r e. r)
  read_determined = by_equation (λ κs a. Reading.reading a.0.now) (λ κs a g r e. refl)

  pub asks_mode_determined : Determined asks-mode.ended (asks-mode.clauses 𝓛 mem run) (λ κs r e. r)
  asks_mode_determined = by_equation (λ κs a. Numbers.asks_mode a.0 a.1.0) (λ κs a g r e. refl)

  pub cut_determined : Determined cut.ended (cut.clauses 𝓛 mem run) (λ κs r e. r)
  cut_determined = by_equation (λ κs a. Homes.cut a.0) (λ κs a g r e. refl)

  pub homes_determined : Determined homes.ended (homes.clauses 𝓛 mem run) (λ κs r e. r)
  homes_determined = by_equation (λ κs a. Homes.homes a.0 a.1.0) (λ κs a g r e. refl)
