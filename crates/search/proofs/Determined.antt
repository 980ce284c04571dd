-- The contracts of the crate's public functions determine their results.
use mathlib.Core.Path.{refl}
use seplogic.Ra.Ura.{Ura}
use base.Logic.{SProp}
use prog.Memory.{Memory}
use prog.Routine.{Routine}
use types.Logic.{Logic}
use contract.Monad.{Fun}
use Rattle.rules.specs.Determined.{Determined}
use Rattle.rules.proofs.Determined.{by_equation}
use Rattle.search.specs.Waiting as Waiting
use Rattle.search.specs.Ways as Ways
use Rattle.search.specs.contracts.arcs as arcs
use Rattle.search.specs.contracts.along as along
use Rattle.search.specs.contracts.through as through

module _ {M : Type 1} {𝓤 : Ura M} (𝓛 : Logic 𝓤) (mem : Memory → SProp 𝓤) (run : Routine → Fun 𝓤) where
  pub arcs_determined : Determined arcs.ended (arcs.clauses 𝓛 mem run) (λ κs r e. r)
  arcs_determined = by_equation (λ κs a. Waiting.arcs a.0) (λ κs a g r e. refl)

  pub along_determined : Determined along.ended (along.clauses 𝓛 mem run) (λ κs r e. r)
  along_determined = by_equation (λ κs a. Ways.shortest (Waiting.arc a.0) a.1.0) (λ κs a g r e. refl)

  pub through_determined : Determined through.ended (through.clauses 𝓛 mem run) (λ κs r e. r)
  through_determined = by_equation (λ κs a. Ways.ring_through a.0 a.1.0) (λ κs a g r e. refl)
