-- The contracts of the crate's public functions determine their results.
use mathlib.Core.Path.{refl}
use seplogic.Ra.Ura.{Ura}
use base.Logic.{SProp}
use prog.Memory.{Memory}
use prog.Routine.{Routine}
use types.Logic.{Logic}
use contract.Monad.{Fun}
use Rattle.rules.specs.Shape as Shape
use Rattle.rules.specs.Determined.{Determined}
use Rattle.rules.proofs.Determined.{by_equation}
use Rattle.shape.specs.Load.{load_in_shape}
use Rattle.shape.specs.contracts.load_in_shape as load-in-shape
use Rattle.shape.specs.contracts.in_shape as in-shape

module _ {M : Type 1} {𝓤 : Ura M} (𝓛 : Logic 𝓤) (mem : Memory → SProp 𝓤) (run : Routine → Fun 𝓤) where
  pub load_in_shape_determined : Determined load-in-shape.ended (load-in-shape.clauses 𝓛 mem run) (λ κs r e. r)
  load_in_shape_determined = by_equation (λ κs a. load_in_shape a.0) (λ κs a g r e. refl)

  pub in_shape_determined : Determined in-shape.ended (in-shape.clauses 𝓛 mem run) (λ κs r e. r)
  in_shape_determined = by_equation (λ κs a. Shape.in_shape a.0) (λ κs a g r e. refl)
