-- The contracts of the crate's public functions determine their results.
use mathlib.Core.Path.{refl}
use Prim.Native.Nat.{◌<◌}
use seplogic.Ra.Ura.{Ura}
use base.Logic.{SProp}
use prog.Memory.{Memory}
use prog.Routine.{Routine}
use types.Logic.{Logic}
use contract.Monad.{Fun}
use Rattle.rules.specs.Determined.{Determined}
use Rattle.rules.proofs.Determined.{by_equation, by_equation_with}
use Rattle.undo.specs.Undo as Undo
use Rattle.undo.specs.contracts.place as place
use Rattle.undo.specs.contracts.one_more as one_more
use Rattle.undo.specs.contracts.one_less as one_less

module _ {M : Type 1} {𝓤 : Ura M} (𝓛 : Logic 𝓤) (mem : Memory → SProp 𝓤) (run : Routine → Fun 𝓤) where
  pub place_determined : Determined place.ended (place.clauses 𝓛 mem run) (λ κs r e. r)
  place_determined = by_equation_with (λ κs a. Undo.place a.0) (λ κs a r e. r < 65) (λ κs a g r e. refl)

  pub one_more_determined : Determined one_more.ended (one_more.clauses 𝓛 mem run) (λ κs r e. r)
  one_more_determined = by_equation (λ κs a. Undo.one_step_more a.0 a.1.0) (λ κs a g r e. refl)

  pub one_less_determined : Determined one_less.ended (one_less.clauses 𝓛 mem run) (λ κs r e. r)
  one_less_determined = by_equation (λ κs a. Undo.one_less a.0 a.1.0) (λ κs a g r e. refl)
