-- The contracts of the crate's public functions determine their results.
use Rattle.std.proofs.Common.{refl, []}
use seplogic.Ra.Ura.{Ura}
use base.Logic.{SProp}
use prog.Memory.{Memory}
use prog.Routine.{Routine}
use types.Logic.{Logic}
use contract.Monad.{Fun}
use Rattle.rules.specs.Determined.{Determined}
use Rattle.rules.proofs.Determined.{by_equation}
use Rattle.totals.specs.Totals as Chart
use Rattle.totals.specs.contracts.none as none
use Rattle.totals.specs.contracts.noted as noted
use Rattle.totals.specs.contracts.refused_as as refused-as

module _ {M : Type 1} {𝓤 : Ura M} (𝓛 : Logic 𝓤) (mem : Memory → SProp 𝓤) (run : Routine → Fun 𝓤) where
  pub none_determined : Determined none.ended (none.clauses 𝓛 mem run) (λ κs r e. r)
  none_determined = by_equation (λ κs a. Chart.totals_of []) (λ κs a g r e. refl)

  pub noted_determined : Determined noted.ended (noted.clauses 𝓛 mem run) (λ κs r e. r)
  noted_determined = by_equation (λ κs a. Chart.noted a.0 a.1.0) (λ κs a g r e. refl)

  pub refused_as_determined : Determined refused-as.ended (refused-as.clauses 𝓛 mem run) (λ κs r e. r)
  refused_as_determined = by_equation (λ κs a. Chart.refused_as a.0) (λ κs a g r e. refl)
