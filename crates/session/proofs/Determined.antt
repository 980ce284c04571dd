-- The contract of what a line does to the desk determines its result.
use Rattle.std.proofs.Common.{refl}
use seplogic.Ra.Ura.{Ura}
use base.Logic.{SProp}
use prog.Memory.{Memory}
use prog.Routine.{Routine}
use types.Logic.{Logic}
use contract.Monad.{Fun}
use Rattle.rules.specs.Determined.{Determined}
use Rattle.rules.proofs.Determined.{by_equation}
use Rattle.typed.specs.Reading.{reading}
use Rattle.desk.specs.Desks.{acted}
use Rattle.session.specs.Heard.{heard}
use Rattle.session.specs.contracts.answered as answered

module _ {M : Type 1} {𝓤 : Ura M} (𝓛 : Logic 𝓤) (mem : Memory → SProp 𝓤) (run : Routine → Fun 𝓤) where
  pub answered_determined : Determined answered.ended (answered.clauses 𝓛 mem run) (λ κs r e. r)
  answered_determined = by_equation (λ κs a. acted a.0 (reading (heard a.1.0.now a.1.1.0))) (λ κs a g r e. refl)
