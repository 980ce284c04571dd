-- The contract of `argument_of` determines what an argument is taken for.
use mathlib.Core.Path.{refl}
use seplogic.Ra.Ura.{Ura}
use base.Logic.{SProp}
use prog.Memory.{Memory}
use prog.Routine.{Routine}
use types.Logic.{Logic}
use contract.Monad.{Fun}
use Rattle.rules.specs.Determined.{Determined}
use Rattle.rules.proofs.Determined.{by_equation}
use Rattle.program.specs.Argument.{argument_of}
use Rattle.program.specs.contracts.argument_of as argument-of

module _ {M : Type 1} {𝓤 : Ura M} (𝓛 : Logic 𝓤) (mem : Memory → SProp 𝓤) (run : Routine → Fun 𝓤) where
  pub argument_of_determined : Determined argument-of.ended (argument-of.clauses 𝓛 mem run) (λ κs r e. r)
  argument_of_determined = by_equation (λ κs a. argument_of a.0.now) (λ κs a g r e. refl)
