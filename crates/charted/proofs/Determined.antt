-- The contract of `composed` determines every byte of the page.
use Rattle.std.proofs.Common.{refl, ◌≤◌, length}
use seplogic.Ra.Ura.{Ura}
use base.Logic.{SProp}
use prog.Memory.{Memory}
use prog.Routine.{Routine}
use types.Logic.{Logic}
use contract.Monad.{Fun}
use Rattle.rules.specs.Determined.{Determined}
use Rattle.rules.proofs.Determined.{by_equation_with}
use Rattle.charted.specs.Lines.{chart_lines}
use Rattle.charted.specs.contracts.composed as composed

module _ {M : Type 1} {𝓤 : Ura M} (𝓛 : Logic 𝓤) (mem : Memory → SProp 𝓤) (run : Routine → Fun 𝓤) where
  pub composed_determined : Determined composed.ended (composed.clauses 𝓛 mem run) (λ κs r e. e.0.now.items)
  composed_determined = by_equation_with (λ κs a. chart_lines a.1.0) (λ κs a r e. length e.0.now.items ≤ 65536) (λ κs a g r e. refl)
