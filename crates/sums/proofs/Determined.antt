-- The contracts of the crate's public functions determine their results.
use Rattle.std.proofs.Common.{refl, ◌≤◌}
use seplogic.Ra.Ura.{Ura}
use base.Logic.{SProp}
use prog.Memory.{Memory}
use prog.Routine.{Routine}
use types.Logic.{Logic}
use contract.Monad.{Fun}
use Rattle.rules.specs.Board as Board
use Rattle.rules.specs.Determined.{Determined}
use Rattle.rules.proofs.Determined.{by_equation, by_equation_with}
use Rattle.sums.specs.contracts.load as load
use Rattle.sums.specs.contracts.counts as counts
use Rattle.sums.specs.contracts.tally_of as tally-of
use Rattle.sums.specs.contracts.tally as tally

module _ {M : Type 1} {𝓤 : Ura M} (𝓛 : Logic 𝓤) (mem : Memory → SProp 𝓤) (run : Routine → Fun 𝓤) where
  pub load_determined : Determined load.ended (load.clauses 𝓛 mem run) (λ κs r e. r)
  load_determined = by_equation_with (λ κs a. Board.load a.0) (λ κs a r e. r ≤ 4208) (λ κs a g r e. refl)

  pub tally_determined : Determined tally.ended (tally.clauses 𝓛 mem run) (λ κs r e. r)
  tally_determined = by_equation_with (λ κs a. Board.tally a.0) (λ κs a r e. r ≤ 16) (λ κs a g r e. refl)

  pub counts_determined : Determined counts.ended (counts.clauses 𝓛 mem run) (λ κs r e. r)
  counts_determined = by_equation (λ κs a. Board.counts a.0 a.1.0) (λ κs a g r e. refl)

  pub tally_of_determined : Determined tally-of.ended (tally-of.clauses 𝓛 mem run) (λ κs r e. r)
  tally_of_determined = by_equation_with (λ κs a. Board.tally_of a.0) (λ κs a r e. r ≤ 16) (λ κs a g r e. refl)
