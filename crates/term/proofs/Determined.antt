-- The contracts of the crate's public functions determine their results, and every byte of the lent buffer.
use Rattle.std.proofs.Common.{refl, List, ℕ}
use seplogic.Ra.Ura.{Ura}
use base.Logic.{SProp}
use prog.Memory.{Memory}
use prog.Routine.{Routine}
use types.Logic.{Logic}
use contract.Monad.{Fun}
use Rattle.rules.specs.Determined.{Determined}
use Rattle.rules.proofs.Determined.{by_equation, by_equations}
use Rattle.term.specs.declared.Chart.{Chart}
use Rattle.term.specs.Feed as Feed
use Rattle.term.specs.contracts.new as new
use Rattle.term.specs.contracts.feed as feed
use Rattle.term.specs.contracts.ended as over

module _ {M : Type 1} {𝓤 : Ura M} (𝓛 : Logic 𝓤) (mem : Memory → SProp 𝓤) (run : Routine → Fun 𝓤) where
  pub new_determined : Determined new.ended (new.clauses 𝓛 mem run) (λ κs r e. r)
  new_determined = by_equation (λ κs a. Feed.new) (λ κs a g r e. refl)

  pub feed_determined : Determined feed.ended (feed.clauses 𝓛 mem run) {S = Chart × List ℕ} (λ κs r e. (r, e.1.0.now))
  feed_determined = by_equations (λ κs a. (Feed.fed (Feed.beside a.0 a.1.0.now) a.1.1.0.now).chart) (λ κs a. (Feed.fed (Feed.beside a.0 a.1.0.now) a.1.1.0.now).sheet) (λ κs a g r e. refl)

  pub ended_determined : Determined over.ended (over.clauses 𝓛 mem run) (λ κs r e. r)
  ended_determined = by_equation (λ κs a. Feed.ended a.0) (λ κs a g r e. refl)
