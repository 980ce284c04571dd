-- The contracts of the handlers determine their results, whether or not the numbers are in range.
use Rattle.std.proofs.Common.{refl}
use seplogic.Ra.Ura.{Ura}
use base.Logic.{SProp}
use prog.Memory.{Memory}
use prog.Routine.{Routine}
use types.Logic.{Logic}
use contract.Monad.{Fun}
use Rattle.rules.specs.Answers as Answers
use Rattle.rules.specs.Home as Home
use Rattle.rules.specs.Determined.{Determined}
use Rattle.rules.proofs.Determined.{by_equation}
use Rattle.processes.specs.Tests as Tests
use Rattle.processes.specs.contracts.is_waiting as is-waiting
use Rattle.processes.specs.contracts.holds as holds
use Rattle.processes.specs.contracts.asking as asking
use Rattle.processes.specs.contracts.dropping as dropping
use Rattle.processes.specs.contracts.granted as granted
use Rattle.processes.specs.contracts.request_answer as request-answer
use Rattle.processes.specs.contracts.release_answer as release-answer

module _ {M : Type 1} {𝓤 : Ura M} (𝓛 : Logic 𝓤) (mem : Memory → SProp 𝓤) (run : Routine → Fun 𝓤) where
  pub is_waiting_determined : Determined is-waiting.ended (is-waiting.clauses 𝓛 mem run) (λ κs r e. r)
  is_waiting_determined = by_equation (λ κs a. Home.is_waiting a.0) (λ κs a g r e. refl)

  pub holds_determined : Determined holds.ended (holds.clauses 𝓛 mem run) (λ κs r e. r)
  holds_determined = by_equation (λ κs a. Home.holding a.0 a.1.0) (λ κs a g r e. refl)

  pub asking_determined : Determined asking.ended (asking.clauses 𝓛 mem run) (λ κs r e. r)
  asking_determined = by_equation (λ κs a. Home.asking a.0 a.1.0 a.1.1.0) (λ κs a g r e. refl)

  pub dropping_determined : Determined dropping.ended (dropping.clauses 𝓛 mem run) (λ κs r e. r)
  dropping_determined = by_equation (λ κs a. Home.dropping a.0 a.1.0) (λ κs a g r e. refl)

  pub granted_determined : Determined granted.ended (granted.clauses 𝓛 mem run) (λ κs r e. r)
  granted_determined = by_equation (λ κs a. Home.granted a.0 a.1.0 a.1.1.0) (λ κs a g r e. refl)

  pub request_answer_determined : Determined request-answer.ended (request-answer.clauses 𝓛 mem run) (λ κs r e. r)
  request_answer_determined = by_equation (λ κs a. Answers.first_of (Tests.home_request_tests a.0 a.1.0 a.1.1.0 a.1.1.1.0 a.1.1.1.1.0)) (λ κs a g r e. refl)

  pub release_answer_determined : Determined release-answer.ended (release-answer.clauses 𝓛 mem run) (λ κs r e. r)
  release_answer_determined = by_equation (λ κs a. Answers.first_of (Tests.home_release_tests a.0 a.1.0 a.1.1.0 a.1.1.1.0 a.1.1.1.1.0)) (λ κs a g r e. refl)
