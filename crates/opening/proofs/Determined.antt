-- The contracts of the crate's public functions determine what they hand back.
use Rattle.std.proofs.Common.{refl}
use seplogic.Ra.Ura.{Ura}
use base.Logic.{SProp}
use prog.Memory.{Memory}
use prog.Routine.{Routine}
use types.Logic.{Logic}
use contract.Monad.{Fun}
use Rattle.rules.specs.Answers as Answers
use Rattle.rules.specs.Commands as Commands
use Rattle.rules.specs.Determined.{Determined}
use Rattle.rules.proofs.Determined.{by_equation}
use Rattle.opening.specs.contracts.Opening.answer as answer
use Rattle.opening.specs.contracts.Opening.board as board
use Rattle.opening.specs.contracts.Opening.open as opening
use Rattle.opening.specs.contracts.zero_board as zero-board

module _ {M : Type 1} {𝓤 : Ura M} (𝓛 : Logic 𝓤) (mem : Memory → SProp 𝓤) (run : Routine → Fun 𝓤) where
  pub zero_board_determined : Determined zero-board.ended (zero-board.clauses 𝓛 mem run) (λ κs r e. r)
  zero_board_determined = by_equation (λ κs a. Commands.zero_board) (λ κs a g r e. refl)

  pub answer_determined : Determined answer.ended (answer.clauses 𝓛 mem run) (λ κs r e. r)
  answer_determined = by_equation (λ κs a. Answers.first_of (Commands.opening_tests a.0.now.nodes a.0.now.processes a.0.now.objects a.0.now.process_home a.0.now.object_home)) (λ κs a g r e. refl)

  pub board_determined : Determined board.ended (board.clauses 𝓛 mem run) (λ κs r e. r)
  board_determined = by_equation (λ κs a. Commands.empty_board a.0.now.nodes a.0.now.processes a.0.now.objects (Commands.homes_of a.0.now.processes a.0.now.process_home) (Commands.homes_of a.0.now.objects a.0.now.object_home)) (λ κs a g r e. refl)

  pub open_determined : Determined opening.ended (opening.clauses 𝓛 mem run) (λ κs r e. r)
  open_determined = by_equation (λ κs a. Commands.opening a.0.now.nodes a.0.now.processes a.0.now.objects a.0.now.process_home a.0.now.object_home) (λ κs a g r e. refl)
