-- The conversions between answers and their numbers, and whether an answer is done, are determined by their contracts.
use mathlib.Core.Path.{refl}
use seplogic.Ra.Ura.{Ura}
use base.Logic.{SProp}
use prog.Memory.{Memory}
use prog.Routine.{Routine}
use types.Logic.{Logic}
use contract.Monad.{Fun}
use Rattle.rules.specs.Answers as Answers
use Rattle.rules.specs.Determined.{Determined}
use Rattle.rules.proofs.Determined.{by_equation}
use Rattle.rules.specs.contracts.named.U8FromAnswer.from as number
use Rattle.rules.specs.contracts.named.AnswerFromU8.from as answer-of
use Rattle.rules.specs.contracts.Answer.is_done as is-done

module _ {M : Type 1} {𝓤 : Ura M} (𝓛 : Logic 𝓤) (mem : Memory → SProp 𝓤) (run : Routine → Fun 𝓤) where
  pub number_determined : Determined number.ended (number.clauses 𝓛 mem run) (λ κs r e. r)
  number_determined = by_equation (λ κs a. Answers.number a.0) (λ κs a g r e. refl)

  pub answer_of_determined : Determined answer-of.ended (answer-of.clauses 𝓛 mem run) (λ κs r e. r)
  answer_of_determined = by_equation (λ κs a. Answers.answer_of a.0) (λ κs a g r e. refl)

  pub is_done_determined : Determined is-done.ended (is-done.clauses 𝓛 mem run) (λ κs r e. r)
  is_done_determined = by_equation (λ κs a. Answers.done a.0) (λ κs a g r e. refl)
