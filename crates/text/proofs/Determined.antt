-- The contracts of the crate's public functions determine what they hand back, and every byte of the lent buffer.
use Rattle.std.proofs.Common.{◌≡◌, refl, sym, ◌∙◌, [], ◌∷◌, ◌++◌, ◌+◌, ◌≤◌, ◌<◌, length, take}
use seplogic.Ra.Ura.{Ura}
use base.Logic.{SProp}
use prog.Memory.{Memory}
use prog.Routine.{Routine}
use types.Logic.{Logic}
use contract.Monad.{Fun}
use denote.RattleType.{RattleType}
use Rattle.rules.specs.Determined.{Determined}
use Rattle.rules.proofs.Determined.{by_fact, by_equation, by_equation_with}
use Rattle.text.specs.Text.{decimal, at_most, behind}
use Rattle.text.specs.contracts.put as put
use Rattle.text.specs.contracts.word as word
use Rattle.text.specs.contracts.number as number
use Rattle.text.specs.contracts.at_most as at_most
use Rattle.text.specs.contracts.start as start
use Rattle.text.specs.contracts.keep as keep

module _ {M : Type 1} {𝓤 : Ura M} (𝓛 : Logic 𝓤) (mem : Memory → SProp 𝓤) (run : Routine → Fun 𝓤) where
  pub put_determined : Determined put.ended (put.clauses 𝓛 mem run) (λ κs r e. e.0.now.items)
  put_determined =
      by_equation_with (λ κs a. a.0.now.items ++ a.1.0 ∷ []) (λ κs a r e. length e.0.now.items ≡ length a.0.now.items + 1) (λ κs a g r e. refl)

  pub word_determined : Determined word.ended (word.clauses 𝓛 mem run) (λ κs r e. e.0.now.items)
  word_determined =
      by_equation_with (λ κs a. a.0.now.items ++ a.1.0.now) (λ κs a r e. length e.0.now.items ≡ length a.0.now.items + length a.1.0.now) (λ κs a g r e. refl)

  pub number_determined : Determined number.ended (number.clauses 𝓛 mem run) (λ κs r e. e.0.now.items)
  number_determined =
      by_fact
      (λ κs a r e. (e.0.now.items ≡ a.0.now.items ++ decimal a.1.0) × (a.1.0 < 10000 → length e.0.now.items ≤ length a.0.now.items + 4) × (length e.0.now.items ≤ length a.0.now.items + 20))
      (λ κs a r other e left p q. p.0 ∙ sym q.0) (λ κs a g r e. refl)

  pub at_most_determined : Determined at_most.ended (at_most.clauses 𝓛 mem run) (λ κs r e. r)
  at_most_determined = by_equation_with (λ κs a. at_most a.0 a.1.0) (λ κs a r e. r ≤ a.0) (λ κs a g r e. refl)

  pub start_determined : Determined start.ended (start.clauses 𝓛 mem run) (λ κs r e. r.now)
  start_determined = by_equation (λ κs a. take a.1.0 a.0.now) (λ κs a g r e. refl)

  pub keep_determined : (N : RattleType) → Determined (keep.ended N) (keep.clauses N 𝓛 mem run) (λ κs r e. e.0.now)
  keep_determined N = by_equation (λ κs a. behind _ a.0.now a.1.0 a.1.1.0.now) (λ κs a g r e. refl)
