-- The contracts of `text::placed` determine what they hand back, and every byte of the lent buffer.
use Rattle.std.proofs.Common.{refl, List, ℕ, [], ◌∷◌, ◌≡◌, ◌+◌, ◌≤◌, length}
use seplogic.Ra.Ura.{Ura}
use base.Logic.{SProp}
use prog.Memory.{Memory}
use prog.Routine.{Routine}
use types.Logic.{Logic}
use contract.Monad.{Fun}
use Rattle.rules.specs.Determined.{Determined}
use Rattle.rules.proofs.Determined.{by_fact}
use Rattle.text.specs.Text.{decimal, Wrote}
use Rattle.text.proofs.Text.{wrote_only}
use Rattle.text.specs.contracts.placed.put as put
use Rattle.text.specs.contracts.placed.word as word
use Rattle.text.specs.contracts.placed.number as number
use Rattle.text.specs.contracts.placed.total as total

module _ {M : Type 1} {𝓤 : Ura M} (𝓛 : Logic 𝓤) (mem : Memory → SProp 𝓤) (run : Routine → Fun 𝓤) where
  pub placed_put_determined : Determined put.ended (put.clauses 𝓛 mem run) {S = List ℕ × ℕ} (λ κs r e. (e.0.now, r))
  placed_put_determined = by_fact (λ κs a r e. Wrote a.0.now a.1.0 (a.1.1.0 ∷ []) e.0.now r × (r ≡ a.1.0 + 1)) (λ κs a r other e left p q. wrote_only p.0 q.0) (λ κs a g r e. refl)

  pub placed_word_determined : Determined word.ended (word.clauses 𝓛 mem run) {S = List ℕ × ℕ} (λ κs r e. (e.0.now, r))
  placed_word_determined = by_fact (λ κs a r e. Wrote a.0.now a.1.0 a.1.1.0.now e.0.now r × (r ≡ a.1.0 + length a.1.1.0.now)) (λ κs a r other e left p q. wrote_only p.0 q.0) (λ κs a g r e. refl)

  pub placed_number_determined : Determined number.ended (number.clauses 𝓛 mem run) {S = List ℕ × ℕ} (λ κs r e. (e.0.now, r))
  placed_number_determined = by_fact (λ κs a r e. Wrote a.0.now a.1.0 (decimal a.1.1.0) e.0.now r × (r ≤ a.1.0 + 4)) (λ κs a r other e left p q. wrote_only p.0 q.0) (λ κs a g r e. refl)

  pub placed_total_determined : Determined total.ended (total.clauses 𝓛 mem run) {S = List ℕ × ℕ} (λ κs r e. (e.0.now, r))
  placed_total_determined = by_fact (λ κs a r e. Wrote a.0.now a.1.0 (decimal a.1.1.0) e.0.now r × (r ≤ a.1.0 + 20)) (λ κs a r other e left p q. wrote_only p.0 q.0) (λ κs a g r e. refl)
