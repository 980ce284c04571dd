-- The contracts of the handlers determine their results, whether or not the numbers are in range.
use Rattle.std.proofs.Common.{refl, sym, ◌∙◌, not, ◌&&◌, eqb}
use seplogic.Ra.Ura.{Ura}
use base.Logic.{SProp}
use prog.Memory.{Memory}
use prog.Routine.{Routine}
use types.Logic.{Logic}
use contract.Monad.{Fun}
use Rattle.rules.specs.Bits as Bits
use Rattle.rules.specs.Book as Book
use Rattle.rules.specs.Determined.{Determined}
use Rattle.rules.proofs.Bits.{set_ext_all}
use Rattle.rules.proofs.Determined.{by_fact, by_equation}
use Rattle.objects.specs.Fronts as Fronts
use Rattle.objects.specs.Sets.{SetOf}
use Rattle.objects.specs.contracts.rivals as rivals
use Rattle.objects.specs.contracts.is_clear as is-clear
use Rattle.objects.specs.contracts.mode_at as mode-at
use Rattle.objects.specs.contracts.place_in as place-in
use Rattle.objects.specs.contracts.bars as bars
use Rattle.objects.specs.contracts.hold as hold
use Rattle.objects.specs.contracts.strike as strike
use Rattle.objects.specs.contracts.join as join
use Rattle.objects.specs.contracts.is_welcome as is-welcome
use Rattle.objects.specs.contracts.front_clear as front-clear
use Rattle.objects.specs.contracts.front_granted as front-granted
use Rattle.objects.specs.contracts.front_goes as front_goes
use Rattle.objects.specs.contracts.let_in as let-in

module _ {M : Type 1} {𝓤 : Ura M} (𝓛 : Logic 𝓤) (mem : Memory → SProp 𝓤) (run : Routine → Fun 𝓤) where
  pub rivals_determined : Determined rivals.ended (rivals.clauses 𝓛 mem run) (λ κs r e. r)
  rivals_determined = by_fact (λ κs a r e. SetOf (Book.rival a.0 a.1.0 a.1.1.0) r) (λ κs a r other e left p q. set_ext_all r other (λ k. p.has k ∙ sym (q.has k))) (λ κs a g r e. refl)

  pub is_clear_determined : Determined is-clear.ended (is-clear.clauses 𝓛 mem run) (λ κs r e. r)
  is_clear_determined = by_equation (λ κs a. Book.clear a.0 a.1.0 a.1.1.0) (λ κs a g r e. refl)

  pub mode_at_determined : Determined mode-at.ended (mode-at.clauses 𝓛 mem run) (λ κs r e. r)
  mode_at_determined = by_equation (λ κs a. Book.mode_at a.0 a.1.0) (λ κs a g r e. refl)

  pub place_in_determined : Determined place-in.ended (place-in.clauses 𝓛 mem run) (λ κs r e. r)
  place_in_determined = by_equation (λ κs a. Book.place_in a.0 a.1.0) (λ κs a g r e. refl)

  pub bars_determined : Determined bars.ended (bars.clauses 𝓛 mem run) (λ κs r e. r)
  bars_determined = by_equation (λ κs a. not (eqb a.0 a.1.1.0) && Book.conflict a.1.1.1.0 (Book.mode_if (Bits.taken a.1.0 a.1.1.1.1.0))) (λ κs a g r e. refl)

  pub hold_determined : Determined hold.ended (hold.clauses 𝓛 mem run) (λ κs r e. r)
  hold_determined = by_equation (λ κs a. Book.held a.0 a.1.0 a.1.1.0) (λ κs a g r e. refl)

  pub strike_determined : Determined strike.ended (strike.clauses 𝓛 mem run) (λ κs r e. r)
  strike_determined = by_equation (λ κs a. Book.struck a.0 a.1.0) (λ κs a g r e. refl)

  pub join_determined : Determined join.ended (join.clauses 𝓛 mem run) (λ κs r e. r)
  join_determined = by_equation (λ κs a. Book.joined a.0 a.1.0 a.1.1.0) (λ κs a g r e. refl)

  pub is_welcome_determined : Determined is-welcome.ended (is-welcome.clauses 𝓛 mem run) (λ κs r e. r)
  is_welcome_determined = by_equation (λ κs a. Book.welcome a.0 a.1.0 a.1.1.0) (λ κs a g r e. refl)

  pub front_clear_determined : Determined front-clear.ended (front-clear.clauses 𝓛 mem run) (λ κs r e. r)
  front_clear_determined = by_equation (λ κs a. Book.front_clear a.0) (λ κs a g r e. refl)

  pub front_granted_determined : Determined front-granted.ended (front-granted.clauses 𝓛 mem run) (λ κs r e. r)
  front_granted_determined = by_equation (λ κs a. Book.front_granted a.0) (λ κs a g r e. refl)

  pub front_goes_determined : Determined front_goes.ended (front_goes.clauses 𝓛 mem run) (λ κs r e. r)
  front_goes_determined = by_equation (λ κs a. Fronts.front_goes a.0) (λ κs a g r e. refl)

  pub let_in_determined : Determined let-in.ended (let-in.clauses 𝓛 mem run) (λ κs r e. r)
  let_in_determined = by_equation (λ κs a. Fronts.let_in a.0) (λ κs a g r e. refl)
