-- The contracts of the crate's public functions determine their results.
use Rattle.std.proofs.Common.{refl, sym, ◌∙◌}
use seplogic.Ra.Ura.{Ura}
use base.Logic.{SProp}
use prog.Memory.{Memory}
use prog.Routine.{Routine}
use types.Logic.{Logic}
use contract.Monad.{Fun}
use Rattle.rules.specs.Determined.{Determined}
use Rattle.rules.proofs.Bits.{set_ext_all}
use Rattle.rules.proofs.Determined.{by_fact, by_equation}
use Rattle.laws.specs.Local.{destination}
use Rattle.desk.specs.Senders as Senders
use Rattle.desk.specs.Desks as Desks
use Rattle.desk.specs.contracts.act as act
use Rattle.desk.specs.contracts.closed as closed
use Rattle.desk.specs.contracts.messages.arrives_at as arrives_at
use Rattle.desk.specs.contracts.messages.sent as sent

module _ {M : Type 1} {𝓤 : Ura M} (𝓛 : Logic 𝓤) (mem : Memory → SProp 𝓤) (run : Routine → Fun 𝓤) where
  pub act_determined : Determined act.ended (act.clauses 𝓛 mem run) (λ κs r e. r)
  act_determined = by_equation (λ κs a. Desks.acted a.0 a.1.0) (λ κs a g r e. refl)

  pub closed_determined : Determined closed.ended (closed.clauses 𝓛 mem run) (λ κs r e. r)
  closed_determined = by_equation (λ κs a. Desks.closed) (λ κs a g r e. refl)

  pub arrives_at_determined : Determined arrives_at.ended (arrives_at.clauses 𝓛 mem run) (λ κs r e. r)
  arrives_at_determined = by_equation (λ κs a. destination a.0 a.1.0) (λ κs a g r e. refl)

  pub sent_determined : Determined sent.ended (sent.clauses 𝓛 mem run) (λ κs r e. r)
  sent_determined = by_fact (λ κs a r e. Senders.Sent a.0 a.1.0 a.1.1.0 r) (λ κs a r other e left p q. set_ext_all r other (λ k. p.has k ∙ sym (q.has k))) (λ κs a g r e. refl)
