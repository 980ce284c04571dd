-- The contracts of the crate's public functions determine what they answer: answer, board, count, and every byte of the lent room.
use mathlib.Core.Path.{refl}
use seplogic.Ra.Ura.{Ura}
use base.Logic.{SProp}
use prog.Memory.{Memory}
use prog.Routine.{Routine}
use types.Logic.{Logic}
use contract.Monad.{Fun}
use Prim.Native.Nat.{ℕ}
use mathlib.Core.List.{List}
use Rattle.rules.specs.declared.Command.TheVariants as Do
use Rattle.rules.specs.declared.Ran.{Ran}
use Rattle.rules.specs.Shape as Shape
use Rattle.rules.specs.Sheet as Sheet
use Rattle.rules.specs.Determined.{Determined}
use Rattle.rules.proofs.Determined.{by_equation, by_equations}
use Rattle.bench.specs.contracts.step as step
use Rattle.bench.specs.contracts.request as request
use Rattle.bench.specs.contracts.release as release
use Rattle.bench.specs.contracts.deliver as deliver
use Rattle.bench.specs.contracts.run as many
use Rattle.bench.specs.contracts.run_opening as from-opening
use Rattle.bench.specs.contracts.drain as drain

module _ {M : Type 1} {𝓤 : Ura M} (𝓛 : Logic 𝓤) (mem : Memory → SProp 𝓤) (run : Routine → Fun 𝓤) where
  pub step_determined : Determined step.ended (step.clauses 𝓛 mem run) (λ κs r e. r)
  step_determined = by_equation (λ κs a. Shape.step a.0 a.1.0) (λ κs a g r e. refl)

  pub request_determined : Determined request.ended (request.clauses 𝓛 mem run) (λ κs r e. r)
  request_determined = by_equation (λ κs a. Shape.step a.0 (Do.Request a.1.0 a.1.1.0 a.1.1.1.0)) (λ κs a g r e. refl)

  pub release_determined : Determined release.ended (release.clauses 𝓛 mem run) (λ κs r e. r)
  release_determined = by_equation (λ κs a. Shape.step a.0 (Do.Release a.1.0 a.1.1.0)) (λ κs a g r e. refl)

  pub deliver_determined : Determined deliver.ended (deliver.clauses 𝓛 mem run) (λ κs r e. r)
  deliver_determined = by_equation (λ κs a. Shape.step a.0 (Do.Deliver a.1.0)) (λ κs a g r e. refl)

  pub run_determined : Determined many.ended (many.clauses 𝓛 mem run) {S = Ran × List ℕ} (λ κs r e. (r, e.1.1.0.now))
  run_determined = by_equations (λ κs a. (Sheet.run a.0 a.1.0.now a.1.1.0.now).ran) (λ κs a. (Sheet.run a.0 a.1.0.now a.1.1.0.now).room) (λ κs a g r e. refl)

  pub run_opening_determined : Determined from-opening.ended (from-opening.clauses 𝓛 mem run) {S = Ran × List ℕ} (λ κs r e. (r, e.1.1.0.now))
  run_opening_determined = by_equations
      (λ κs a. let o = a.0.now in (Sheet.run_opening o.nodes o.processes o.objects o.process_home o.object_home a.1.0.now a.1.1.0.now).ran)
      (λ κs a. let o = a.0.now in (Sheet.run_opening o.nodes o.processes o.objects o.process_home o.object_home a.1.0.now a.1.1.0.now).room)
      (λ κs a g r e. refl)

  pub drain_determined : Determined drain.ended (drain.clauses 𝓛 mem run) (λ κs r e. r)
  drain_determined = by_equation (λ κs a. Shape.drain a.0 a.1.0) (λ κs a g r e. refl)
