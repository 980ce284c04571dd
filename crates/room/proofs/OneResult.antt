-- "both give one result": each contract names the answer and the board of the rule, so what both name is the same.
-- The first three lemmas say that the statement speaks of the contracts themselves: the clauses of `bench::step`, `room::step_lent` and `room::step_in`.
use mathlib.Core.Path.{◌≡◌, refl, sym, ap, ◌∙◌}
use seplogic.Ra.Ura.{Ura}
use base.Logic.{SProp}
use base.Fml.{Lft}
use prog.Memory.{Memory}
use prog.Routine.{Routine}
use types.Logic.{Logic}
use contract.Monad.{Fun, fact}
use denote.Ref.{MutBor}
use Rattle.rules.specs.declared.Board.{Board}
use Rattle.rules.specs.declared.Command.{Command}
use Rattle.rules.specs.declared.Answer.{Answer}
use Rattle.rules.specs.declared.Stepped.{Stepped}
use Rattle.bench.specs.contracts.step as by_value
use Rattle.room.specs.contracts.step_in as step_in
use Rattle.room.specs.contracts.step_lent as step-lent
use Rattle.room.specs.OneResult.{ByValue, InRoom, OneResult}

module _ {M : Type 1} {𝓤 : Ura M} (𝓛 : Logic 𝓤) (mem : Memory → SProp 𝓤) (run : Routine → Fun 𝓤) where
  pub by_value_says : (b : Board) (c : Command) (r : Stepped) → (by_value.clauses 𝓛 mem run tt (b, (c, tt))).ensures tt r (b, (c, tt)) ≡ fact 𝓤 (ByValue b c r)
  by_value_says b c r = refl

  pub lent_says : (b : Board) (c : Command) (r : Stepped) → (step-lent.clauses 𝓛 mem run tt (b, (c, tt))).ensures tt r (b, (c, tt)) ≡ fact 𝓤 (ByValue b c r)
  lent_says b c r = refl

  pub in_room_says : (κ : Lft) (room : MutBor Board) (c : Command) (answer : Answer) (left : MutBor Board) → (step_in.clauses 𝓛 mem run (κ, tt) (room, (c, tt))).ensures tt answer (left, (c, tt)) ≡ fact 𝓤 (InRoom room.now c answer left.now)
  in_room_says κ room c answer left = refl

pub one_result : OneResult
one_result b c r answer after value room = (room.0 ∙ sym (ap (λ (y : Stepped). y.answer) value), room.1 ∙ sym (ap (λ (y : Stepped). y.board) value))
