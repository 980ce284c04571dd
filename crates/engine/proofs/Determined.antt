-- The contract of the engine determines what it hands back. Of the room a drain says nothing: its one byte is a local of the bench.
use mathlib.Core.Path.{◌≡◌, refl, sym, ◌∙◌}
use mathlib.Core.Bool.{Bool, true, false}
use mathlib.Core.List.{List}
use seplogic.Ra.Ura.{Ura}
use base.Logic.{SProp}
use prog.Memory.{Memory}
use prog.Routine.{Routine}
use types.Logic.{Logic}
use contract.Monad.{Fun}
use Prim.Native.Nat.{ℕ}
use Rattle.rules.specs.declared.Board.{Board}
use Rattle.rules.specs.declared.Ran.{Ran}
use Rattle.rules.specs.Determined.{Determined}
use Rattle.rules.proofs.Determined.{by_fact}
use Rattle.engine.specs.Work.{Worked}
use denote.RattleType.{RattleType}
use mir.Syntax.{Dict}
use Rattle.std.specs.declared.clone.Clone as clone-of
use Rattle.engine.specs.declared.next.Source as source-of
use Rattle.engine.specs.contracts.turns as turns

one_work : (drains : Bool) (b : Board) (s : List ℕ) (most : ℕ) (room : List ℕ) (r other : Ran) (after left : List ℕ) → Worked drains b s most room r after → Worked drains b s most room other left → r ≡ other
one_work true b s most room r other after left p q = p.drain refl ∙ sym (q.drain refl)
one_work false b s most room r other after left p q = (p.sheet refl).0 ∙ sym (q.sheet refl).0

module _ {M : Type 1} {𝓤 : Ura M} (𝓛 : Logic 𝓤) (mem : Memory → SProp 𝓤) (run : Routine → Fun 𝓤)
    (S : RattleType) (source : source-of.Ghosts S.Denot) (source_dict : Dict) (clone : clone-of.Ghosts S.Denot) (clone_dict : Dict) where
  pub turns_determined : Determined (turns.ended S source source_dict clone clone_dict) (turns.clauses S source source_dict clone clone_dict 𝓛 mem run) (λ κs r e. r)
  turns_determined = by_fact (λ κs a r e. Worked (source.drains a.1.0) a.0 (source.commands a.1.0) a.1.1.0 a.1.1.1.0.now r e.1.1.1.0.now)
      (λ κs a r other e left p q. one_work (source.drains a.1.0) a.0 (source.commands a.1.0) a.1.1.0 a.1.1.1.0.now r other e.1.1.1.0.now left.1.1.1.0.now p q) (λ κs a g r e. refl)
