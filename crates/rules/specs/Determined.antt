-- "Each public function's contract determines its answer, the board and every lent byte for every input, refusals too; prove that any two
-- results allowed by it are equal." Said once, of any contract, over the clauses that the checker makes of it.
use Rattle.std.specs.Prelude.{◌≡◌}
use seplogic.Ra.Ura.{Ura}
use base.Logic.{ent}
use contract.Lifetimes.{Lfts}
use contract.Monad.{conj, fact}
use denote.Triple.Entry.{Args, Res}
use denote.Triple.Clauses.{Ended, Clauses, AtExit}

-- what is compared of an outcome: of the result, and of the parameters as the function leaves them
abbrev pub View : Ended → Type 0 → Type 0
View T S = (κs : Lfts T.signature.lifetimes) → Res T.signature κs → AtExit T κs → S

-- for all arguments: two outcomes that the contract allows look the same
pub record Determined {M : Type 1} {𝓤 : Ura M} (T : Ended) (c : Clauses 𝓤 T) {S : Type 0} (view : View T S) : Type 2 where
  pub same : (κs : Lfts T.signature.lifetimes) (a : Args T.signature κs) (g h : (c κs a).ghost)
      (r other : Res T.signature κs) (e left : AtExit T κs)
      → ent 𝓤 (conj 𝓤 ((c κs a).ensures g r e) ((c κs a).ensures h other left)) (fact 𝓤 (view κs r e ≡ view κs other left))
