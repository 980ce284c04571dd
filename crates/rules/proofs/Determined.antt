-- A contract that names what is seen of its outcome determines it: any two that are equal to the same are equal.
-- `Says` is that the clause is this plain fact; the checker sees it by computing, so a citation gives `refl`.
use mathlib.Core.Path.{◌≡◌, sym, subst, ◌∙◌}
use seplogic.Ra.Ura.{Ura}
use base.Logic.{SProp, ent, via, emp}
use contract.Lifetimes.{Lfts}
use contract.Monad.{conj, conj_r, fact, fact_mono, guard-conj}
use denote.Triple.Entry.{Args, Res}
use denote.Triple.Clauses.{Ended, Clauses, AtExit}
use Rattle.rules.specs.Determined.{View, Determined}

-- what two facts give together
both : {M : Type 1} (𝓤 : Ura M) (φ ψ χ : Type 0) → (φ → ψ → χ) → ent 𝓤 (conj 𝓤 (fact 𝓤 φ) (fact 𝓤 ψ)) (fact 𝓤 χ)
both 𝓤 φ ψ χ f = guard-conj 𝓤 φ (emp 𝓤) (fact 𝓤 ψ) (λ x. via 𝓤 (fact 𝓤 ψ) (conj_r 𝓤 (emp 𝓤) (fact 𝓤 ψ)) (fact_mono 𝓤 ψ χ (f x)))

-- a value, and a fact of the outcome, for all arguments
abbrev pub Given : Ended → Type 0 → Type 0
Given T S = (κs : Lfts T.signature.lifetimes) → Args T.signature κs → S

abbrev pub Fact : Ended → Type 1
Fact T = (κs : Lfts T.signature.lifetimes) → Args T.signature κs → Res T.signature κs → AtExit T κs → Type 0

abbrev pub Says : {M : Type 1} {𝓤 : Ura M} (T : Ended) → Clauses 𝓤 T → Fact T → Type 2
Says {𝓤 = 𝓤} T c φ = (κs : Lfts T.signature.lifetimes) (a : Args T.signature κs) (g : (c κs a).ghost) (r : Res T.signature κs) (e : AtExit T κs)
    → (c κs a).ensures g r e ≡ fact 𝓤 (φ κs a r e)

module _ {M : Type 1} {𝓤 : Ura M} {T : Ended} {c : Clauses 𝓤 T} {S : Type 0} {view : View T S} where
  pub by_fact : (φ : Fact T)
      → ((κs : Lfts T.signature.lifetimes) (a : Args T.signature κs) (r other : Res T.signature κs) (e left : AtExit T κs) → φ κs a r e → φ κs a other left → view κs r e ≡ view κs other left)
      → Says T c φ → Determined T c view
  by_fact φ one says = record {
    same = λ κs a g h r other e left.
        subst (λ (P : SProp 𝓤). ent 𝓤 (conj 𝓤 P ((c κs a).ensures h other left)) (fact 𝓤 (view κs r e ≡ view κs other left))) (sym (says κs a g r e))
        (subst (λ (P : SProp 𝓤). ent 𝓤 (conj 𝓤 (fact 𝓤 (φ κs a r e)) P) (fact 𝓤 (view κs r e ≡ view κs other left))) (sym (says κs a h other left))
        (both 𝓤 (φ κs a r e) (φ κs a other left) (view κs r e ≡ view κs other left) (one κs a r other e left)));
  }

  -- one equation
  pub by_equation : (x : Given T S) → Says T c (λ κs a r e. view κs r e ≡ x κs a) → Determined T c view
  by_equation x says = by_fact (λ κs a r e. view κs r e ≡ x κs a) (λ κs a r other e left p q. p ∙ sym q) says

  -- one equation, and something more beside it
  pub by_equation_with : (x : Given T S) (more : Fact T) → Says T c (λ κs a r e. (view κs r e ≡ x κs a) × more κs a r e) → Determined T c view
  by_equation_with x more says = by_fact (λ κs a r e. (view κs r e ≡ x κs a) × more κs a r e) (λ κs a r other e left p q. p.0 ∙ sym q.0) says

-- two equations
pub by_equations : {M : Type 1} {𝓤 : Ura M} {T : Ended} {c : Clauses 𝓤 T} {S L : Type 0} {view : View T (S × L)} (x : Given T S) (y : Given T L)
    → Says T c (λ κs a r e. ((view κs r e).0 ≡ x κs a) × ((view κs r e).1 ≡ y κs a)) → Determined T c view
by_equations {view = view} x y says =
    by_fact (λ κs a r e. ((view κs r e).0 ≡ x κs a) × ((view κs r e).1 ≡ y κs a)) (λ κs a r other e left p q i. ((p.0 ∙ sym q.0) i, (p.1 ∙ sym q.1) i)) says
