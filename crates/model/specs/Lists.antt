-- Lists: an element with a property, a number that stands in a list, different numbers.
use Rattle.std.specs.Prelude.{◌≡◌, ◌⊎◌, Bool, true, false, List, [], ◌∷◌, ℕ}
use Rattle.std.proofs.Common.{inl, inr, ⊎_elim}
use Rattle.std.proofs.Math.Decide.{ℕ_discrete}

module _ {A : Type 0} where
  -- some element has the property
  abbrev pub Any : (A → Type 0) → List A → Type 0
  Any P [] = ⊥
  Any P (x ∷ xs) = P x ⊎ Any P xs

  abbrev pub is_empty : List A → Bool
  is_empty [] = true
  is_empty (x ∷ xs) = false

-- p stands in the list
abbrev pub Has : ℕ → List ℕ → Type 0
Has p l = Any (λ (x : ℕ). x ≡ p) l

unfoldable pub has? : (p : ℕ) (l : List ℕ) → Dec (Has p l)
has? p [] = no (λ h. h)
has? p (x ∷ l) = go (ℕ_discrete x p) (has? p l)
  where
    go : Dec (x ≡ p) → Dec (Has p l) → Dec (Has p (x ∷ l))
    go (yes e) d = yes (inl e)
    go (no n) (yes h) = yes (inr h)
    go (no n) (no m) = no (⊎_elim n m)

-- all numbers of the list are different
abbrev pub Distinct : List ℕ → Type 0
Distinct [] = Unit {0}
Distinct (x ∷ l) = (Has x l → ⊥) × Distinct l

-- those of qs that do not stand in l, each once
abbrev pub unless_has : {P : Type 0} → Dec P → ℕ → List ℕ → List ℕ
unless_has (yes h) q qs = qs
unless_has (no h) q qs = q ∷ qs

unfoldable pub fresh : List ℕ → List ℕ → List ℕ
fresh l [] = []
fresh l (q ∷ qs) = unless_has (has? q l) q (fresh (q ∷ l) qs)
