-- Rings over any relation.
use Rattle.std.specs.Prelude.{List, [], ◌∷◌, ℕ}
use Rattle.model.specs.Lists.{Distinct}

-- x waits for the first of l, each of l for the next, the last for z
abbrev pub Chain : (ℕ → ℕ → Type 0) → ℕ → List ℕ → ℕ → Type 0
Chain W x [] z = W x z
Chain W x (y ∷ l) z = W x y × Chain W y l z

-- "A ring is two or more different processes, each waiting for the next, the last for the first."
abbrev pub IsRing : (ℕ → ℕ → Type 0) → List ℕ → Type 0
IsRing W [] = ⊥
IsRing W (x ∷ []) = ⊥
IsRing W (x ∷ y ∷ l) = Distinct (x ∷ y ∷ l) × Chain W x (y ∷ l) x
