-- Those whom a release grants stood in the line, so they are below whatever the line's processes are below.
use mathlib.Core.Path.{◌≡◌}
use mathlib.Core.Bool.{Bool, true, false}
use mathlib.Core.List.{List, [], ◌∷◌}
use Prim.Native.Nat.{ℕ, zero, suc, ◌<◌}
use native.Mathlib.Omega.{arith}
use Rattle.rules.specs.declared.Mode.{Mode}
use Rattle.rules.specs.declared.Object.{Object}
use Rattle.rules.specs.Book.{who_at, mode_at, Settled, granted_first, front_clear, front_granted, settled}

abbrev pub GrantsBelow : ℕ → List (ℕ × Mode) → Type 0
GrantsBelow c [] = Unit {0}
GrantsBelow c (g ∷ gs) = (g.0 < c) × GrantsBelow c gs

-- P is what is known of the book
module _ (c : ℕ) (P : Object → Type 0) (front : (o : Object) → P o → 0 < o.line_count → who_at o 0 < c)
    (keeps : (o : Object) → P o → 0 < o.line_count → P (front_granted o)) where
  pub settled_grants : (n : ℕ) (o : Object) → o.line_count ≡ n → P o → GrantsBelow c (settled n o).grants
  unfolding settled
  settled_grants zero o e h = tt
  settled_grants (suc n) o e h = go (front_clear o) (settled_grants n (front_granted o) (omega arith) (keeps o h (omega arith)))
    where
      go : (t : Bool) → GrantsBelow c (settled n (front_granted o)).grants → GrantsBelow c (elim t as (λ _. Settled) [ true ↦ granted_first (who_at o 0, mode_at o 0) (settled n (front_granted o)) | false ↦ record { object = o; grants = [] } ]).grants
      go true g = (front o h (omega arith), g)
      go false g = tt
