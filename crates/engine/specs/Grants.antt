-- Whom a release lets in, place by place of the line.
use Rattle.std.specs.Prelude.{ℕ, zero, suc, List, [], ◌∷◌}
use Rattle.rules.specs.declared.Mode.{Mode}
use Rattle.rules.specs.declared.Object.{Object}
use Rattle.rules.specs.Book.{who_at, mode_at}

-- those at n places of the line, from place k on, with their modes
unfoldable pub places_from : Object → ℕ → ℕ → List (ℕ × Mode)
places_from o k zero = []
places_from o k (suc n) = (who_at o k, mode_at o k) ∷ places_from o (suc k) n
