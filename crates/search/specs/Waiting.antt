-- Who waits for whom on the whole board, as a test, and as a set for each process: the arcs along which a ring is looked for.
use Rattle.std.specs.Prelude.{ℕ, Bool, ◌&&◌, List, eqb, ltb, get_or}
use Rattle.rules.specs.declared.Object.{Object}
use Rattle.rules.specs.declared.Board.{Board}
use Rattle.rules.specs.Tables.{rows, among}
use Rattle.rules.specs.Bits.{taken}
use Rattle.rules.specs.Book.{who_at, mode_at, waited_for}
use Rattle.rules.specs.Board.{object_at}
use Rattle.search.specs.Numbers.{any, set_of}

-- p stands at place k of the line, and waits there for q
abbrev pub waits_at : Object → ℕ → ℕ → ℕ → Bool
waits_at o p q k = ltb k o.line_count && (eqb (who_at o k) p && among q (waited_for o p (mode_at o k) k))

-- p waits for q in the line of this object; a line has 16 places
unfoldable pub waits_in : Object → ℕ → ℕ → Bool
waits_in o p q = any 16 (waits_at o p q)

-- p waits for q
unfoldable pub waits_for : Board → ℕ → ℕ → Bool
waits_for b p q = any 16 (λ o. waits_in (object_at b o) p q)

-- for each process the set of those that it waits for
unfoldable pub arcs : Board → List ℕ
arcs b = rows 16 (λ p. set_of 16 (waits_for b p))

-- such sets as a test again
abbrev pub arc : List ℕ → ℕ → ℕ → Bool
arc sets p q = taken (get_or sets p 0) q
