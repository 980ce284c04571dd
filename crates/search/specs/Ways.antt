-- Ways along waits, and the shortest way round. `w x q` is that x waits for q; only numbers below 16 are gone to.
use Rattle.std.specs.Prelude.{ℕ, zero, suc, Bool, ◌&&◌, List, [], ◌∷◌, eqb, ltb, leb}
use Rattle.rules.specs.declared.Ring.{Ring}
use Rattle.rules.specs.declared.Board.{Board}
use Rattle.rules.specs.Tables.{pick, rows}
use Rattle.rules.specs.Lists.{ring_of, no_ring}
use Rattle.search.specs.Numbers.{first, any, set_of}
use Rattle.search.specs.Waiting.{waits_for}

-- x comes to p in exactly k waits
unfoldable pub comes : (ℕ → ℕ → Bool) → ℕ → ℕ → ℕ → Bool
comes w p zero x = eqb x p
comes w p (suc k) x = any 16 (λ q. w x q && comes w p k q)

-- those who come to p in no wait, in one, and so on to 16, each as a set
unfoldable pub comers : (ℕ → ℕ → Bool) → ℕ → List ℕ
comers w p = rows 17 (λ k. set_of 16 (comes w p k))

-- whom x goes on to, so that k waits are left from there to p: the lowest such number
unfoldable pub next : (ℕ → ℕ → Bool) → ℕ → ℕ → ℕ → ℕ
next w p k x = first 16 (λ q. w x q && comes w p k q)

-- the way of k waits from x to p, each going on to the lowest number; p, at its end, is not named
unfoldable pub way : (ℕ → ℕ → Bool) → ℕ → ℕ → ℕ → List ℕ
way w p zero x = []
way w p (suc k) x = x ∷ way w p k (next w p k x)

-- in how many waits, one at least, p comes round first; 17 where it does not come round in 16
unfoldable pub round : (ℕ → ℕ → Bool) → ℕ → ℕ
round w p = suc (first 16 (λ k. comes w p (suc k) p))

-- the shortest ring through p, and of those the one that goes on to lower numbers first; no ring where there is none
unfoldable pub shortest : (ℕ → ℕ → Bool) → ℕ → Ring
shortest w p = pick (ltb p 16 && leb (round w p) 16) (ring_of (way w p (round w p) p)) no_ring

-- the same on a board
abbrev pub ring_through : Board → ℕ → Ring
ring_through b p = shortest (waits_for b) p
