-- What is promised of the ring that is found: it is one, it is found wherever there is one, and it depends on the waits alone.
-- Waits, IsRing, Among and Reached are defined in rules/specs/Waits.antt, in_shape in rules/specs/Shape.antt; `Sized b`, in
-- laws/specs/Shape.antt, is that the arrays of b are as long as their types say, which every board of a program is.
use Rattle.std.specs.Prelude.{◌≡◌, ◌↔◌, true, List, ◌∷◌, ℕ, ◌≤◌, ◌<◌, length, get_or}
use Rattle.rules.specs.declared.Ring.{Ring}
use Rattle.rules.specs.declared.Board.{Board}
use Rattle.rules.specs.Tables.{rows}
use Rattle.rules.specs.Shape.{in_shape}
use Rattle.rules.specs.Waits.{Waits, Among, IsRing, Reached}
use Rattle.laws.specs.Shape.{Sized}
use Rattle.search.specs.Waiting.{waits_for, arcs, arc}
use Rattle.search.specs.Ways.{shortest, ring_through}

-- the processes of a ring, in their order
abbrev pub members : Ring → List ℕ
members r = rows r.count (λ k. get_or r.processes k 0)

-- a ring was found
abbrev pub Found : Board → ℕ → Type 0
Found b p = 0 < (ring_through b p).count

-- a ring through p was found, and it is no longer than l
abbrev pub FoundWithin : Board → ℕ → List ℕ → Type 0
FoundWithin b p l = Found b p × ((ring_through b p).count ≤ length l)

pub record SearchHolds : Type 0 where
  -- on every board, in shape or not: what is found is a ring of waits, and p is its first process
  pub ring : (b : Board) (p : ℕ) → Found b p → IsRing b (members (ring_through b p))
  pub first : (b : Board) (p : ℕ) → Found b p → (l : List ℕ) × (members (ring_through b p) ≡ p ∷ l)
  -- on a board in shape: where p is on a ring of waits, a ring through p is found, and it is no longer than that one
  pub found : (b : Board) → Sized b → in_shape b ≡ true → (l : List ℕ) → IsRing b l → (p : ℕ) → Among p l → FoundWithin b p l
  -- so on every board that commands reach, without a condition: such boards are in shape (Fits, in promises/specs/Demand.antt)
  pub reached : (b : Board) → Reached b → (l : List ℕ) → IsRing b l → (p : ℕ) → Among p l → FoundWithin b p l
  -- on every board: along its arcs, which whoever asks for several processes works out once, the same ring is found
  pub sets : (b : Board) (p : ℕ) → shortest (arc (arcs b)) p ≡ ring_through b p
  -- on a board in shape the test says who waits for whom
  pub waits : (b : Board) → Sized b → in_shape b ≡ true → (p q : ℕ) → (waits_for b p q ≡ true) ↔ Waits b p q
  -- so boards on which the same processes wait for the same have the same rings, whatever else they differ in
  pub alone : (b c : Board) → Sized b → in_shape b ≡ true → Sized c → in_shape c ≡ true → ((p q : ℕ) → Waits b p q ↔ Waits c p q)
      → (p : ℕ) → ring_through b p ≡ ring_through c p
