-- Worked examples of the search: what it finds on boards that commands reach, and which of several rings it takes. The checker has computed
-- each.
use Rattle.std.specs.Prelude.{ℕ, ◌≡◌, List, [], ◌∷◌, replicate}
use Rattle.rules.specs.declared.Ring.{Ring}
use Rattle.rules.specs.declared.Board.{Board}
use Rattle.rules.specs.declared.Command.TheVariants.{Request, Deliver}
use Rattle.rules.specs.Tables.{rows}
use Rattle.rules.specs.Lists.{ring_of, no_ring}
use Rattle.rules.specs.Board.{tally}
use Rattle.rules.specs.Sheet.{run_sheet}
use Rattle.rules.specs.Cases.{does, drains, in_full, small_board, outcome}
use Rattle.search.specs.Waiting.{arc}
use Rattle.search.specs.Ways.{shortest, ring_through}

-- the rings through the processes 0, 1, 2
abbrev rings : Board → List Ring
rings b = rows 3 (ring_through b)

-- the end of the run in full
abbrev ran_in_full : Board
ran_in_full = (run_sheet in_full (replicate 16 99)).ran.board

-- p0 shared on a; p1 exclusive in line on a; p2 holds b and is in line, shared, on a; p0 asks exclusive for b
abbrev through_a_line : Board
through_a_line = (outcome small_board (does (Request 0 0 0) ∷ drains ∷ does (Request 1 0 1) ∷ drains ∷ does (Request 2 1 1) ∷ drains
    ∷ does (Request 2 0 0) ∷ drains ∷ does (Request 0 1 1) ∷ drains ∷ [])).board

-- p0 holds a and stands in line for b, which p1 holds; p1's request for a has arrived, and the list that it started is on its way
abbrev unrecorded : Board
unrecorded = (outcome small_board (does (Request 0 0 1) ∷ drains ∷ does (Request 1 1 1) ∷ drains ∷ does (Request 0 1 1) ∷ drains
    ∷ does (Request 1 0 1) ∷ does (Deliver 0) ∷ [])).board

-- the ring through p0 along sets
abbrev along : List ℕ → Ring
along sets = shortest (arc sets) 0

pub record CasesHold : Type 0 where
  -- the paper's ring
  pub in_full : rings ran_in_full ≡ ring_of (0 ∷ 1 ∷ []) ∷ ring_of (1 ∷ 0 ∷ []) ∷ no_ring ∷ []
  -- a ring through a line: p2 waits for p1, which stands ahead of it
  pub line : rings through_a_line ≡ ring_of (0 ∷ 2 ∷ 1 ∷ []) ∷ ring_of (1 ∷ 0 ∷ 2 ∷ []) ∷ ring_of (2 ∷ 1 ∷ 0 ∷ []) ∷ []
  -- a ring that no list has recorded
  pub none : tally unrecorded ≡ 0
  pub there : rings unrecorded ≡ ring_of (0 ∷ 1 ∷ []) ∷ ring_of (1 ∷ 0 ∷ []) ∷ no_ring ∷ []
  -- 0 waits for 1 and 3, 1 for 2, 2 and 3 for 0: the shorter ring
  pub shorter : along (0b1010 ∷ 0b0100 ∷ 0b0001 ∷ 0b0001 ∷ []) ≡ ring_of (0 ∷ 3 ∷ [])
  -- 0 waits for 1 and 2, both for 0: the lower number
  pub lower : along (0b110 ∷ 0b001 ∷ 0b001 ∷ []) ≡ ring_of (0 ∷ 1 ∷ [])
  -- 0 waits for 1, and 1 and 2 for each other: no ring through 0
  pub beside : along (0b010 ∷ 0b100 ∷ 0b010 ∷ []) ≡ no_ring
