-- What is promised of every board that commands reach: demand 3, and what document 01 says of such boards besides.
-- Waits, IsRing, Quiet, Reached, Later, Deliveries and the other words that come from there are defined in rules/specs/Waits.antt, step and
-- drain in rules/specs/Shape.antt, run and run_sheet in rules/specs/Sheet.antt; a process's own list, and that it recorded the ring at the
-- process's place (OwnRing), in laws/specs/Own.antt. A `List ℕ` is a sequence of processes and not the paper's list; where sheets are run,
-- it is bytes.
use Rattle.std.specs.Prelude.{◌≡◌, ◌⊎◌, ◌≢◌, ◌↔◌, true, false, List, ◌∷◌, ℕ, ◌≤◌}
use Rattle.rules.specs.declared.Mode.{Mode}
use Rattle.rules.specs.declared.Wait.TheVariants.{Waiting}
use Rattle.rules.specs.declared.Board.{Board}
use Rattle.rules.specs.declared.Ran.{Ran}
use Rattle.rules.specs.declared.Command.{Command}
use Rattle.rules.specs.declared.Command.TheVariants as Do
use Rattle.rules.specs.declared.Answer.TheVariants.{Done, OutOfShape}
use Rattle.rules.specs.Book.{conflict}
use Rattle.rules.specs.Board.{process_at, object_at, ring_at, load}
use Rattle.rules.specs.Shape.{in_shape, step, drain}
use Rattle.rules.specs.Sheet.{run, run_sheet}
use Rattle.rules.specs.Waits.{Holder, Holds, Stands, Waits, Among, IsRing, recorded, Filled, Present, Quiet, Reached, Later, Deliveries, LowestFirst}
use Rattle.laws.specs.Own.{OwnRing}

-- ---- demand 3
-- "Every recorded ring is a true ring of waits, then and on every later board."
pub record RingsTrue (b : Board) : Type 0 where
  pub ring : (s : ℕ) → Filled b s → IsRing b (recorded b s)
  pub later : (c : Board) → Later b c → (s : ℕ) → Filled b s → (recorded c s ≡ recorded b s) × IsRing c (recorded b s)
  -- the ring at the place of s begins with s
  pub first : (s : ℕ) → Filled b s → (l : List ℕ) × (recorded b s ≡ s ∷ l)

-- "If only deliveries follow, in any order, each message present can be delivered, and after at most 1,920 deliveries none is left."
-- While a message is present, a run of deliveries can go on, and no run is longer than 1,920. The empty run is one, so this speaks of b too.
pub record Ends (b : Board) : Type 0 where
  pub deliverable : (n : ℕ) (c : Board) → Deliveries n b c → (i : ℕ) → Present c i → (step c (Do.Deliver i)).answer ≡ Done
  pub at_most : (n : ℕ) (c : Board) → Deliveries n b c → n ≤ 1920
  -- these follow; stated for the reader: a run that cannot go on has left no message, so have 1,920 deliveries, and some run leaves none
  pub stuck : (n : ℕ) (c : Board) → Deliveries n b c → ((i : ℕ) → (step c (Do.Deliver i)).answer ≢ Done) → Quiet c
  pub after : (c : Board) → Deliveries 1920 b c → Quiet c
  pub way : (n : ℕ) × (c : Board) × (n ≤ 1920) × Deliveries n b c × Quiet c

-- the home of process p notes that it waits for object o in mode m
abbrev pub Notes : Board → ℕ → ℕ → Mode → Type 0
Notes b p o m = (process_at b p).wait ≡ Waiting o m

-- "Then every ring of waits that exists holds a process whose own list recorded a ring, and homes and objects agree on who holds
-- and who waits." Homes are those of processes. Where place s is filled, it was s's own list that recorded: `own`, below.
pub record AtRest (b : Board) : Type 0 where
  pub found : (l : List ℕ) → IsRing b l → (s : ℕ) × Among s l × Filled b s
  pub agree_holds : (p o : ℕ) (m : Mode) → Holds b p o m ↔ Holder b o p m
  pub agree_waits : (p o : ℕ) (m : Mode) → Notes b p o m ↔ ((k : ℕ) × Stands b o k p m)

-- "At no time do the homes' books show two processes in conflicting holds." Homes are those of processes; objects' books show none either.
pub record NoConflict (b : Board) : Type 0 where
  pub homes : (p q o : ℕ) (m n : Mode) → p ≢ q → Holds b p o m → Holds b q o n → conflict m n ≡ false
  pub objects : (p q o : ℕ) (m n : Mode) → p ≢ q → Holder b o p m → Holder b o q n → conflict m n ≡ false

pub record Demand3 (b : Board) : Type 0 where
  pub rings : RingsTrue b
  pub ends : Ends b
  pub when_at_rest : (n : ℕ) (c : Board) → Deliveries n b c → Quiet c → AtRest c
  pub no_conflict : NoConflict b

-- ---- document 01
-- no step and no drain is refused with 17
pub record Fits (b : Board) : Type 0 where
  pub shape : in_shape b ≡ true
  pub steps : (c : Command) → (step b c).answer ≢ OutOfShape
  pub drain_done : (budget : ℕ) → (drain b budget).answer ≡ Done

-- "deliver the lowest-numbered message again and again until none is left or the budget is used. The answer holds how many deliveries were
-- made, which is exactly the number the rules need, or the budget if that is less"
pub record Drains (b : Board) (budget : ℕ) : Type 0 where
  pub made : LowestFirst (drain b budget).made b (drain b budget).board
  pub within : (drain b budget).made ≤ budget
  pub end : ((drain b budget).made ≡ budget) ⊎ Quiet (drain b budget).board
  -- no other count and no other board are so
  pub only : (n : ℕ) (c : Board) → LowestFirst n b c → n ≤ budget → (n ≡ budget) ⊎ Quiet c → (n ≡ (drain b budget).made) × (c ≡ (drain b budget).board)
  -- a budget of 1,920 is enough; the board is reached, so all of this page holds of it
  pub enough : 1920 ≤ budget → Quiet (drain b budget).board
  pub reached : Reached (drain b budget).board

pub record Paper (b : Board) : Type 0 where
  -- Load "never passes 64."
  pub load_at_most : load b ≤ 64
  pub fits : Fits b
  pub drains : (budget : ℕ) → Drains b budget
  -- "none if it waits for nobody, which happens only on boards no commands reach": everyone in a line waits for somebody
  pub blocked : (o k p : ℕ) (m : Mode) → Stands b o k p m → (q : ℕ) × Waits b p q
  -- `run`, one call for many commands, which the paper does not name, leads where commands lead
  pub runs : (s room : List ℕ) → Later b (run b s room).ran.board

-- ---- all of it, of any board reached
pub record Demand (b : Board) : Type 0 where
  pub demand3 : Demand3 b
  -- demand 3 is over waits, rings and filled places; that "own list" is meant by a filled place is this: it was the own list of s that
  -- recorded the ring at the place of s
  pub own : (s : ℕ) → Filled b s → OwnRing s b
  pub paper : Paper b

-- "Take any board reached from an opening by any commands, refused ones included."
abbrev pub DemandHolds : Type 0
DemandHolds = (b : Board) → Reached b → Demand b

-- a sheet that ran ends on a reached board, so all of this page holds there
abbrev pub SheetsReach : Type 0
SheetsReach = (s room : List ℕ) → (run_sheet s room).ran.answer ≡ Done → Reached (run_sheet s room).ran.board

-- "Limits: .. 1 to 16 objects, .. 4,096 commands in a sheet": what is printed of a sheet that ran is within its limits, so that none of it is
-- cut (`at_most` in text/specs/Text.antt)
pub record WithinLimits (r : Ran) : Type 0 where
  pub commands : r.commands ≤ 4096
  pub objects : r.board.object_count ≤ 16
  pub line : (o : ℕ) → (object_at r.board o).line_count ≤ 16
  pub ring : (s : ℕ) → (ring_at r.board s).count ≤ 16

abbrev pub SheetsWithin : Type 0
SheetsWithin = (s room : List ℕ) → (run_sheet s room).ran.answer ≡ Done → WithinLimits (run_sheet s room).ran
