-- "Deliveries and releases keep a board in shape. On a board no commands reach, where a process stands in a line and its home notes no
-- wait, an accepted request puts it in twice; the next call then gives 17." On any board, reached or not.
use Rattle.std.specs.Prelude.{ℕ, suc, ◌≡◌, ◌↔◌, ◌≢◌, true, replicate}
use Rattle.rules.specs.declared.Board.{Board}
use Rattle.rules.specs.declared.Command.{Command}
use Rattle.rules.specs.declared.Command.TheVariants.{Request, Release, Deliver}
use Rattle.rules.specs.declared.Answer.TheVariants.{Done, OutOfShape}
use Rattle.rules.specs.Board.{put_object}
use Rattle.rules.specs.Commands.{turn, draining, empty_board}
use Rattle.rules.specs.Shape.{standing, in_shape, step}
use Rattle.laws.specs.Shape.{Sized}

pub record ShapeKept : Type 0 where
  pub delivery : (b : Board) (n : ℕ) → Sized b → in_shape b ≡ true → in_shape (turn b (Deliver n)).board ≡ true
  pub release : (b : Board) (p o : ℕ) → Sized b → in_shape b ≡ true → in_shape (turn b (Release p o)).board ≡ true
  pub drain : (n : ℕ) (b : Board) → Sized b → in_shape b ≡ true → in_shape (draining n b).board ≡ true

-- an accepted request, on a board in shape
pub record RequestSaid (b : Board) (p o m : ℕ) : Type 0 where
  -- its process stands once more, in lines and requests in flight taken together
  pub once : standing (turn b (Request p o m)).board p ≡ suc (standing b p)
  -- so the board stays in shape exactly where the process stood nowhere
  pub kept : (in_shape (turn b (Request p o m)).board ≡ true) ↔ (standing b p ≡ 0)
  -- and where it stood somewhere, every next call gives 17
  pub next : standing b p ≢ 0 → (c : Command) → (step (turn b (Request p o m)).board c).answer ≡ OutOfShape

abbrev pub RequestKept : Type 0
RequestKept = (b : Board) (p o m : ℕ) → Sized b → in_shape b ≡ true → (turn b (Request p o m)).answer ≡ Done → RequestSaid b p o m

-- such a board: process 0 stands in the line of object 0, and its home notes no wait
abbrev pub stands_unnoted : Board
stands_unnoted = put_object (empty_board 1 1 1 (replicate 16 0) (replicate 16 0)) 0 (record { shared = 0; exclusive = 0; line = replicate 16 0; line_exclusive = 0; line_count = 1 })

pub record TwiceHappens : Type 0 where
  pub in_shape : in_shape stands_unnoted ≡ true
  pub accepted : (turn stands_unnoted (Request 0 0 0)).answer ≡ Done
  pub next : (step (turn stands_unnoted (Request 0 0 0)).board (Deliver 0)).answer ≡ OutOfShape
