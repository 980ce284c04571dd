-- Waits and rings, over the books of a board; the boards that commands reach. The promises speak of these.
use Rattle.std.specs.Prelude.{◌≡◌, ◌⊎◌, ◌≢◌, true, List, [], ◌∷◌, ℕ, suc, ◌≤◌, ◌<◌, get_or}
use Rattle.std.proofs.Math.Option.{some}
use Rattle.rules.specs.declared.Mode.{Mode}
use Rattle.rules.specs.declared.Board.{Board}
use Rattle.rules.specs.declared.Command.{Command}
use Rattle.rules.specs.declared.Command.TheVariants as Do
use Rattle.rules.specs.declared.Answer.TheVariants.{Done}
use Rattle.rules.specs.Tables.{rows}
use Rattle.rules.specs.Book.{conflict, holder_at, who_at, mode_at}
use Rattle.rules.specs.Home.{hold_at}
use Rattle.rules.specs.Board.{process_at, object_at, ring_at, in_flight}
use Rattle.rules.specs.Commands.{opening}
use Rattle.rules.specs.Shape.{step}

-- ---- waits
-- the home of object o has process q as a holder in mode m
abbrev pub Holder : Board → ℕ → ℕ → Mode → Type 0
Holder b o q m = holder_at (object_at b o) q ≡ some m

-- the home of process p has it holding object o in mode m
abbrev pub Holds : Board → ℕ → ℕ → Mode → Type 0
Holds b p o m = hold_at (process_at b p) o ≡ some m

-- p stands at place k of the line of object o, in mode m
pub record Stands (b : Board) (o k p : ℕ) (m : Mode) : Type 0 where
  pub inside : k < (object_at b o).line_count
  pub who : who_at (object_at b o) k ≡ p
  pub mode : mode_at (object_at b o) k ≡ m

-- "A process in a line waits for each other process that holds the object in conflict with it, and for each process ahead of it
-- in that line whose mode conflicts. Only lines count, not requests still travelling."
pub data Waits (b : Board) (p q : ℕ) : Type 0 where
  holder : (o k : ℕ) (m n : Mode) → p ≢ q → Stands b o k p m → Holder b o q n → conflict m n ≡ true → Waits b p q
  ahead : (o k j : ℕ) (m n : Mode) → p ≢ q → Stands b o k p m → j < k → Stands b o j q n → conflict m n ≡ true → Waits b p q

-- ---- rings
abbrev pub Among : ℕ → List ℕ → Type 0
Among p [] = ⊥
Among p (x ∷ l) = (x ≡ p) ⊎ Among p l

abbrev pub Different : List ℕ → Type 0
Different [] = Unit {0}
Different (x ∷ l) = (Among x l → ⊥) × Different l

-- x waits for the first of l, each of l for the next, and the last for z
abbrev pub Chain : Board → ℕ → List ℕ → ℕ → Type 0
Chain b x [] z = Waits b x z
Chain b x (y ∷ l) z = Waits b x y × Chain b y l z

-- "A ring is two or more different processes, each waiting for the next, the last for the first."
abbrev pub IsRing : Board → List ℕ → Type 0
IsRing b [] = ⊥
IsRing b (x ∷ []) = ⊥
IsRing b (x ∷ y ∷ l) = Different (x ∷ y ∷ l) × Chain b x (y ∷ l) x

-- the ring recorded for a starter; its place is filled
abbrev pub recorded : Board → ℕ → List ℕ
recorded b s = rows (ring_at b s).count (λ k. get_or (ring_at b s).processes k 0)

abbrev pub Filled : Board → ℕ → Type 0
Filled b s = 0 < (ring_at b s).count

-- ---- messages
-- message number n is in flight
abbrev pub Present : Board → ℕ → Type 0
Present b n = (n < 64) × (in_flight b n ≡ true)

abbrev pub Quiet : Board → Type 0
Quiet b = (n : ℕ) → Present b n → ⊥

-- ---- what commands reach
-- any board reached from an opening by any commands, refused ones included
pub data Reached : Board → Type 0 where
  opens : (n p o : ℕ) (hp ho : List ℕ) → (opening n p o hp ho).answer ≡ Done → Reached (opening n p o hp ho).board
  does : {b : Board} → Reached b → (c : Command) → Reached (step b c).board

-- every later board: those that commands reach from b
pub data Later (b : Board) : Board → Type 0 where
  now : Later b b
  does : {c : Board} → Later b c → (x : Command) → Later b (step c x).board

-- message number n is the lowest in flight
abbrev pub Lowest : Board → ℕ → Type 0
Lowest b n = Present b n × ((i : ℕ) → Present b i → n ≤ i)

-- n deliveries, none refused, each of a number that the rule of choice allows, lead from b to c
pub data DeliveriesBy (rule : Board → ℕ → Type 0) : ℕ → Board → Board → Type 0 where
  stay : {b : Board} → DeliveriesBy rule 0 b b
  more : {n : ℕ} {b c : Board} → (i : ℕ) → rule b i → (step b (Do.Deliver i)).answer ≡ Done → DeliveriesBy rule n (step b (Do.Deliver i)).board c → DeliveriesBy rule (suc n) b c

-- "Any order of delivery is allowed."
abbrev pub Deliveries : ℕ → Board → Board → Type 0
Deliveries n b c = DeliveriesBy (λ _ _. Unit {0}) n b c

-- "deliver the lowest-numbered message again and again"
abbrev pub LowestFirst : ℕ → Board → Board → Type 0
LowestFirst n b c = DeliveriesBy Lowest n b c
