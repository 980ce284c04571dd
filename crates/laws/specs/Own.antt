-- A process's "own list": the list that its own request started when it joined a line. A place of a recorded ring is filled by its
-- process's own list and by nothing else, and every list in flight is the own list of its starter, on the way from the opening.
use Rattle.std.specs.Prelude.{ℕ, ◌≡◌, ◌⊎◌, Bool, true, false}
use Rattle.rules.specs.declared.Mode.{Mode}
use Rattle.rules.specs.declared.Kind.{Kind}
use Rattle.rules.specs.declared.Kind.TheVariants.{Free, Request, Grant, Release, ListToHome, ListToObject}
use Rattle.rules.specs.declared.Message.{Message}
use Rattle.rules.specs.declared.Board.{Board}
use Rattle.rules.specs.declared.Command.{Command}
use Rattle.rules.specs.declared.Command.TheVariants as Do
use Rattle.rules.specs.declared.Answer.TheVariants.{Done}
use Rattle.rules.specs.Book.{waited_for}
use Rattle.rules.specs.Lists.{starter_of, asked_of, add_all, to_home, starter, list_at_home, list_at_object}
use Rattle.rules.specs.Board.{process_at, object_at, kind_at, list_at, ring_at}
use Rattle.rules.specs.Commands.{turn}
use Rattle.rules.specs.Shape.{step}
use Rattle.rules.specs.Waits.{Stands, Filled, Reached}
use Rattle.laws.specs.Shape.{Sized}

-- ---- one command
abbrev pub message_at : Board → ℕ → Message
message_at b n = record { kind = kind_at b n; list = list_at b n }

abbrev pub is_list_kind : Kind → Bool
is_list_kind Free = false
is_list_kind (Request p o m) = false
is_list_kind (Grant p o m) = false
is_list_kind (Release p o) = false
is_list_kind ListToHome = true
is_list_kind (ListToObject o) = true

-- command c is the delivery of message n, and is done
abbrev pub Delivers : Board → Command → ℕ → Type 0
Delivers b c n = (c ≡ Do.Deliver n) × ((step b c).answer ≡ Done)

-- s's own request is delivered: s comes to stand at the end of a line, and number k carries the list of s and those it waits for
pub record Starts (b : Board) (c : Command) (s k : ℕ) : Type 0 where
  pub number : ℕ
  pub object : ℕ
  pub mode : Mode
  pub delivers : Delivers b c number
  pub request : kind_at b number ≡ Request s object mode
  pub stands : Stands (step b c).board object (object_at b object).line_count s mode
  pub list : message_at (step b c).board k ≡ to_home (add_all (starter s) 0 (waited_for (object_at b object) s mode (object_at b object).line_count))

-- the list under number n is, after c, the one under number k: it stays, or it was delivered at a home or at an object and goes on
pub data Goes (b : Board) (c : Command) (n k : ℕ) : Type 0 where
  stays : n ≡ k → message_at (step b c).board k ≡ message_at b n → Goes b c n k
  from_home : Delivers b c n → kind_at b n ≡ ListToHome → message_at (step b c).board k ≡ list_at_home (list_at b n) (process_at b (asked_of (list_at b n))).wait → Goes b c n k
  from_object : (o : ℕ) → Delivers b c n → kind_at b n ≡ ListToObject o → message_at (step b c).board k ≡ (list_at_object (list_at b n) (object_at b o)).sent → Goes b c n k

-- a list under number n is delivered at an object, and the ring that it finds there is put at the place of s, which was empty
pub record Records (b : Board) (c : Command) (s n : ℕ) : Type 0 where
  pub object : ℕ
  pub delivers : Delivers b c n
  pub to_an_object : kind_at b n ≡ ListToObject object
  pub empty : (ring_at b s).count ≡ 0
  pub ring : ring_at (step b c).board s ≡ (list_at_object (list_at b n) (object_at b object)).ring
  pub filled : Filled (step b c).board s

-- ---- the way from the opening
-- the list under number n is the own list of s: its request started it, and it went on from there
pub data OwnList (s : ℕ) : Board → ℕ → Type 0 where
  starts : {b : Board} → Reached b → (c : Command) (k : ℕ) → Starts b c s k → OwnList s (step b c).board k
  goes : {b : Board} {n : ℕ} → OwnList s b n → (c : Command) (k : ℕ) → Goes b c n k → is_list_kind (kind_at (step b c).board k) ≡ true → OwnList s (step b c).board k

-- the ring at the place of s was recorded by the own list of s, and is kept since
pub data OwnRing (s : ℕ) : Board → Type 0 where
  records : {b : Board} {n : ℕ} → OwnList s b n → (c : Command) → Records b c s n → OwnRing s (step b c).board
  kept : {b : Board} → OwnRing s b → (c : Command) → ring_at (step b c).board s ≡ ring_at b s → OwnRing s (step b c).board

-- ---- statements
-- of one command on any board; for the lists its arrays have their lengths
pub record OwnStep : Type 0 where
  -- place s is written by a list that s started, where it arrives at an object, and by nothing else
  pub place : (b : Board) (c : Command) (s : ℕ) → (ring_at (step b c).board s ≡ ring_at b s) ⊎ ((n : ℕ) × (starter_of (list_at b n) ≡ s) × Records b c s n)
  -- also inside `run`, which asks the shape once and then takes turns
  pub turn : (b : Board) (c : Command) (s : ℕ) → (ring_at (turn b c).board s ≡ ring_at b s)
      ⊎ ((n : ℕ) × (o : ℕ) × (c ≡ Do.Deliver n) × (kind_at b n ≡ ListToObject o) × (starter_of (list_at b n) ≡ s))
  -- a list was in flight before, with the same starter, or its starter's own request joined a line
  pub list : (b : Board) (c : Command) → Sized b → (k : ℕ) → is_list_kind (kind_at (step b c).board k) ≡ true
      → ((n : ℕ) × (is_list_kind (kind_at b n) ≡ true) × (starter_of (list_at b n) ≡ starter_of (list_at (step b c).board k)) × Goes b c n k)
      ⊎ Starts b c (starter_of (list_at (step b c).board k)) k

-- of every board that commands reach
pub record OwnReached : Type 0 where
  pub list : (b : Board) → Reached b → (n : ℕ) → is_list_kind (kind_at b n) ≡ true → OwnList (starter_of (list_at b n)) b n
  pub place : (b : Board) → Reached b → (s : ℕ) → Filled b s → OwnRing s b
