-- "Each node acts on the message and its own book": where a message goes, what it sends there and which ring it finds; that a delivery
-- does this and no more; that two boards which agree on the message and on the books of that node make the same of it; the same of a
-- request and a release, which the home of their process takes; and that there is room for all that is sent. The recorded rings are the
-- bench's own record, and which numbers the messages take and how high the load is are the bench's matter.
use Rattle.std.specs.Prelude.{ℕ, ◌<◌, ◌≡◌, ◌≢◌, Bool, true, false, List, [], ◌∷◌, map, ltb, get_or}
use Rattle.rules.specs.declared.Mode.{Mode}
use Rattle.rules.specs.declared.Kind.{Kind}
use Rattle.rules.specs.declared.Kind.TheVariants.{Free, Request, Grant, Release, ListToHome, ListToObject}
use Rattle.rules.specs.declared.Entries.{Entries}
use Rattle.rules.specs.declared.Message.{Message}
use Rattle.rules.specs.declared.Ring.{Ring}
use Rattle.rules.specs.declared.Process.{Process}
use Rattle.rules.specs.declared.Object.{Object}
use Rattle.rules.specs.declared.Board.{Board}
use Rattle.rules.specs.Bits.{lowest_free}
use Rattle.rules.specs.Book.{release_arrives}
use Rattle.rules.specs.Home.{asking, dropping}
use Rattle.rules.specs.Lists.{plain, nothing, no_ring, starter_of, asked_of, list_at_home, list_at_object, request_arrives}
use Rattle.rules.specs.Board.{with, process_at, object_at, kind_at, list_at, put_process, put_message, freed, in_flight, send, load}
use Rattle.rules.specs.declared.Command.{Command}
use Rattle.rules.specs.declared.Command.TheVariants as Do
use Rattle.rules.specs.declared.Answer.TheVariants.{Done}
use Rattle.rules.specs.Commands.{recording, delivered, mode_of, turn}
use Rattle.rules.specs.Shape.{in_shape}
use Rattle.laws.specs.Shape.{Sized}

-- ---- the table of homes, which every node knows
abbrev pub home_of_process : Board → ℕ → ℕ
home_of_process b p = get_or b.process_home p 0

abbrev pub home_of_object : Board → ℕ → ℕ
home_of_object b o = get_or b.object_home o 0

-- the node that a message goes to; an unused number goes nowhere, and node 0 stands for that
abbrev pub goes_to : Kind → Entries → Board → ℕ
goes_to Free l b = 0
goes_to (Request p o m) l b = home_of_object b o
goes_to (Grant p o m) l b = home_of_process b p
goes_to (Release p o) l b = home_of_object b o
goes_to ListToHome l b = home_of_process b (asked_of l)
goes_to (ListToObject o) l b = home_of_object b o

-- ---- what arrives, sends: the messages in order; a message of kind Free among them is none
abbrev pub sends : Kind → Entries → Board → List Message
sends Free l b = []
sends (Request p o m) l b = (request_arrives (object_at b o) p o m).sent ∷ []
sends (Grant p o m) l b = []
sends (Release p o) l b = map (λ g. plain (Grant g.0 o g.1)) (release_arrives (object_at b o) p).grants
sends ListToHome l b = list_at_home l (process_at b (asked_of l)).wait ∷ []
sends (ListToObject o) l b = (list_at_object l (object_at b o)).sent ∷ []

-- the ring that it finds, or none
abbrev pub finds : Kind → Entries → Board → Ring
finds Free l b = no_ring
finds (Request p o m) l b = no_ring
finds (Grant p o m) l b = no_ring
finds (Release p o) l b = no_ring
finds ListToHome l b = no_ring
finds (ListToObject o) l b = (list_at_object l (object_at b o)).ring

-- ---- message n
abbrev pub destination : Board → ℕ → ℕ
destination b n = goes_to (kind_at b n) (list_at b n) b

abbrev pub sent : Board → ℕ → List Message
sent b n = sends (kind_at b n) (list_at b n) b

abbrev pub found : Board → ℕ → Ring
found b n = finds (kind_at b n) (list_at b n) b

-- each takes "the lowest free number" in turn
abbrev pub send_all : Board → List Message → Board
send_all b [] = b
send_all b (m ∷ ms) = send_all (send b m) ms

-- each finds a number below 64
abbrev pub Room : Board → List Message → Type 0
Room b [] = Unit {0}
Room b (m ∷ ms) = (lowest_free b.occupied < 64) × Room (send b m) ms

abbrev pub with_books : Board → List Process → List Object → Board
with_books b ps os = with b ps os b.occupied b.flights b.lists b.rings

-- the number freed, the books as the delivery leaves them, the found ring kept; nothing sent yet
abbrev pub acted : Board → ℕ → Board
acted b n = recording (with_books (freed b n) (delivered b n).processes (delivered b n).objects) (starter_of (list_at b n)) (found b n)

-- ---- agreement
-- two boards have the same counts and the same table of homes
pub record SameTable (b c : Board) : Type 0 where
  pub nodes : b.nodes ≡ c.nodes
  pub count_of_processes : b.process_count ≡ c.process_count
  pub count_of_objects : b.object_count ≡ c.object_count
  pub home_of_process : b.process_home ≡ c.process_home
  pub home_of_object : b.object_home ≡ c.object_home

-- and the same books at node v
pub record SameBooks (b c : Board) (v : ℕ) : Type 0 where
  pub processes : (p : ℕ) → home_of_process b p ≡ v → process_at b p ≡ process_at c p
  pub objects : (o : ℕ) → home_of_object b o ≡ v → object_at b o ≡ object_at c o

-- every book at another node is the same before and after
pub record Elsewhere (b c : Board) (v : ℕ) : Type 0 where
  pub processes : (p : ℕ) → home_of_process b p ≢ v → process_at c p ≡ process_at b p
  pub objects : (o : ℕ) → home_of_object b o ≢ v → object_at c o ≡ object_at b o

pub record SameMessage (b c : Board) (n : ℕ) : Type 0 where
  pub kind : kind_at b n ≡ kind_at c n
  pub list : list_at b n ≡ list_at c n

-- what two deliveries have in common
pub record SameDelivery (b c : Board) (n : ℕ) : Type 0 where
  pub to : destination b n ≡ destination c n
  pub books : SameBooks (delivered b n) (delivered c n) (destination b n)
  pub messages : sent b n ≡ sent c n
  pub ring : found b n ≡ found c n

-- ---- statements
pub record DeliveryLocal : Type 0 where
  -- all that a delivery does: books of its destination, the found ring kept, the messages sent
  pub all : (b : Board) (n : ℕ) → delivered b n ≡ send_all (acted b n) (sent b n)
  pub table : (b : Board) (n : ℕ) → SameTable b (delivered b n)
  pub elsewhere : (b : Board) (n : ℕ) → Elsewhere b (delivered b n) (destination b n)
  -- and it is decided by the message, the table of homes and the books at the destination
  pub same : (b c : Board) (n : ℕ) → Sized b → Sized c → SameTable b c → SameMessage b c n → SameBooks b c (destination b n) → SameDelivery b c n

-- ---- a request and a release: "the home notes the wait and sends a request", "the home drops the hold .. and sends a release"
-- command x is one of process p
pub data CommandOf (p : ℕ) : Command → Type 0 where
  request : (o m : ℕ) → CommandOf p (Do.Request p o m)
  release : (o : ℕ) → CommandOf p (Do.Release p o)

-- what it makes of the book of its process, and the message that it sends
abbrev pub noted : Command → Process → Process
noted (Do.Request p o m) x = asking x o (mode_of m)
noted (Do.Release p o) x = dropping x o
noted (Do.Deliver n) x = x

abbrev pub sent_by : Command → Message
sent_by (Do.Request p o m) = plain (Request p o (mode_of m))
sent_by (Do.Release p o) = plain (Release p o)
sent_by (Do.Deliver n) = nothing

-- the bench has too high a load for it
abbrev pub overloaded : Command → Board → Bool
overloaded (Do.Request p o m) b = ltb 62 (load b)
overloaded (Do.Release p o) b = ltb 63 (load b)
overloaded (Do.Deliver n) b = false

-- the book of p aside, all books are as before, and so are the recorded rings
pub record OnlyBook (b c : Board) (p : ℕ) : Type 0 where
  pub processes : (q : ℕ) → q ≢ p → process_at c q ≡ process_at b q
  pub objects : c.objects ≡ b.objects
  pub rings : c.rings ≡ b.rings

-- two boards have as many processes and as many objects
pub record SameCounts (b c : Board) : Type 0 where
  pub count_of_processes : b.process_count ≡ c.process_count
  pub count_of_objects : b.object_count ≡ c.object_count

-- what two boards make of a command has in common
pub record SameCommand (b c : Board) (x : Command) (p : ℕ) : Type 0 where
  pub answer : (turn b x).answer ≡ (turn c x).answer
  pub book : process_at (turn b x).board p ≡ process_at (turn c x).board p

pub record CommandLocal : Type 0 where
  -- all that it does, where it is accepted: one book written, and one message sent, under the lowest free number
  pub all : (b : Board) (p : ℕ) (x : Command) → CommandOf p x → Sized b → in_shape b ≡ true → (turn b x).answer ≡ Done
      → (turn b x).board ≡ put_message (put_process b p (noted x (process_at b p))) (lowest_free b.occupied) (sent_by x)
  -- on any board, accepted or not
  pub table : (b : Board) (p : ℕ) (x : Command) → CommandOf p x → SameTable b (turn b x).board
  pub only : (b : Board) (p : ℕ) (x : Command) → CommandOf p x → OnlyBook b (turn b x).board p
  pub elsewhere : (b : Board) (p : ℕ) (x : Command) → CommandOf p x → Elsewhere b (turn b x).board (home_of_process b p)
  -- and it is decided by the command, how many processes and objects there are, the book of its process and whether the load is too high
  pub same : (b c : Board) (p : ℕ) (x : Command) → CommandOf p x → Sized b → Sized c → SameCounts b c → process_at b p ≡ process_at c p → overloaded x b ≡ overloaded x c → SameCommand b c x p

-- ---- room
-- "A delivery is never short of room." Nor is an accepted request or release, nor the line of an object at which a request arrives.
pub record RoomEnough : Type 0 where
  pub delivery : (b : Board) (n : ℕ) → Sized b → in_shape b ≡ true → n < 64 → in_flight b n ≡ true → Room (acted b n) (sent b n)
  pub request : (b : Board) (p o m : ℕ) → Sized b → in_shape b ≡ true → (turn b (Do.Request p o m)).answer ≡ Done → lowest_free b.occupied < 64
  pub release : (b : Board) (p o : ℕ) → Sized b → in_shape b ≡ true → (turn b (Do.Release p o)).answer ≡ Done → lowest_free b.occupied < 64
  pub line : (b : Board) (n p o : ℕ) (m : Mode) → Sized b → in_shape b ≡ true → n < 64 → kind_at b n ≡ Request p o m → (object_at b o).line_count < 16
