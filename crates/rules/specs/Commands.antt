-- The commands: what a message does when it arrives, what a command does, and which tests refuse it, in the paper's order.
use Rattle.std.specs.Prelude.{ℕ, zero, suc, Bool, true, false, not, ◌&&◌, List, [], ◌∷◌, eqb, ltb, leb, get_or, replicate}
use Rattle.rules.specs.declared.Mode.{Mode}
use Rattle.rules.specs.declared.Mode.TheVariants.{Shared, Exclusive}
use Rattle.rules.specs.declared.Kind.{Kind}
use Rattle.rules.specs.declared.Kind.TheVariants.{Free, Request, Grant, Release, ListToHome, ListToObject}
use Rattle.rules.specs.declared.Entries.{Entries}
use Rattle.rules.specs.declared.Board.{Board}
use Rattle.rules.specs.declared.Command.{Command}
use Rattle.rules.specs.declared.Command.TheVariants as Do
use Rattle.rules.specs.declared.Answer.{Answer}
use Rattle.rules.specs.declared.Answer.TheVariants.{Done, CountOutside, HomeOutside, NoProcess, NoObject, NoMode, ProcessWaits, HasReleased, HoldsAlready, HoldsNot, LoadTooHigh, NoMessage}
use Rattle.rules.specs.declared.Stepped.{Stepped}
use Rattle.rules.specs.declared.Drained.{Drained}
use Rattle.rules.specs.Tables.{pick, rows, all}
use Rattle.rules.specs.Bits.{lowest_taken}
use Rattle.rules.specs.Answers.{done, first_of}
use Rattle.rules.specs.Book.{release_arrives}
use Rattle.rules.specs.Home.{is_waiting, holding, asking, dropping, granted}
use Rattle.rules.specs.Lists.{plain, no_entries, no_ring, starter_of, asked_of, list_at_home, list_at_object, keeping, request_arrives}
use Rattle.rules.specs.declared.Ring.{Ring}
use Rattle.rules.specs.Board.{no_process, no_object, no_flight, process_at, object_at, kind_at, list_at, ring_at, put_process, put_object, put_ring, freed, in_flight, send, send_grants, load}

-- ---- a message arrives; its number is free already
-- a found ring goes to the starter's place
unfoldable pub recording : Board → ℕ → Ring → Board
recording b s r = pick (eqb r.count 0) b (put_ring b s (keeping (ring_at b s) r))

-- Each node acts on the message and its own book: one record is read, the rule for it decides, and that record is written if it changed.
abbrev pub arriving : Kind → Entries → Board → Board
arriving Free l b = b
arriving (Request p o m) l b = let r = request_arrives (object_at b o) p o m in send (put_object b o r.object) r.sent
arriving (Grant p o m) l b = put_process b p (granted (process_at b p) o m)
arriving (Release p o) l b = let r = release_arrives (object_at b o) p in send_grants (put_object b o r.object) o r.grants
arriving ListToHome l b = send b (list_at_home l (process_at b (asked_of l)).wait)
arriving (ListToObject o) l b = let r = list_at_object l (object_at b o) in send (recording b (starter_of l) r.ring) r.sent

-- ---- what an accepted command does
-- "Modes: 0 shared, 1 exclusive."
abbrev pub mode_of : ℕ → Mode
mode_of m = pick (eqb m 0) Shared Exclusive

-- "the home notes the wait and sends a request"
unfoldable pub requested : Board → ℕ → ℕ → Mode → Board
requested b p o m = send (put_process b p (asking (process_at b p) o m)) (plain (Request p o m))

-- "the home drops the hold, notes that the process has released, and sends a release. The object's book changes only on delivery."
unfoldable pub released : Board → ℕ → ℕ → Board
released b p o = send (put_process b p (dropping (process_at b p) o)) (plain (Release p o))

-- "the number is freed first, then the message acts"
unfoldable pub delivered : Board → ℕ → Board
delivered b n = arriving (kind_at b n) (list_at b n) (freed b n)

unfoldable pub effect : Board → Command → Board
effect b (Do.Request p o m) = requested b p o (mode_of m)
effect b (Do.Release p o) = released b p o
effect b (Do.Deliver n) = delivered b n

-- ---- refusals
-- "Request: 3, 4, 5, 6, 7, 8, 10."
abbrev pub request_tests : Board → ℕ → ℕ → ℕ → List (Bool × Answer)
request_tests b p o m = (leb b.process_count p, NoProcess)
    ∷ (leb b.object_count o, NoObject)
    ∷ (ltb 1 m, NoMode)
    ∷ (is_waiting (process_at b p).wait, ProcessWaits)
    ∷ ((process_at b p).released, HasReleased)
    ∷ (holding (process_at b p) o, HoldsAlready)
    ∷ (ltb 62 (load b), LoadTooHigh) ∷ []

-- "Release: 3, 4, 6, 9, 10."
abbrev pub release_tests : Board → ℕ → ℕ → List (Bool × Answer)
release_tests b p o = (leb b.process_count p, NoProcess)
    ∷ (leb b.object_count o, NoObject)
    ∷ (is_waiting (process_at b p).wait, ProcessWaits)
    ∷ (not (holding (process_at b p) o), HoldsNot)
    ∷ (ltb 63 (load b), LoadTooHigh) ∷ []

-- "Deliver: 11", message number above 63 or not in flight
abbrev pub deliver_tests : Board → ℕ → List (Bool × Answer)
deliver_tests b n = (not (ltb n 64 && in_flight b n), NoMessage) ∷ []

abbrev pub tests : Board → Command → List (Bool × Answer)
tests b (Do.Request p o m) = request_tests b p o m
tests b (Do.Release p o) = release_tests b p o
tests b (Do.Deliver n) = deliver_tests b n

unfoldable pub answer_to : Board → Command → Answer
answer_to b c = first_of (tests b c)

-- "0 is done. Every refusal returns its number and changes nothing."
abbrev pub answered : Answer → Board → Board → Stepped
answered a old new = record { answer = a; board = pick (done a) new old }

-- a command on a board whose shape is known
unfoldable pub turn : Board → Command → Stepped
turn b c = answered (answer_to b c) b (effect b c)

-- ---- "Drain. Given a budget, deliver the lowest-numbered message again and again until none is left or the budget is used."
-- "how many deliveries were made, which is exactly the number the rules need, or the budget if that is less"
abbrev pub one_step_more : Drained → Drained
one_step_more d = record { answer = d.answer; made = suc d.made; board = d.board }

unfoldable pub draining : ℕ → Board → Drained
draining zero b = record { answer = Done; made = 0; board = b }
draining (suc n) b = elim (ltb (lowest_taken b.occupied) 64) [
  | true ↦ one_step_more (draining n (delivered b (lowest_taken b.occupied)))
  | false ↦ record { answer = Done; made = 0; board = b }
]

-- ---- "An opening has empty books and no message."
abbrev pub empty_board : ℕ → ℕ → ℕ → List ℕ → List ℕ → Board
empty_board n p o hp ho = record {
  nodes = n;
  process_count = p;
  object_count = o;
  process_home = hp;
  object_home = ho;
  processes = replicate 16 no_process;
  objects = replicate 16 no_object;
  occupied = 0;
  flights = replicate 64 no_flight;
  lists = replicate 64 no_entries;
  rings = replicate 16 no_ring;
}

-- "that board is all zeros, which is out of shape"
abbrev pub zero_board : Board
zero_board = empty_board 0 0 0 (replicate 16 0) (replicate 16 0)

-- "Limits: 1 to 8 nodes, 1 to 16 processes, 1 to 16 objects"
abbrev pub count_fits : ℕ → ℕ → Bool
count_fits n top = ltb 0 n && leb n top

abbrev pub outside : ℕ → ℕ → Bool
outside n top = not (count_fits n top)

-- "homes past the counts are ignored"
unfoldable pub homes_of : ℕ → List ℕ → List ℕ
homes_of c hs = rows 16 (λ k. pick (ltb k c) (get_or hs k 0) 0)

-- "a home node not below the node count"
abbrev pub home_outside : ℕ → ℕ → List ℕ → Bool
home_outside n c hs = not (all c (λ k. ltb (get_or hs k 0) n))

-- "Opening: 1, 2."
abbrev pub opening_tests : ℕ → ℕ → ℕ → List ℕ → List ℕ → List (Bool × Answer)
opening_tests n p o hp ho = (outside n 8, CountOutside)
    ∷ (outside p 16, CountOutside)
    ∷ (outside o 16, CountOutside)
    ∷ (home_outside n p hp, HomeOutside)
    ∷ (home_outside n o ho, HomeOutside) ∷ []

-- counts of nodes, processes and objects, homes of processes and of objects
unfoldable pub opening : ℕ → ℕ → ℕ → List ℕ → List ℕ → Stepped
opening n p o hp ho = answered (first_of (opening_tests n p o hp ho)) zero_board (empty_board n p o (homes_of p hp) (homes_of o ho))
