-- The board: its records read and written, its messages, its load and its tally.
use Rattle.std.specs.Prelude.{ℕ, ◌+◌, Bool, true, false, ◌&&◌, List, [], ◌∷◌, eqb, ltb, set, get_or, replicate}
use Rattle.rules.specs.declared.Mode.{Mode}
use Rattle.rules.specs.declared.Wait.TheVariants.{NotWaiting}
use Rattle.rules.specs.declared.Kind.{Kind}
use Rattle.rules.specs.declared.Kind.TheVariants.{Free, Request, Grant, Release, ListToHome, ListToObject}
use Rattle.rules.specs.declared.Entries.{Entries}
use Rattle.rules.specs.declared.Message.{Message}
use Rattle.rules.specs.declared.Flight.{Flight}
use Rattle.rules.specs.declared.Process.{Process}
use Rattle.rules.specs.declared.Object.{Object}
use Rattle.rules.specs.declared.Ring.{Ring}
use Rattle.rules.specs.declared.Board.{Board}
use Rattle.rules.specs.Tables.{pick, sum, count_of}
use Rattle.rules.specs.Bits.{taken, lowest_free, with_bit, without_bit}
use Rattle.rules.specs.Lists.{no_entries, plain, no_ring}

-- ---- records that hold zero
abbrev pub no_process : Process
no_process = record { shared = 0; exclusive = 0; wait = NotWaiting; released = false }

abbrev pub no_object : Object
no_object = record { shared = 0; exclusive = 0; line = replicate 16 0; line_exclusive = 0; line_count = 0 }

abbrev pub no_flight : Flight
no_flight = record { kind = Free }

-- ---- reading: numbers that name no record read a record of zeros
abbrev pub process_at : Board → ℕ → Process
process_at b p = get_or b.processes p no_process

abbrev pub object_at : Board → ℕ → Object
object_at b o = get_or b.objects o no_object

abbrev pub kind_at : Board → ℕ → Kind
kind_at b n = (get_or b.flights n no_flight).kind

abbrev pub list_at : Board → ℕ → Entries
list_at b n = get_or b.lists n no_entries

abbrev pub ring_at : Board → ℕ → Ring
ring_at b s = get_or b.rings s no_ring

-- ---- writing
abbrev pub with : Board → List Process → List Object → ℕ → List Flight → List Entries → List Ring → Board
with b ps os occ fs ls rs = record {
  nodes = b.nodes;
  process_count = b.process_count;
  object_count = b.object_count;
  process_home = b.process_home;
  object_home = b.object_home;
  processes = ps;
  objects = os;
  occupied = occ;
  flights = fs;
  lists = ls;
  rings = rs;
}

abbrev pub put_process : Board → ℕ → Process → Board
put_process b p x = with b (set b.processes p x) b.objects b.occupied b.flights b.lists b.rings

abbrev pub put_object : Board → ℕ → Object → Board
put_object b o x = with b b.processes (set b.objects o x) b.occupied b.flights b.lists b.rings

abbrev pub put_ring : Board → ℕ → Ring → Board
put_ring b s r = with b b.processes b.objects b.occupied b.flights b.lists (set b.rings s r)

abbrev pub put_message : Board → ℕ → Message → Board
put_message b n m = with b b.processes b.objects (with_bit b.occupied n) (set b.flights n (record { kind = m.kind })) (set b.lists n m.list) b.rings

-- "the number is freed first"
abbrev pub freed : Board → ℕ → Board
freed b n = with b b.processes b.objects (without_bit b.occupied n) (set b.flights n no_flight) (set b.lists n no_entries) b.rings

-- ---- messages in flight
-- message number n is in flight
abbrev pub in_flight : Board → ℕ → Bool
in_flight b n = taken b.occupied n

-- there is something to send
abbrev pub is_message : Kind → Bool
is_message Free = false
is_message (Request p o m) = true
is_message (Grant p o m) = true
is_message (Release p o) = true
is_message ListToHome = true
is_message (ListToObject o) = true

-- "A new message takes the lowest free number." Where none is free nothing is sent; a board in shape never comes to that.
unfoldable pub put_first : Board → Message → ℕ → Board
put_first b m n = pick (ltb n 64) (put_message b n m) b

unfoldable pub send : Board → Message → Board
send b m = pick (is_message m.kind) (put_first b m (lowest_free b.occupied)) b

unfoldable pub send_grants : Board → ℕ → List (ℕ × Mode) → Board
send_grants b o [] = b
send_grants b o (g ∷ gs) = send_grants (send b (plain (Grant g.0 o g.1))) o gs

-- ---- "Load is messages in flight, plus processes standing in lines, plus requests in flight (so a request counts twice)."
abbrev pub kind_load : Kind → ℕ
kind_load Free = 0
kind_load (Request p o m) = 2
kind_load (Grant p o m) = 1
kind_load (Release p o) = 1
kind_load ListToHome = 1
kind_load (ListToObject o) = 1

unfoldable pub load : Board → ℕ
load b = sum 64 (λ n. kind_load (kind_at b n)) + sum 16 (λ o. (object_at b o).line_count)

-- ---- counting recorded rings, which stand in a table by their starters
-- which of them count: those in filled places
abbrev pub counts : List Ring → ℕ → Bool
counts rings s = ltb 0 (get_or rings s no_ring).count

abbrev pub tally_of : List Ring → ℕ
tally_of rings = count_of 16 (counts rings)

-- "The ring tally is the number of filled places."
unfoldable pub tally : Board → ℕ
tally b = tally_of b.rings

-- "recorded rings by length"
unfoldable pub rings_of_length : List Ring → ℕ → ℕ
rings_of_length rings l = count_of 16 (λ s. counts rings s && eqb l (get_or rings s no_ring).count)
