-- "A board is in shape when ..": the same sentence as a record of named facts, which proofs can use, beside the test `in_shape`, which
-- a computer can run. The two agree on every board whose arrays have the lengths that their types say.
use Rattle.std.specs.Prelude.{ℕ, ◌+◌, ◌^◌, ◌≤◌, ◌<◌, ◌≡◌, ◌≢◌, true, false, List, length, get_or}
use Rattle.rules.specs.declared.Wait.{Wait}
use Rattle.rules.specs.declared.Wait.TheVariants.{NotWaiting, Waiting}
use Rattle.rules.specs.declared.Kind.{Kind}
use Rattle.rules.specs.declared.Kind.TheVariants.{Free, Request, Grant, Release, ListToHome, ListToObject}
use Rattle.rules.specs.declared.Entries.{Entries}
use Rattle.rules.specs.declared.Process.{Process}
use Rattle.rules.specs.declared.Object.{Object}
use Rattle.rules.specs.declared.Ring.{Ring}
use Rattle.rules.specs.declared.Board.{Board}
use Rattle.rules.specs.declared.Answer.TheVariants.{Done}
use Rattle.rules.specs.Bits.{taken}
use Rattle.rules.specs.Lists.{entry_at, lead_at}
use Rattle.rules.specs.Tables.{sum}
use Rattle.rules.specs.Board.{process_at, object_at, kind_at, list_at, ring_at, in_flight, is_message, load, tally, rings_of_length}
use Rattle.rules.specs.declared.Command.{Command}
use Rattle.rules.specs.Commands.{opening, zero_board, turn}
use Rattle.rules.specs.Shape.{up_to, standing, in_shape}
use Rattle.rules.specs.Sheet.{run_opening, run_sheet}
use Rattle.rules.specs.Ranges.{Ranged}

-- ---- lengths, as the types have them
pub record Sized (b : Board) : Type 0 where
  pub home_of_process : length b.process_home ≡ 16
  pub home_of_object : length b.object_home ≡ 16
  pub processes : length b.processes ≡ 16
  pub objects : length b.objects ≡ 16
  pub flights : length b.flights ≡ 64
  pub lists : length b.lists ≡ 64
  pub rings : length b.rings ≡ 16
  pub line : (o : ℕ) → length (object_at b o).line ≡ 16
  pub who : (n : ℕ) → length (list_at b n).who ≡ 16
  pub leads : (n : ℕ) → length (list_at b n).leads ≡ 16
  pub ring : (s : ℕ) → length (ring_at b s).processes ≡ 16

-- ---- small parts
abbrev pub Within : ℕ → ℕ → Type 0
Within n top = (0 < n) × (n ≤ top)

-- the first n places hold numbers below c, and the rest zero
pub record Row (l : List ℕ) (n c : ℕ) : Type 0 where
  pub used : (k : ℕ) → k < n → get_or l k 0 < c
  pub rest : (k : ℕ) → n ≤ k → get_or l k 0 ≡ 0

-- the first n places hold different numbers
abbrev pub Differ : List ℕ → ℕ → Type 0
Differ l n = (j k : ℕ) → j < n → k < n → get_or l j 0 ≡ get_or l k 0 → j ≡ k

-- one mode for each hold: two sets of numbers below c that have none in common
pub record HoldsShaped (s x c : ℕ) : Type 0 where
  pub shared : s < 2 ^ c
  pub exclusive : x < 2 ^ c
  pub once : (k : ℕ) → taken s k ≡ true → taken x k ≡ true → ⊥

-- ---- books; the limit c is zero past the counts, where "unused places hold zero"
abbrev pub WaitBelow : Wait → ℕ → Type 0
WaitBelow NotWaiting c = Unit {0}
WaitBelow (Waiting o m) c = o < c

pub record ProcessShaped (x : Process) (c : ℕ) : Type 0 where
  pub holds : HoldsShaped x.shared x.exclusive c
  pub wait : WaitBelow x.wait c
  pub released : x.released ≡ true → 0 < c

pub record ObjectShaped (x : Object) (c : ℕ) : Type 0 where
  pub holders : HoldsShaped x.shared x.exclusive c
  pub count : x.line_count ≤ 16
  pub line : Row x.line x.line_count c
  pub modes : x.line_exclusive < 2 ^ x.line_count

-- ---- messages
-- "each list has 2 to 16 different entries, each later entry led by an earlier one, and its next entry lies after the first and inside it"
pub record ListShaped (l : Entries) (c : ℕ) : Type 0 where
  pub two : 1 < l.count
  pub most : l.count ≤ 16
  pub later : 0 < l.next
  pub inside : l.next < l.count
  pub who : Row l.who l.count c
  pub starter_lead : lead_at l 0 ≡ 0
  pub leads : (k : ℕ) → 0 < k → k < l.count → lead_at l k < k
  pub rest_leads : (k : ℕ) → l.count ≤ k → lead_at l k ≡ 0
  pub different : Differ l.who l.count

pub record NoList (l : Entries) : Type 0 where
  pub count : l.count ≡ 0
  pub next : l.next ≡ 0
  pub who : (k : ℕ) → entry_at l k ≡ 0
  pub leads : (k : ℕ) → lead_at l k ≡ 0

abbrev pub KindShaped : Kind → Entries → ℕ → ℕ → Type 0
KindShaped Free l pc oc = NoList l
KindShaped (Request p o m) l pc oc = (p < pc) × (o < oc) × NoList l
KindShaped (Grant p o m) l pc oc = (p < pc) × (o < oc) × NoList l
KindShaped (Release p o) l pc oc = (p < pc) × (o < oc) × NoList l
KindShaped ListToHome l pc oc = ListShaped l pc
KindShaped (ListToObject o) l pc oc = (o < oc) × ListShaped l pc

-- ---- rings: "each recorded ring has 2 to 16 different processes, its starter first"
pub record RingFilled (r : Ring) (s : ℕ) : Type 0 where
  pub two : 1 < r.count
  pub starter : get_or r.processes 0 0 ≡ s
  pub different : Differ r.processes r.count

pub record RingShaped (r : Ring) (s pc : ℕ) : Type 0 where
  pub processes : Row r.processes r.count pc
  pub most : r.count ≤ 16
  pub filled : 0 < r.count → RingFilled r s

-- ---- counts and homes
pub record TableShaped (n pc oc : ℕ) (hp ho : List ℕ) : Type 0 where
  pub nodes : Within n 8
  pub count_of_processes : Within pc 16
  pub count_of_objects : Within oc 16
  pub home_of_process : Row hp pc n
  pub home_of_object : Row ho oc n

-- ---- every record by itself
pub record RecordsShaped (b : Board) : Type 0 where
  pub table : TableShaped b.nodes b.process_count b.object_count b.process_home b.object_home
  pub processes : (p : ℕ) → ProcessShaped (process_at b p) (up_to p b.process_count b.object_count)
  pub objects : (o : ℕ) → ObjectShaped (object_at b o) (up_to o b.object_count b.process_count)
  pub messages : (n : ℕ) → KindShaped (kind_at b n) (list_at b n) b.process_count b.object_count
  pub flying : (n : ℕ) → n < 64 → in_flight b n ≡ is_message (kind_at b n)
  pub rings : (s : ℕ) → RingShaped (ring_at b s) s b.process_count

-- ---- the whole of it: "no process stands twice ..; and the load is at most 64"
pub record Shaped (b : Board) : Type 0 where
  pub records : RecordsShaped b
  pub standing : (p : ℕ) → p < 16 → standing b p ≤ 1
  pub load : load b ≤ 64

-- ---- statements
pub record ShapeSaid : Type 0 where
  pub shaped : (b : Board) → Sized b → in_shape b ≡ true → Shaped b
  pub tested : (b : Board) → Shaped b → in_shape b ≡ true
  pub ranged : (b : Board) → Sized b → in_shape b ≡ true → Ranged b

pub record OpeningShaped : Type 0 where
  pub in_shape : (n p o : ℕ) (hp ho : List ℕ) → (opening n p o hp ho).answer ≡ Done → in_shape (opening n p o hp ho).board ≡ true
  -- the lengths hold of a refused opening's board of zeros too
  pub sized : (n p o : ℕ) (hp ho : List ℕ) → Sized (opening n p o hp ho).board

-- "Where a refused opening or sheet hands back a board by value, that board is all zeros, which is out of shape."
pub record RefusedZeros : Type 0 where
  pub zeros : in_shape zero_board ≡ false
  pub opening : (n p o : ℕ) (hp ho : List ℕ) → (opening n p o hp ho).answer ≢ Done → (opening n p o hp ho).board ≡ zero_board
  pub sheet : (s room : List ℕ) → (run_sheet s room).ran.answer ≢ Done → (run_sheet s room).ran.board ≡ zero_board
  pub opening_run : (n p o : ℕ) (hp ho s room : List ℕ) → (run_opening n p o hp ho s room).ran.answer ≢ Done → (run_opening n p o hp ho s room).ran.board ≡ zero_board

-- the lengths are kept by every command, also by one that puts the board out of shape
abbrev pub SizesKept : Type 0
SizesKept = (b : Board) (c : Command) → Sized b → Ranged b → Sized (turn b c).board

-- where every record is in shape, each recorded ring has one of the lengths 2 to 16: rings of these lengths are all that the tally counts
abbrev pub RingLengths : Type 0
RingLengths = (b : Board) → RecordsShaped b → sum 15 (λ k. rings_of_length b.rings (2 + k)) ≡ tally b
