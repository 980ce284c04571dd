-- "A board is in shape when .." as a test, clause by clause; and the calls on a board, which ask it first.
use Rattle.std.specs.Prelude.{ℕ, ◌+◌, ◌/◌, ◌^◌, Bool, true, false, not, ◌&&◌, List, eqb, ltb, leb, get_or}
use Rattle.rules.specs.declared.Wait.{Wait}
use Rattle.rules.specs.declared.Wait.TheVariants.{NotWaiting, Waiting}
use Rattle.rules.specs.declared.Kind.{Kind}
use Rattle.rules.specs.declared.Kind.TheVariants.{Free, Request, Grant, Release, ListToHome, ListToObject}
use Rattle.rules.specs.declared.Entries.{Entries}
use Rattle.rules.specs.declared.Process.{Process}
use Rattle.rules.specs.declared.Object.{Object}
use Rattle.rules.specs.declared.Ring.{Ring}
use Rattle.rules.specs.declared.Board.{Board}
use Rattle.rules.specs.declared.Command.{Command}
use Rattle.rules.specs.declared.Answer.TheVariants.{OutOfShape}
use Rattle.rules.specs.declared.Stepped.{Stepped}
use Rattle.rules.specs.declared.Drained.{Drained}
use Rattle.rules.specs.Tables.{pick, either, place_of, all, sum, count_of}
use Rattle.rules.specs.Bits.{taken}
use Rattle.rules.specs.Book.{who_at}
use Rattle.rules.specs.Lists.{lead_at}
use Rattle.rules.specs.Board.{process_at, object_at, kind_at, list_at, ring_at, in_flight, is_message, load}
use Rattle.rules.specs.Commands.{turn, draining}
pub use Rattle.rules.specs.Commands.{count_fits}

abbrev pub implies : Bool → Bool → Bool
implies a b = pick a b true

-- ---- small parts
-- every number of the set is below c
abbrev pub set_fits : ℕ → ℕ → Bool
set_fits n c = eqb (n / 2 ^ c) 0

-- one mode for each hold: two sets of numbers below c that have none in common
unfoldable pub holds_fit : ℕ → ℕ → ℕ → Bool
holds_fit s x c = set_fits s c && (set_fits x c && all 16 (λ q. not (taken s q && taken x q)))

-- the first n places hold numbers below c, and the rest zero
unfoldable pub row_fits : List ℕ → ℕ → ℕ → Bool
row_fits l n c = all 16 (λ k. pick (ltb k n) (ltb (get_or l k 0) c) (eqb (get_or l k 0) 0))

-- the first n places hold different numbers
unfoldable pub different : List ℕ → ℕ → Bool
different l n = all n (λ k. eqb (place_of n (λ j. get_or l j 0) (get_or l k 0)) k)

-- ---- "counts, homes .. are in range"
unfoldable pub counts_fit : Board → Bool
counts_fit b = count_fits b.nodes 8 && (count_fits b.process_count 16 && (count_fits b.object_count 16
    && (row_fits b.process_home b.process_count b.nodes && row_fits b.object_home b.object_count b.nodes)))

-- the count for a record below it; zero past it, where "unused places hold zero"
abbrev pub up_to : ℕ → ℕ → ℕ → ℕ
up_to k c n = pick (ltb k c) n 0

abbrev pub wait_fits : Wait → ℕ → Bool
wait_fits NotWaiting oc = true
wait_fits (Waiting o m) oc = ltb o oc

-- the book of a process; oc is zero where there is no such process
unfoldable pub process_fits : Process → ℕ → Bool
process_fits p oc = holds_fit p.shared p.exclusive oc && (wait_fits p.wait oc && implies p.released (ltb 0 oc))

-- the book of an object; pc is zero where there is no such object
unfoldable pub object_fits : Object → ℕ → Bool
object_fits o pc = holds_fit o.shared o.exclusive pc
    && (leb o.line_count 16 && (row_fits o.line o.line_count pc && set_fits o.line_exclusive o.line_count))

-- "each list has 2 to 16 different entries, each later entry led by an earlier one, and its next entry lies after the first and inside it"
abbrev pub lead_fits : Entries → ℕ → Bool
lead_fits l k = pick (ltb 0 k && ltb k l.count) (ltb (lead_at l k) k) (eqb (lead_at l k) 0)

unfoldable pub list_fits : Entries → ℕ → Bool
list_fits l pc = ltb 1 l.count && (leb l.count 16 && (ltb 0 l.next && (ltb l.next l.count
    && (row_fits l.who l.count pc && (all 16 (lead_fits l) && different l.who l.count)))))

-- "unused places hold zero": no list
unfoldable pub no_list : Entries → Bool
no_list l = eqb l.count 0 && (eqb l.next 0 && (row_fits l.who 0 0 && row_fits l.leads 0 0))

abbrev pub kind_fits : Kind → Entries → ℕ → ℕ → Bool
kind_fits Free l pc oc = no_list l
kind_fits (Request p o m) l pc oc = ltb p pc && (ltb o oc && no_list l)
kind_fits (Grant p o m) l pc oc = ltb p pc && (ltb o oc && no_list l)
kind_fits (Release p o) l pc oc = ltb p pc && (ltb o oc && no_list l)
kind_fits ListToHome l pc oc = list_fits l pc
kind_fits (ListToObject o) l pc oc = ltb o oc && list_fits l pc

abbrev pub same : Bool → Bool → Bool
same a b = pick a b (not b)

unfoldable pub message_fits : Board → ℕ → Bool
message_fits b n = same (in_flight b n) (is_message (kind_at b n)) && kind_fits (kind_at b n) (list_at b n) b.process_count b.object_count

-- "each recorded ring has 2 to 16 different processes, its starter first"; an empty place holds zero
unfoldable pub ring_fits : Ring → ℕ → ℕ → Bool
ring_fits r s pc = row_fits r.processes r.count pc && either (eqb r.count 0)
    (ltb 1 r.count && (leb r.count 16 && (eqb (get_or r.processes 0 0) s && different r.processes r.count)))

-- ---- "no process stands twice over all lines and request messages taken together"
abbrev pub request_of : ℕ → Kind → Bool
request_of p Free = false
request_of p (Request q o m) = eqb q p
request_of p (Grant q o m) = false
request_of p (Release q o) = false
request_of p ListToHome = false
request_of p (ListToObject o) = false

unfoldable pub standing : Board → ℕ → ℕ
standing b p = count_of 64 (λ n. request_of p (kind_at b n)) + sum 16 (λ o. count_of (object_at b o).line_count (λ k. eqb (who_at (object_at b o) k) p))

-- ---- the whole of it
unfoldable pub in_shape : Board → Bool
in_shape b = counts_fit b
    && (all 16 (λ p. process_fits (process_at b p) (up_to p b.process_count b.object_count))
    && (all 16 (λ o. object_fits (object_at b o) (up_to o b.object_count b.process_count))
    && (all 64 (message_fits b)
    && (all 16 (λ s. ring_fits (ring_at b s) s b.process_count)
    && (all 16 (λ p. leb (standing b p) 1)
    && leb (load b) 64)))))

-- ---- "Every call on a board: 17 first."
unfoldable pub step : Board → Command → Stepped
step b c = pick (in_shape b) (turn b c) (record { answer = OutOfShape; board = b })

-- "Drain refuses with 17 only"; "with a refusal it is 0"
unfoldable pub drain : Board → ℕ → Drained
drain b n = pick (in_shape b) (draining n b) (record { answer = OutOfShape; made = 0; board = b })
