-- `engine::turns` meets its contract. Each way through a turn of its loop writes the board, the answer and the load that the rules give for
-- the command; the answers follow the arms of the loop. Assumes nothing.
use mathlib.Core.Path.{◌≡◌, refl, sym, ap, ◌∙◌}
use mathlib.Core.Bool.{Bool, true}
use mathlib.Core.List.{List, []}
use Prim.Native.Nat.{ℕ, ◌+◌, ◌-◌, ◌≤◌, ◌<◌, ◌*◌, ◌/◌, ◌%◌}
use native.Mathlib.Omega.{arith}
use lib.ListN.{length, set, get_or, length-set}
use Rattle.rules.specs.declared.Board.{Board}
use Rattle.rules.specs.declared.Entries.{Entries}
use Rattle.rules.specs.Lists.{no_entries, asked_of, with_next, along_leads, ring_of, no_ring}
use Rattle.rules.proofs.Sheet.{of_bytes}
use Rattle.engine.specs.Ready.{Ready}
use Rattle.engine.proofs.Ready.{load_most}
use Rattle.engine.proofs.Sends.{Made, sent_here, read_at, one_free, freed_from, same_matched, freed_fits, freed_left, sent_none, same_line, object-fits, object_changed}
use Rattle.engine.proofs.Turn.{Turns, HomeWays, made, home_ways, makes, sent_counts, top_most, absent, present}
use Rattle.engine.proofs.Working.{Working, working_starts, working_on, all_done, none_left}
use borrow.Author.Tests.{ltb-true, ltb-false, not-true, not-false}
use Rattle.rules.specs.declared.Process.{Process}
use Rattle.rules.specs.declared.Message.{Message}
use Rattle.rules.specs.Board.{no_process, process_at, put_process, kind_load, with, no_flight, kind_at, list_at, freed, load, no_object, object_at, put_object, send, send_grants, put_ring}
use Rattle.rules.proofs.Load.{load_process, room_below, Matched, matched_freed, load_ring}
use Rattle.engine.specs.Packed.{top_load}
use Rattle.rules.specs.declared.Kind.{Kind}
use Rattle.rules.specs.declared.Kind.TheVariants.{Grant, ListToHome}
use Rattle.rules.specs.Bits.{lowest_free}
use Rattle.rules.specs.Commands.{delivered}
use Rattle.rules.specs.Ranges.{KindRanged, ListRanged, LineRanged}
use Rattle.engine.proofs.Arrivals.{grant-arrives, request_granted, request_joins, release-arrives, list-at-home, no-ring, ring_found}
use Rattle.rules.specs.declared.Object.{Object}
use Rattle.rules.specs.Book.{struck, settled, place_in}
use Rattle.objects.specs.Fronts.{front_goes, let_in}
use Rattle.engine.proofs.Granting.{one_let_in}
use Rattle.engine.proofs.Releases.{line_is, struck_line, none_granted, LetIn, first-granted}
use mathlib.Core.Bool.{not}
use Rattle.engine.proofs.turns.Given as given
use Rattle.engine.proofs.turns.Goals as goal
use Rattle.engine.proofs.turns.Goals.{After-asked_of-in-ListToObject, After-asks_next-out, After-asks_next-out-in-ListToObject, After-closes, After-hold-held, After-is_done, After-is_done-in-loop-i, After-is_welcome, After-kind_load-load-in-loop-i, After-lowest_free-to, After-lowest_free-to-in-loop-i, After-onward-onward, After-place-at_room, After-strike-struck, After-wide-in-Request, After-wide-si, After-with-in-Release, In-ListToObject, In-Release, In-Request}

-- ---- The engine's loop: its invariant, what is known at the start of a turn, and the end of a turn.

-- ---- a turn, once its command is known
abbrev Turn : given.Over → Type 0
Turn g = After-place-at_room g

abbrev drains_of : (g : given.Over) → Turn g → Bool
drains_of g e = g.S.Source.drains e.args.source

abbrev start_of : (g : given.Over) → Turn g → Board
start_of g e = e.args.start

abbrev sheet_of : (g : given.Over) → Turn g → List ℕ
sheet_of g e = g.S.Source.commands e.args.source

abbrev most_of : (g : given.Over) → Turn g → ℕ
most_of g e = e.args.most

abbrev room_of : (g : given.Over) → Turn g → List ℕ
room_of g e = e.args.room.now

abbrev board_now : (g : given.Over) → Turn g → Board
board_now g e = e.loop-i.b

abbrev load_now : (g : given.Over) → Turn g → ℕ
load_now g e = e.loop-i.load

abbrev i_now : (g : given.Over) → Turn g → ℕ
i_now g e = e.loop-i.i

abbrev hi_of : (g : given.Over) → Turn g → ℕ
hi_of g e = e.in-Some.bytes.0

abbrev lo_of : (g : given.Over) → Turn g → ℕ
lo_of g e = e.in-Some.bytes.1

-- the list of a message that is no list
abbrev none_now : (g : given.Over) → Turn g → Entries
none_now g e = e.no_entries-none.result

none-now : (g : given.Over) → (e : Turn g) → none_now g e ≡ no_entries
none-now g e = e.no_entries-none.ensures

abbrev WorkingOn : (g : given.Over) → Turn g → ℕ → Board → List ℕ → ℕ → Type 0
WorkingOn g e i b r w = Working (drains_of g e) (start_of g e) (sheet_of g e) (room_of g e) (most_of g e) i b r w

going : (g : given.Over) → (e : Turn g) → WorkingOn g e (i_now g e) (board_now g e) e.loop-i.room (load_now g e)
going g e = e.loop-i.invariant

hi_small : (g : given.Over) → (e : Turn g) → hi_of g e < 256
hi_small g e = e.in-Some.ensures.2

ready : (g : given.Over) → (e : Turn g) → Ready (board_now g e)
ready g e = (going g e).ready

loadNow-most : (g : given.Over) → (e : Turn g) → load_now g e ≤ 384
loadNow-most g e = omega (arith, (going g e).loaded, load_most (board_now g e) (ready g e).ranged)

-- ---- a turn's end

-- what the next turn starts from, after the answer a, on board x of load w
abbrev Again : (g : given.Over) → Turn g → ℕ → Board → ℕ → Type 0
Again g e a x w = WorkingOn g e (i_now g e + 1) x (set e.loop-i.room e.place-at_room.result a) w

again : (g : given.Over) → (e : Turn g) (a : ℕ) (y : Board) → Turns (board_now g e) (of_bytes (hi_of g e) (lo_of g e)) a y → (x : Board) (w : ℕ) → Made x w y → Again g e a x w
again g e a y t x w m = working_on (drains_of g e) (start_of g e) (sheet_of g e) (room_of g e) (most_of g e) (i_now g e) (board_now g e) e.loop-i.room (load_now g e) (going g e) e.loop-i-test.true e.in-Some.ensures.0
    (hi_of g e) (lo_of g e) e.place-at_room.result a e.in-Some.ensures.1 e.in-Some.ensures.2 e.in-Some.ensures.3 e.in-Some.ensures.4 e.place-at_room.ensures y t x w m

pub loop-i-init : goal.loop-i-init
loop-i-init g c = working_starts (g.S.Source.drains c.args.source) c.args.start (g.S.Source.commands c.args.source) c.args.room.now c.args.most c.args.loaded c.requires.0 c.requires.1 c.requires.2

pub returns-after-loop-i : goal.returns-after-loop-i
returns-after-loop-i g c = let v = c.loop-i in all_done (g.S.Source.drains c.args.source) c.args.start (g.S.Source.commands c.args.source) c.args.room.now c.args.most v.i v.b v.room v.load v.invariant (omega (arith, v.invariant.within, c.loop-i-test.false))

pub returns-in-None : goal.returns-in-None
returns-in-None g c = let v = c.loop-i in none_left (g.S.Source.drains c.args.source) c.args.start (g.S.Source.commands c.args.source) c.args.room.now c.args.most v.i v.b v.room v.load v.invariant c.in-None.ensures

-- ---- A turn of a request or a release: refused, or made and sent.

-- ---- the book is read, and its home has answered
abbrev Asked : given.Over → Type 0
Asked g = After-is_done g

abbrev turn_of : (g : given.Over) → Asked g → Turn g
turn_of g a = a.before.before.before.before.before.before.before

abbrev kind_of : (g : given.Over) → Asked g → ℕ
kind_of g a = hi_of g (turn_of g a) / 64

abbrev process_of : (g : given.Over) → Asked g → ℕ
process_of g a = hi_of g (turn_of g a) / 4 % 16

abbrev object_of : (g : given.Over) → Asked g → ℕ
object_of g a = hi_of g (turn_of g a) % 4 * 4 + lo_of g (turn_of g a) / 64

abbrev book_of : (g : given.Over) → Asked g → Process
book_of g a = get_or (board_now g (turn_of g a)).processes a.wide-pi.result no_process

at-home : (g : given.Over) → (a : Asked g) → kind_of g a < 3
at-home g a = ltb-true (kind_of g a) 3 (sym a.is_at_home.ensures ∙ a.if-is_at_home.true)

book-is : (g : given.Over) → (a : Asked g) → book_of g a ≡ process_at (board_now g (turn_of g a)) (process_of g a)
book-is g a = ap (λ (i : ℕ). get_or (board_now g (turn_of g a)).processes i no_process) a.wide-pi.ensures.0

abbrev made_of : (g : given.Over) → Asked g → Board
made_of g a = made (board_now g (turn_of g a)) (process_of g a) (object_of g a) (hi_of g (turn_of g a) % 64) (kind_of g a)

ways : (g : given.Over) → (a : Asked g) → HomeWays (board_now g (turn_of g a)) (of_bytes (hi_of g (turn_of g a)) (lo_of g (turn_of g a))) a.from.result a.is_done.result (top_load (kind_of g a)) (load_now g (turn_of g a)) (made_of g a)
ways g a = home_ways (board_now g (turn_of g a)) (process_of g a) (object_of g a) (hi_of g (turn_of g a) % 64) (kind_of g a) (at-home g a) (book_of g a) (book-is g a) (load_now g (turn_of g a)) (going g (turn_of g a)).loaded a.home_answer-answer.result a.home_answer-answer.ensures a.from.result a.from.ensures a.is_done.result a.is_done.ensures

-- it is refused

pub loop-i-preserved-then-not-is_done : goal.loop-i-preserved-then-not-is_done
loop-i-preserved-then-not-is_done g c =
    let a = c.before in
    let b = board_now g (turn_of g a) in
    again g (turn_of g a) a.from.result b ((ways g a).refused c.if-not-is_done.true) b (load_now g (turn_of g a)) (record { board = refl; loaded = (going g (turn_of g a)).loaded })

-- ---- made: the book is written, and the message takes a free number
abbrev Sent : given.Over → Type 0
Sent g = After-lowest_free-to g

to-small : (g : given.Over) → (d : Sent g) → d.lowest_free-to.result < 64
to-small g d = let a = d.before.before.before in
    let e = turn_of g a in
    omega (arith, d.lowest_free-to.ensures.0, room_below (board_now g e) (ready g e).matched (omega (arith, (going g e).loaded, (ways g a).fits d.if-not-is_done.false, top_most (hi_of g e / 64))))

pub bounds-b-to : goal.bounds-b-to
bounds-b-to g c = omega (arith, to-small g c.before.before)

pub bounds-b-to-then-is_at_home : goal.bounds-b-to-then-is_at_home
bounds-b-to-then-is_at_home g c = omega (arith, to-small g c.before.before)

pub with-requires : goal.with-requires
with-requires g c = omega (arith, to-small g c.before.before)

pub loop-i-preserved-then-is_at_home : goal.loop-i-preserved-then-is_at_home
loop-i-preserved-then-is_at_home g c =
    let d = c.before.before.before in
    let a = d.before.before.before in
    let b = board_now g (turn_of g a) in
    let y = put_process b a.wide-pi.result d.book_after-process.result in
    let m : Message = record { kind = c.kind_sent-out.result; list = none_now g (turn_of g a) } in
    again g (turn_of g a) a.from.result (made_of g a) ((ways g a).accepted d.if-not-is_done.false) _ _
    (sent_here y (load_now g (turn_of g a)) ((going g (turn_of g a)).loaded ∙ sym (load_process b a.wide-pi.result d.book_after-process.result)) m c.kind_load-load.result c.kind_load-load.ensures.0 (made_of g a)
    (makes b (process_of g a) (object_of g a) (hi_of g (turn_of g a) % 64) (kind_of g a) (at-home g a) (book_of g a) (book-is g a) (load_now g (turn_of g a)) (going g (turn_of g a)).loaded a.wide-pi.result d.book_after-process.result c.kind_sent-out.result (none_now g (turn_of g a)) a.wide-pi.ensures.0 d.book_after-process.ensures c.kind_sent-out.ensures (none-now g (turn_of g a)))
    (ready g (turn_of g a)).ranged.flights (ready g (turn_of g a)).matched d.lowest_free-to.result c.with.result d.lowest_free-to.ensures.0 c.with.ensures (to-small g d)
    (λ z. sent_counts (kind_of g a) (process_of g a) (object_of g a) (sym (ap kind_load c.kind_sent-out.ensures) ∙ sym c.kind_load-load.ensures.0 ∙ z)))

-- ---- A turn of a delivery: no such message, or its number is freed; and the messages that send nothing on.

abbrev TakesAsked : given.Over → Type 0
TakesAsked g = After-is_done-in-loop-i g

abbrev turn_asked : (g : given.Over) → TakesAsked g → Turn g
turn_asked g a = a.before.before.before.before.before

delivers : (g : given.Over) → (a : TakesAsked g) → 3 ≤ hi_of g (turn_asked g a) / 64
delivers g a = ltb-false (hi_of g (turn_asked g a) / 64) 3 (sym a.is_at_home.ensures ∙ a.if-is_at_home.false)

pub loop-i-preserved-then-not-is_done-2 : goal.loop-i-preserved-then-not-is_done-2
loop-i-preserved-then-not-is_done-2 g c =
    let a = c.before in
    let e = turn_asked g a in
    let b = board_now g e in
    again g e a.from-in-loop-i.result b
    (absent b (hi_of g e / 4 % 16) (hi_of g e % 4 * 4 + lo_of g e / 64) (hi_of g e % 64) (hi_of g e / 64) (omega (arith, hi_small g e)) (delivers g a) (omega arith) a.delivery_answer-answer.result a.delivery_answer-answer.ensures a.from-in-loop-i.result a.from-in-loop-i.ensures a.is_done-in-loop-i.result a.is_done-in-loop-i.ensures c.if-not-is_done-2.true)
    b (load_now g e) (record { board = refl; loaded = (going g e).loaded })

-- ---- the message is read
abbrev Read : given.Over → Type 0
Read g = After-kind_load-load-in-loop-i g

abbrev turn_read : (g : given.Over) → Read g → Turn g
turn_read g r = turn_asked g r.before.before.before.before.before

abbrev sort_read : (g : given.Over) → Read g → Kind
sort_read g r = (get_or (board_now g (turn_read g r)).flights r.wide-at.result no_flight).kind

sort-read : (g : given.Over) → (r : Read g) → kind_at (board_now g (turn_read g r)) (hi_of g (turn_read g r) % 64) ≡ sort_read g r
sort-read g r = sym (ap (λ (i : ℕ). (get_or (board_now g (turn_read g r)).flights i no_flight).kind) r.wide-at.ensures.0)

pub overflow_sub-load : goal.overflow_sub-load
overflow_sub-load g c = let e = turn_read g c in omega (arith, freed_fits (board_now g e) (hi_of g e % 64) (omega arith) (load_now g e) c.kind_load-load-in-loop-i.result (going g e).loaded (sort_read g c) (sort-read g c) c.kind_load-load-in-loop-i.ensures.0)

-- ---- its number is freed, and the lowest free number is known
abbrev Took : given.Over → Type 0
Took g = After-lowest_free-to-in-loop-i g

abbrev turn_took : (g : given.Over) → Took g → Turn g
turn_took g t = turn_read g t.before.before

abbrev before : (g : given.Over) → Took g → Board
before g t = board_now g (turn_took g t)

abbrev num_of : (g : given.Over) → Took g → ℕ
num_of g t = hi_of g (turn_took g t) % 64

abbrev to_of : (g : given.Over) → Took g → ℕ
to_of g t = t.lowest_free-to-in-loop-i.result

abbrev sort_of : (g : given.Over) → Took g → Kind
sort_of g t = sort_read g t.before.before

abbrev list_of : (g : given.Over) → Took g → Entries
list_of g t = get_or (before g t).lists t.wide-at.result (record { who = []; leads = []; count = 0; next = 0 })

abbrev none_of : (g : given.Over) → Took g → Entries
none_of g t = none_now g (turn_took g t)

none_is : (g : given.Over) → (t : Took g) → none_of g t ≡ no_entries
none_is g t = none-now g (turn_took g t)

-- the board and the load without the message
abbrev freed_now : (g : given.Over) → Took g → Board
freed_now g t = with (before g t) (before g t).processes (before g t).objects t.without.result (set (before g t).flights t.wide-at.result no_flight) (set (before g t).lists t.wide-at.result (none_of g t)) (before g t).rings

abbrev load_left : (g : given.Over) → Took g → ℕ
load_left g t = load_now g (turn_took g t) - t.kind_load-load-in-loop-i.result

kind-is : (g : given.Over) → (t : Took g) (k : Kind) → sort_of g t ≡ k → kind_at (before g t) (num_of g t) ≡ k
kind-is g t k e = sort-read g t.before.before ∙ e

list-is : (g : given.Over) → (t : Took g) → list_of g t ≡ list_at (before g t) (num_of g t)
list-is g t = read_at (before g t).lists t.wide-at.result (num_of g t) _ no_entries t.wide-at.ensures.0 (omega (arith, (ready g (turn_took g t)).ranged.lists))

kind-ranged : (g : given.Over) → (t : Took g) (k : Kind) → sort_of g t ≡ k → KindRanged k
kind-ranged g t k e = rw (kind-is g t k e) at ((ready g (turn_took g t)).ranged.kinds (num_of g t))

list-ranged : (g : given.Over) → (t : Took g) → ListRanged (list_of g t)
list-ranged g t = rw (list-is g t) ((ready g (turn_took g t)).ranged.entries (num_of g t))

freed-is : (g : given.Over) → (t : Took g) → freed_now g t ≡ freed (before g t) (num_of g t)
freed-is g t = freed_from (before g t) (num_of g t) t.wide-at.result t.without.result (none_of g t) t.wide-at.ensures.0 t.without.ensures (none_is g t)

freed-matched : (g : given.Over) → (t : Took g) → Matched (freed_now g t)
freed-matched g t = same_matched (freed_now g t) (freed (before g t) (num_of g t)) (freed-is g t) (matched_freed (before g t) (num_of g t) (ready g (turn_took g t)).matched)

freed-flights : (g : given.Over) → (t : Took g) → length (freed_now g t).flights ≡ 64
freed-flights g t = length-set (before g t).flights t.wide-at.result no_flight ∙ (ready g (turn_took g t)).ranged.flights

load-left : (g : given.Over) → (t : Took g) → load_left g t ≡ load (freed_now g t)
load-left g t = freed_left (before g t) (num_of g t) (omega arith) (load_now g (turn_took g t)) t.kind_load-load-in-loop-i.result (going g (turn_took g t)).loaded (sort_of g t) (sort-read g t.before.before) t.kind_load-load-in-loop-i.ensures.0 (freed_now g t) (freed-is g t)

left-most : (g : given.Over) → (t : Took g) → load_left g t ≤ 384
left-most g t = omega (arith, loadNow-most g (turn_took g t))

takes_to-small : (g : given.Over) → (t : Took g) → to_of g t < 64
takes_to-small g t = omega (arith, t.lowest_free-to-in-loop-i.ensures.0, ap lowest_free t.without.ensures, one_free (before g t).occupied (num_of g t) (omega arith))

-- ---- the turn's end: the board that the delivery makes, with its load
abbrev asked_took : (g : given.Over) → Took g → TakesAsked g
asked_took g t = t.before.before.before.before.before.before.before

ends : (g : given.Over) → (t : Took g) (x : Board) (w : ℕ) → Made x w (delivered (before g t) (num_of g t)) → Again g (turn_took g t) (asked_took g t).from-in-loop-i.result x w
ends g t = let a = asked_took g t in
    let e = turn_took g t in
    again g e a.from-in-loop-i.result (delivered (before g t) (num_of g t))
    (present (board_now g e) (hi_of g e / 4 % 16) (hi_of g e % 4 * 4 + lo_of g e / 64) (hi_of g e % 64) (hi_of g e / 64) (omega (arith, hi_small g e)) (delivers g a) (omega arith) a.delivery_answer-answer.result a.delivery_answer-answer.ensures a.from-in-loop-i.result a.from-in-loop-i.ensures a.is_done-in-loop-i.result a.is_done-in-loop-i.ensures t.if-not-is_done-2.false)

pub loop-i-preserved-in-Grant : goal.loop-i-preserved-in-Grant
loop-i-preserved-in-Grant g c =
    let t = c.before.before.before.before in
    ends g t (put_process (freed_now g t) c.wide-qi.result c.granted-process.result) (load_left g t)
    (record {
      board = grant-arrives (before g t) (num_of g t) (freed_now g t) (freed-is g t) c.in-Grant.q c.in-Grant.x c.in-Grant.mode (kind-is g t _ c.in-Grant.is) c.wide-qi.result (get_or (before g t).processes c.wide-qi.result no_process) c.granted-process.result c.wide-qi.ensures.0 (ap (λ (i : ℕ). get_or (before g t).processes i no_process) c.wide-qi.ensures.0) c.granted-process.ensures;
      loaded = load-left g t ∙ sym (load_process (freed_now g t) c.wide-qi.result c.granted-process.result);
    })

-- ---- A request arrives at its object: a holder more, and a grant is sent; or one more in the line, and a list may be started.

-- ---- the request is known
abbrev Came : given.Over → Type 0
Came g = In-Request g

ranged : (g : given.Over) → (j : Came g) → (j.in-Request.q < 16) × (j.in-Request.x < 16)
ranged g j = kind-ranged g j.before _ j.in-Request.is

-- ---- the object's book is read
abbrev Had : given.Over → Type 0
Had g = After-is_welcome g

abbrev took_had : (g : given.Over) → Had g → Took g
took_had g h = h.before.before.before.before

abbrev old_of : (g : given.Over) → Had g → Object
old_of g h = get_or (before g (took_had g h)).objects h.wide-xi.result (record { shared = 0; exclusive = 0; line = []; line_exclusive = 0; line_count = 0 })

index-small : (g : given.Over) → (h : Had g) → h.wide-xi.result < 16
index-small g h = omega (arith, (ranged g h.before.before.before).1, h.wide-xi.ensures.0)

old-is : (g : given.Over) → (h : Had g) → old_of g h ≡ object_at (before g (took_had g h)) h.in-Request.x
old-is g h = read_at (before g (took_had g h)).objects h.wide-xi.result h.in-Request.x _ no_object h.wide-xi.ensures.0 (omega (arith, (ready g (turn_took g (took_had g h))).ranged.objects, (ranged g h.before.before.before).1))

old-here : (g : given.Over) → (h : Had g) → old_of g h ≡ object_at (freed_now g (took_had g h)) h.wide-xi.result
old-here g h = read_at (before g (took_had g h)).objects h.wide-xi.result h.wide-xi.result _ no_object refl (omega (arith, (ready g (turn_took g (took_had g h))).ranged.objects, index-small g h))

old-ranged : (g : given.Over) → (h : Had g) → LineRanged (old_of g h)
old-ranged g h = rw (old-is g h) ((ready g (turn_took g (took_had g h))).ranged.lines h.in-Request.x)

-- ---- the process is welcome: a holder more

abbrev Held : given.Over → Type 0
Held g = After-hold-held g

abbrev took_held : (g : given.Over) → Held g → Took g
took_held g d = d.before.before.before.before.before.before

abbrev wrote_held : (g : given.Over) → Held g → Board
wrote_held g d = put_object (freed_now g (took_held g d)) d.wide-xi.result d.hold-held.result

load-held : (g : given.Over) → (d : Held g) → load_left g (took_held g d) ≡ load (wrote_held g d)
load-held g d = let t = d.before.before.before.before.before.before in
    let h = d.before.before in
    same_line (freed_now g t) h.wide-xi.result d.hold-held.result (index-small g h) (ready g (turn_took g t)).ranged.objects (load_left g t) (load-left g t) (ap (λ (o : Object). o.line_count) d.hold-held.ensures ∙ ap (λ (o : Object). o.line_count) (old-here g h))

pub bounds-b-to-then-is_welcome : goal.bounds-b-to-then-is_welcome
bounds-b-to-then-is_welcome g c = omega (arith, takes_to-small g c.before.before.before.before.before.before)

pub bounds-b-to-then-is_welcome-2 : goal.bounds-b-to-then-is_welcome-2
bounds-b-to-then-is_welcome-2 g c = omega (arith, takes_to-small g c.before.before.before.before.before.before)

pub with-requires-then-is_welcome : goal.with-requires-then-is_welcome
with-requires-then-is_welcome g c = omega (arith, takes_to-small g c.before.before.before.before.before.before)

pub loop-i-preserved-then-is_welcome : goal.loop-i-preserved-then-is_welcome
loop-i-preserved-then-is_welcome g c =
    let d = c.before in
    let t = c.before.before.before.before.before.before.before in
    let h = c.before.before.before in
    ends g t _ _
    (sent_here (wrote_held g d) (load_left g t) (load-held g d) (record { kind = Grant c.in-Request.q c.in-Request.x c.in-Request.mode; list = none_of g t }) 1 refl (delivered (before g t) (num_of g t))
    (request_granted (before g t) (num_of g t) (freed_now g t) (freed-is g t) c.in-Request.q c.in-Request.x c.in-Request.mode (kind-is g t _ c.in-Request.is) h.wide-xi.result (old_of g h) d.hold-held.result h.wide-xi.ensures.0 (old-is g h) c.is_welcome.result c.is_welcome.ensures c.if-is_welcome.true d.hold-held.ensures (none_of g t) (none_is g t))
    (freed-flights g t) (freed-matched g t) (to_of g t) c.with-then-is_welcome.result t.lowest_free-to-in-loop-i.ensures.0 c.with-then-is_welcome.ensures (takes_to-small g t) (λ z. omega (arith, z)))

abbrev Wrote : given.Over → Type 0
Wrote g = After-wide-in-Request g

abbrev took_wrote : (g : given.Over) → Wrote g → Took g
took_wrote g d = d.before.before.before.before.before.before.before.before

abbrev wrote : (g : given.Over) → Wrote g → Board
wrote g d = put_object (freed_now g (took_wrote g d)) d.wide-xi.result d.join-joined.result

abbrev load_wrote : (g : given.Over) → Wrote g → ℕ
load_wrote g d = load_left g (took_wrote g d) + d.wide.result - d.wide-in-Request.result

pub overflow_add-load-in-Request : goal.overflow_add-load-in-Request
overflow_add-load-in-Request g c = omega (arith, left-most g c.before.before.before.before.before.before.before, c.wide.ensures.1)

old-counts : (g : given.Over) → (d : Wrote g) → d.wide-in-Request.result ≡ (object_at (freed_now g (took_wrote g d)) d.wide-xi.result).line_count
old-counts g d = d.wide-in-Request.ensures.0 ∙ ap (λ (o : Object). o.line_count) (old-here g d.before.before.before.before)

pub overflow_sub-load-in-Request : goal.overflow_sub-load-in-Request
overflow_sub-load-in-Request g c =
    let d = c in
    let t = c.before.before.before.before.before.before.before.before in
    omega (arith, object-fits (freed_now g t) d.wide-xi.result d.join-joined.result (index-small g d.before.before.before.before) (ready g (turn_took g t)).ranged.objects (load_left g t) (load-left g t) d.wide-in-Request.result d.wide.result (old-counts g d) d.wide.ensures.0)

load-wrote : (g : given.Over) → (d : Wrote g) → load_wrote g d ≡ load (wrote g d)
load-wrote g d = let t = d.before.before.before.before.before.before.before.before in
    object_changed (freed_now g t) d.wide-xi.result d.join-joined.result (index-small g d.before.before.before.before) (ready g (turn_took g t)).ranged.objects (load_left g t) (load-left g t) d.wide-in-Request.result d.wide.result (old-counts g d) d.wide.ensures.0

-- ---- a list is started
pub started-entries-requires : goal.started-entries-requires
started-entries-requires g c = let z = old-ranged g c.before.before.before.before in (z, (ranged g c.before.before.before.before.before.before.before).0, z.count)

abbrev RequestsAsked : given.Over → Type 0
RequestsAsked g = After-asks_next-out g

abbrev sent : (g : given.Over) → RequestsAsked g → Message
sent g a = record { kind = a.asks_next-out.result; list = a.started-entries.result }

arrives : (g : given.Over) → (a : RequestsAsked g) → send (wrote g a.before.before) (sent g a) ≡ delivered (before g (took_wrote g a.before.before)) (num_of g (took_wrote g a.before.before))
arrives g a = let d = a.before.before in
    let t = a.before.before.before.before.before.before.before.before.before.before in
    let h = a.before.before.before.before.before.before in
    ap (λ (k : Kind). send (wrote g d) (record { kind = k; list = a.started-entries.result })) a.asks_next-out.ensures
    ∙ request_joins (before g t) (num_of g t) (freed_now g t) (freed-is g t) a.in-Request.q a.in-Request.x a.in-Request.mode (kind-is g t _ a.in-Request.is) h.wide-xi.result (old_of g h) d.join-joined.result h.wide-xi.ensures.0 (old-is g h) a.is_welcome.result a.is_welcome.ensures a.if-is_welcome.false d.join-joined.ensures a.started-entries.result a.started-entries.ensures

-- it has nobody to ask

pub loop-i-preserved-then-more-eq0 : goal.loop-i-preserved-then-more-eq0
loop-i-preserved-then-more-eq0 g c =
    let a = c.before.before in
    let d = c.before.before.before.before in
    let t = c.before.before.before.before.before.before.before.before.before.before.before.before in
    ends g t (wrote g d) (load_wrote g d)
    (sent_none (wrote g d) (load_wrote g d) (load-wrote g d) (sent g a) c.kind_load-more.result c.kind_load-more.ensures.0 (delivered (before g t) (num_of g t)) (arrives g a) c.if-more-eq0.true)

-- it is sent
pub overflow_add-load-in-Request-2 : goal.overflow_add-load-in-Request-2
overflow_add-load-in-Request-2 g c = omega (arith, left-most g c.before.before.before.before.before.before.before.before.before.before.before.before, c.wide.ensures.1, c.kind_load-more.ensures.1)

pub bounds-b-to-in-Request : goal.bounds-b-to-in-Request
bounds-b-to-in-Request g c = omega (arith, takes_to-small g c.before.before.before.before.before.before.before.before.before.before.before.before)

pub bounds-b-to-in-Request-2 : goal.bounds-b-to-in-Request-2
bounds-b-to-in-Request-2 g c = omega (arith, takes_to-small g c.before.before.before.before.before.before.before.before.before.before.before.before)

pub with-requires-in-Request : goal.with-requires-in-Request
with-requires-in-Request g c = omega (arith, takes_to-small g c.before.before.before.before.before.before.before.before.before.before.before.before)

pub loop-i-preserved-in-Request : goal.loop-i-preserved-in-Request
loop-i-preserved-in-Request g c =
    let a = c.before.before.before in
    let d = c.before.before.before.before.before in
    let t = c.before.before.before.before.before.before.before.before.before.before.before.before.before in
    ends g t _ _
    (sent_here (wrote g d) (load_wrote g d) (load-wrote g d) (sent g a) c.kind_load-more.result c.kind_load-more.ensures.0 (delivered (before g t) (num_of g t)) (arrives g a)
    (freed-flights g t) (freed-matched g t) (to_of g t) c.with-in-Request.result t.lowest_free-to-in-loop-i.ensures.0 c.with-in-Request.ensures (takes_to-small g t) c.if-more-eq0.false)

-- ---- A release arrives at its object: the holder is struck, and the front of the line is let in while it conflicts with no holder.

-- ---- the release is known
abbrev ReleasesCame : given.Over → Type 0
ReleasesCame g = In-Release g

releases_ranged : (g : given.Over) → (j : ReleasesCame g) → (j.in-Release.q < 16) × (j.in-Release.x < 16)
releases_ranged g j = kind-ranged g j.before _ j.in-Release.is

-- ---- the holder is struck
abbrev Struck : given.Over → Type 0
Struck g = After-strike-struck g

abbrev took_struck : (g : given.Over) → Struck g → Took g
took_struck g d = d.before.before.before.before

abbrev releases_old_of : (g : given.Over) → Struck g → Object
releases_old_of g d = get_or (before g (took_struck g d)).objects d.wide-xi-in-Release.result (record { shared = 0; exclusive = 0; line = []; line_exclusive = 0; line_count = 0 })

releases_index-small : (g : given.Over) → (d : Struck g) → d.wide-xi-in-Release.result < 16
releases_index-small g d = omega (arith, (releases_ranged g d.before.before.before).1, d.wide-xi-in-Release.ensures.0)

releases_old-is : (g : given.Over) → (d : Struck g) → releases_old_of g d ≡ object_at (before g (took_struck g d)) d.in-Release.x
releases_old-is g d = read_at (before g (took_struck g d)).objects d.wide-xi-in-Release.result d.in-Release.x _ no_object d.wide-xi-in-Release.ensures.0 (omega (arith, (ready g (turn_took g (took_struck g d))).ranged.objects, (releases_ranged g d.before.before.before).1))

releases_old-here : (g : given.Over) → (d : Struck g) → releases_old_of g d ≡ object_at (freed_now g (took_struck g d)) d.wide-xi-in-Release.result
releases_old-here g d = read_at (before g (took_struck g d)).objects d.wide-xi-in-Release.result d.wide-xi-in-Release.result _ no_object refl (omega (arith, (ready g (turn_took g (took_struck g d))).ranged.objects, releases_index-small g d))

releases_old-ranged : (g : given.Over) → (d : Struck g) → LineRanged (releases_old_of g d)
releases_old-ranged g d = rw (releases_old-is g d) ((ready g (turn_took g (took_struck g d))).ranged.lines d.in-Release.x)

struck-ranged : (g : given.Over) → (d : Struck g) → LineRanged d.strike-struck.result
struck-ranged g d = line_is d.strike-struck.result (struck (releases_old_of g d) d.in-Release.q) d.strike-struck.ensures (struck_line (releases_old_of g d) d.in-Release.q (releases_old-ranged g d))

same_count : (g : given.Over) → (d : Struck g) → d.strike-struck.result.line_count ≡ (object_at (freed_now g (took_struck g d)) d.wide-xi-in-Release.result).line_count
same_count g d = ap (λ (o : Object). o.line_count) d.strike-struck.ensures ∙ ap (λ (o : Object). o.line_count) (releases_old-here g d)

releases_arrives : (g : given.Over) → (d : Struck g) → send_grants (put_object (freed_now g (took_struck g d)) d.wide-xi-in-Release.result (let_in d.strike-struck.result)) d.wide-xi-in-Release.result (settled d.strike-struck.result.line_count d.strike-struck.result).grants ≡ delivered (before g (took_struck g d)) (num_of g (took_struck g d))
releases_arrives g d = let t = d.before.before.before.before in
    release-arrives (before g t) (num_of g t) (freed_now g t) (freed-is g t) d.in-Release.q d.in-Release.x (kind-is g t _ d.in-Release.is) d.wide-xi-in-Release.result (releases_old_of g d) d.strike-struck.result d.wide-xi-in-Release.ensures.0 (releases_old-is g d) d.strike-struck.ensures

pub front_goes-requires : goal.front_goes-requires
front_goes-requires g c = struck-ranged g (c)

-- ---- nobody is let in
pub loop-i-preserved-then-not-front_goes : goal.loop-i-preserved-then-not-front_goes
loop-i-preserved-then-not-front_goes g c =
    let d = c.before.before in
    let t = c.before.before.before.before.before.before in
    ends g t _ (load_left g t)
    (none_granted (freed_now g t) (load_left g t) (load-left g t) d.wide-xi-in-Release.result (releases_index-small g d) (ready g (turn_took g t)).ranged.objects d.strike-struck.result (same_count g d) (delivered (before g t) (num_of g t)) (releases_arrives g d) (sym c.front_goes.ensures ∙ not-true _ (ap not c.if-not-front_goes.true)))

-- ---- all go in who can
pub let_in-book-requires : goal.let_in-book-requires
let_in-book-requires g c = struck-ranged g c.before.before

pub bounds-b-to-in-Release : goal.bounds-b-to-in-Release
bounds-b-to-in-Release g c = omega (arith, takes_to-small g c.before.before.before.before.before.before.before.before)

pub bounds-b-to-in-Release-2 : goal.bounds-b-to-in-Release-2
bounds-b-to-in-Release-2 g c = omega (arith, takes_to-small g c.before.before.before.before.before.before.before.before)

pub with-requires-in-Release : goal.with-requires-in-Release
with-requires-in-Release g c = omega (arith, takes_to-small g c.before.before.before.before.before.before.before.before)

-- the first grant is on its way
abbrev First : given.Over → Type 0
First g = After-with-in-Release g

abbrev took_first : (g : given.Over) → First g → Took g
took_first g j = j.before.before.before.before.before.before.before.before.before

goes : (g : given.Over) → (j : First g) → front_goes j.strike-struck.result ≡ true
goes g j = sym j.front_goes.ensures ∙ not-false _ (ap not j.if-not-front_goes.false)

pub overflow_sub-granted : goal.overflow_sub-granted
overflow_sub-granted g c =
    let j = c.before.before in
    omega (arith, one_let_in j.strike-struck.result (goes g j), ap (λ (o : Object). o.line_count) j.let_in-book.ensures)

abbrev granted : (g : given.Over) → First g → Board
granted g j = let t = j.before.before.before.before.before.before.before.before.before in
    let y = freed_now g t in
    with y y.processes (set y.objects j.wide-xi-in-Release.result j.let_in-book.result) j.with-in-Release.result (set y.flights (to_of g t) (record { kind = j.grant_at.result })) (set y.lists (to_of g t) (none_of g t)) y.rings

first : (g : given.Over) → (j : First g) → LetIn (granted g j) (load_left g (took_first g j)) j.in-Release.x j.strike-struck.result (j.strike-struck.result.line_count - j.let_in-book.result.line_count) (delivered (before g (took_first g j)) (num_of g (took_first g j)))
first g j = let d = j.before.before.before.before.before in
    let t = j.before.before.before.before.before.before.before.before.before in
    first-granted (freed_now g t) (load_left g t) (load-left g t) d.wide-xi-in-Release.result (releases_index-small g d) (ready g (turn_took g t)).ranged.objects d.strike-struck.result (same_count g d) (delivered (before g t) (num_of g t)) (releases_arrives g d)
    (goes g j) d.in-Release.x d.wide-xi-in-Release.ensures.0 j.let_in-book.result j.let_in-book.ensures j.grant_at.result j.grant_at.ensures (none_of g t) (none_is g t)
    (freed-flights g t) (freed-matched g t) (to_of g t) j.with-in-Release.result t.lowest_free-to-in-loop-i.ensures.0 j.with-in-Release.ensures (takes_to-small g t)

-- it is the only one

pub loop-i-preserved-then-granted-eq1 : goal.loop-i-preserved-then-granted-eq1
loop-i-preserved-then-granted-eq1 g c =
    let j = c.before.before.before in
    let t = took_first g j in
    ends g t _ (load_left g t) ((first g j).ends c.if-granted-eq1.true)

-- the others are sent theirs
pub grant_rest-b-requires : goal.grant_rest-b-requires
grant_rest-b-requires g c = omega (arith, (struck-ranged g c.before.before.before.before.before.before.before.before).count)

pub loop-i-preserved-in-Release : goal.loop-i-preserved-in-Release
loop-i-preserved-in-Release g c =
    let j = c.before.before.before.before.before in
    let t = took_first g j in
    ends g t c.grant_rest-b.result c.load-load.result
    ((first g j).goes c.grant_rest-b.result c.load-load.result c.grant_rest-b.ensures c.load-load.ensures.0)

-- ---- A list arrives: at the home of its next entry, or at an object. It goes on, it ends, or a ring is recorded.

pub asked_of-requires : goal.asked_of-requires
asked_of-requires g c = list-ranged g c.before

pub onward-onward-requires : goal.onward-onward-requires
onward-onward-requires g c = (list-ranged g c.before.before.before.before).next

abbrev Home : given.Over → Type 0
Home g = After-onward-onward g

abbrev took_home : (g : given.Over) → Home g → Took g
took_home g d = d.before.before.before.before.before

abbrev sent_home : (g : given.Over) → Home g → Message
sent_home g d = record { kind = d.onward-onward.result.kind; list = with_next (list_of g (took_home g d)) d.onward-onward.result.next }

home-arrives : (g : given.Over) → (d : Home g) → send (freed_now g (took_home g d)) (sent_home g d) ≡ delivered (before g (took_home g d)) (num_of g (took_home g d))
home-arrives g d = let t = d.before.before.before.before.before in
    list-at-home (before g t) (num_of g t) (freed_now g t) (freed-is g t) (list_of g t) (list-is g t) (kind-is g t ListToHome d.in-ListToHome.is) d.asked_of.result (get_or (before g t).processes d.wide-qi-in-ListToHome.result no_process) d.onward-onward.result d.asked_of.ensures.0 (ap (λ (i : ℕ). get_or (before g t).processes i no_process) d.wide-qi-in-ListToHome.ensures.0) d.onward-onward.ensures

pub loop-i-preserved-then-more-eq0-2 : goal.loop-i-preserved-then-more-eq0-2
loop-i-preserved-then-more-eq0-2 g c =
    let d = c.before.before in
    let t = c.before.before.before.before.before.before.before in
    ends g t (freed_now g t) (load_left g t)
    (sent_none (freed_now g t) (load_left g t) (load-left g t) (sent_home g d) c.kind_load-more-in-ListToHome.result c.kind_load-more-in-ListToHome.ensures.0 (delivered (before g t) (num_of g t)) (home-arrives g d) c.if-more-eq0-2.true)

pub bounds-b-to-in-ListToHome : goal.bounds-b-to-in-ListToHome
bounds-b-to-in-ListToHome g c = omega (arith, takes_to-small g c.before.before.before.before.before.before.before)

pub bounds-b-to-in-ListToHome-2 : goal.bounds-b-to-in-ListToHome-2
bounds-b-to-in-ListToHome-2 g c = omega (arith, takes_to-small g c.before.before.before.before.before.before.before)

pub with-requires-in-ListToHome : goal.with-requires-in-ListToHome
with-requires-in-ListToHome g c = omega (arith, takes_to-small g c.before.before.before.before.before.before.before)

pub loop-i-preserved-in-ListToHome : goal.loop-i-preserved-in-ListToHome
loop-i-preserved-in-ListToHome g c =
    let d = c.before.before.before in
    let t = c.before.before.before.before.before.before.before.before in
    ends g t _ _
    (sent_here (freed_now g t) (load_left g t) (load-left g t) (sent_home g d) c.kind_load-more-in-ListToHome.result c.kind_load-more-in-ListToHome.ensures.0 (delivered (before g t) (num_of g t)) (home-arrives g d)
    (freed-flights g t) (freed-matched g t) (to_of g t) c.with-in-ListToHome.result t.lowest_free-to-in-loop-i.ensures.0 c.with-in-ListToHome.ensures (takes_to-small g t) c.if-more-eq0-2.false)

abbrev ListsCame : given.Over → Type 0
ListsCame g = In-ListToObject g

lists_ranged : (g : given.Over) → (j : ListsCame g) → j.in-ListToObject.x < 16
lists_ranged g j = kind-ranged g j.before _ j.in-ListToObject.is

abbrev ListsHad : given.Over → Type 0
ListsHad g = After-asked_of-in-ListToObject g

abbrev lists_took_had : (g : given.Over) → ListsHad g → Took g
lists_took_had g h = h.before.before.before.before

abbrev lists_old_of : (g : given.Over) → ListsHad g → Object
lists_old_of g h = get_or (before g (lists_took_had g h)).objects h.wide-in-ListToObject.result (record { shared = 0; exclusive = 0; line = []; line_exclusive = 0; line_count = 0 })

lists_old-is : (g : given.Over) → (h : ListsHad g) → lists_old_of g h ≡ object_at (before g (lists_took_had g h)) h.in-ListToObject.x
lists_old-is g h = read_at (before g (lists_took_had g h)).objects h.wide-in-ListToObject.result h.in-ListToObject.x _ no_object h.wide-in-ListToObject.ensures.0 (omega (arith, (ready g (turn_took g (lists_took_had g h))).ranged.objects, lists_ranged g h.before.before.before))

lists_old-ranged : (g : given.Over) → (h : ListsHad g) → LineRanged (lists_old_of g h)
lists_old-ranged g h = rw (lists_old-is g h) ((ready g (turn_took g (lists_took_had g h))).ranged.lines h.in-ListToObject.x)

pub asked_of-requires-in-ListToObject : goal.asked_of-requires-in-ListToObject
asked_of-requires-in-ListToObject g c = list-ranged g c.before.before.before

pub place_in-place-requires : goal.place_in-place-requires
place_in-place-requires g c = lists_old-ranged g c

pub closes-requires : goal.closes-requires
closes-requires g c = (list-ranged g c.before.before.before.before.before, lists_old-ranged g c.before)

-- ---- the process asked next has its place in the line
abbrev Looked : given.Over → Type 0
Looked g = After-closes g

abbrev took_looked : (g : given.Over) → Looked g → Took g
took_looked g d = d.before.before.before.before.before.before

place_is : (g : given.Over) → (d : Looked g) → d.place_in-place.result ≡ place_in (lists_old_of g d.before.before) (asked_of (list_of g (took_looked g d)))
place_is g d = d.place_in-place.ensures ∙ ap (place_in (lists_old_of g d.before.before)) d.asked_of-in-ListToObject.ensures.0

-- ---- a ring is recorded in the starter's place
pub starter_of-requires : goal.starter_of-requires
starter_of-requires g c = list-ranged g c.before.before.before.before.before.before.before

abbrev Found : given.Over → Type 0
Found g = After-wide-si g

starter-small : (g : given.Over) → (d : Found g) → d.wide-si.result < 16
starter-small g d = omega (arith, d.wide-si.ensures.0, d.starter_of.ensures.1)

pub along_leads-ring-requires : goal.along_leads-ring-requires
along_leads-ring-requires g c = omega (arith, c.wide-then-closes.ensures.0, (list-ranged g c.before.before.before.before.before.before.before.before.before.before).next)

pub loop-i-preserved-then-closes : goal.loop-i-preserved-then-closes
loop-i-preserved-then-closes g c =
    let t = c.before.before.before.before.before.before.before.before.before.before.before.before.before in
    let h = c.before.before.before.before.before.before.before.before.before in
    let d = c.before.before.before.before.before.before.before in
    let f = c.before.before.before.before in
    let s = f.wide-si in
    let l = list_of g t in
    ends g t (put_ring (freed_now g t) s.result c.keeping-kept.result) (load_left g t)
    (record {
      board = ring_found (before g t) (num_of g t) (freed_now g t) (freed-is g t) l (list-is g t) h.in-ListToObject.x (kind-is g t _ h.in-ListToObject.is) (lists_old_of g h) (lists_old-is g h) d.place_in-place.result (place_is g d) d.closes.result d.closes.ensures c.if-closes.true
          s.result c.along_leads-ring.result c.keeping-kept.result (get_or (before g t).rings s.result (record { processes = []; count = 0 })) (s.ensures.0 ∙ f.starter_of.ensures.0)
          (c.along_leads-ring.ensures ∙ ap (λ (k : ℕ). ring_of (along_leads k l k)) c.wide-then-closes.ensures.0)
          (read_at (before g t).rings s.result s.result _ no_ring refl (omega (arith, (ready g (turn_took g t)).ranged.rings, starter-small g f))) c.keeping-kept.ensures;
      loaded = load-left g t ∙ sym (load_ring (freed_now g t) s.result c.keeping-kept.result);
    })

-- ---- no ring: the list goes on or ends
pub grown-entries-requires : goal.grown-entries-requires
grown-entries-requires g c = (list-ranged g c.before.before.before.before.before.before.before, lists_old-ranged g c.before.before.before)

abbrev ListsAsked : given.Over → Type 0
ListsAsked g = After-asks_next-out-in-ListToObject g

abbrev took_asked : (g : given.Over) → ListsAsked g → Took g
took_asked g a = a.before.before.before.before.before.before.before.before.before

abbrev lists_sent : (g : given.Over) → ListsAsked g → Message
lists_sent g a = record { kind = a.asks_next-out-in-ListToObject.result; list = a.grown-entries.result }

object-arrives : (g : given.Over) → (a : ListsAsked g) → send (freed_now g (took_asked g a)) (lists_sent g a) ≡ delivered (before g (took_asked g a)) (num_of g (took_asked g a))
object-arrives g a = let d = a.before.before.before in
    let h = a.before.before.before.before.before in
    let t = a.before.before.before.before.before.before.before.before.before in
    ap (λ (k : Kind). send (freed_now g t) (record { kind = k; list = a.grown-entries.result })) a.asks_next-out-in-ListToObject.ensures
    ∙ no-ring (before g t) (num_of g t) (freed_now g t) (freed-is g t) (list_of g t) (list-is g t) h.in-ListToObject.x (kind-is g t _ h.in-ListToObject.is) (lists_old_of g h) (lists_old-is g h) d.place_in-place.result (place_is g d) d.closes.result d.closes.ensures a.if-closes.false a.grown-entries.result a.grown-entries.ensures

pub loop-i-preserved-then-more-eq0-3 : goal.loop-i-preserved-then-more-eq0-3
loop-i-preserved-then-more-eq0-3 g c =
    let a = c.before.before in
    let t = c.before.before.before.before.before.before.before.before.before.before.before in
    ends g t (freed_now g t) (load_left g t)
    (sent_none (freed_now g t) (load_left g t) (load-left g t) (lists_sent g a) c.kind_load-more-in-ListToObject.result c.kind_load-more-in-ListToObject.ensures.0 (delivered (before g t) (num_of g t)) (object-arrives g a) c.if-more-eq0-3.true)

pub bounds-b-to-in-ListToObject : goal.bounds-b-to-in-ListToObject
bounds-b-to-in-ListToObject g c = omega (arith, takes_to-small g c.before.before.before.before.before.before.before.before.before.before.before)

pub bounds-b-to-in-ListToObject-2 : goal.bounds-b-to-in-ListToObject-2
bounds-b-to-in-ListToObject-2 g c = omega (arith, takes_to-small g c.before.before.before.before.before.before.before.before.before.before.before)

pub with-requires-in-ListToObject : goal.with-requires-in-ListToObject
with-requires-in-ListToObject g c = omega (arith, takes_to-small g c.before.before.before.before.before.before.before.before.before.before.before)

pub loop-i-preserved : goal.loop-i-preserved
loop-i-preserved g c =
    let a = c.before.before.before in
    let t = c.before.before.before.before.before.before.before.before.before.before.before.before in
    ends g t _ _
    (sent_here (freed_now g t) (load_left g t) (load-left g t) (lists_sent g a) c.kind_load-more-in-ListToObject.result c.kind_load-more-in-ListToObject.ensures.0 (delivered (before g t) (num_of g t)) (object-arrives g a)
    (freed-flights g t) (freed-matched g t) (to_of g t) c.with-in-ListToObject.result t.lowest_free-to-in-loop-i.ensures.0 c.with-in-ListToObject.ensures (takes_to-small g t) c.if-more-eq0-3.false)
