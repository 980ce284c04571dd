-- The commands: what is accepted, and that the rules and the model agree on what it does.
use mathlib.Core.Path.{◌≡◌, refl, ap, sym, ◌∙◌, fun_ext, subst}
use mathlib.Core.Logic.{◌⊎◌, inl, inr, ⊎_elim}
use mathlib.Core.Bool.{Bool, true, false, ◌&&◌}
use mathlib.Core.Option.{Option, none, some}
use mathlib.Core.List.{List, [], ◌∷◌}
use Prim.Native.Nat.{ℕ, ◌≤◌, ◌<◌}
use native.Mathlib.Omega.{arith}
use lib.Dec.{ltb}
use lib.ListN.{length}
use borrow.Author.Tests.{ne_eqb, lt-ltb, ltb-true, ltb-false, leb-false, not-false}
use Rattle.rules.specs.declared.Mode.{Mode}
use Rattle.rules.specs.declared.Wait.{Wait}
use Rattle.rules.specs.declared.Wait.TheVariants.{NotWaiting, Waiting}
use Rattle.rules.specs.declared.Kind.{Kind}
use Rattle.rules.specs.declared.Kind.TheVariants.{Free, Request, Grant, Release, ListToHome, ListToObject}
use Rattle.rules.specs.declared.Entries.{Entries}
use Rattle.rules.specs.declared.Flight.{Flight}
use Rattle.rules.specs.declared.Message.{Message}
use Rattle.rules.specs.declared.Process.{Process}
use Rattle.rules.specs.declared.Object.{Object}
use Rattle.rules.specs.declared.Board.{Board}
use Rattle.rules.specs.declared.Command.{Command}
use Rattle.rules.specs.declared.Command.TheVariants as Do
use Rattle.rules.specs.declared.Answer.{Answer}
use Rattle.rules.specs.declared.Answer.TheVariants.{Done}
use Rattle.rules.specs.Tables.{rows}
use Rattle.rules.specs.Answers.{number, first_of}
use Rattle.rules.specs.Book.{is_exclusive, hold_in}
use Rattle.rules.specs.Home.{is_waiting, is_hold, hold_at, holding, asking, dropping}
use Rattle.rules.specs.Lists.{plain, no_ring}
use Rattle.rules.specs.Board.{process_at, object_at, kind_at, list_at, no_process, no_object, no_flight, put_process, in_flight, send, kind_load, load}
use Rattle.rules.specs.Commands.{mode_of, requested, released, effect, deliver_tests, tests, answer_to, turn, empty_board, homes_of, opening}
use Rattle.rules.specs.Waits.{Present}
use Rattle.rules.proofs.Bits.{taken_zero}
use Rattle.rules.proofs.Load.{room_below}
use Rattle.rules.proofs.Tables.{by_test, both_left, both_right, rows_length}
use Rattle.laws.proofs.Tables.{replicate_at}
use Rattle.laws.proofs.Kept.{Good, turn_done}
use Rattle.model.specs.Tables.{put, put_pair, send as sendM}
use Rattle.model.specs.Totals.{weigh, sum_lines, total, weight_of, load_of, load as load_m}
use Rattle.model.specs.Board.{with_messages, request_made, release_made, deliver, Message as MessageM, Board as BoardM}
use Rattle.model.specs.Reach.{Step, requests, releases, delivers, Later, next, opening as openingM}
use Rattle.promises.proofs.Seen.Tables.{seen_set, put_self, sum_view, sum_ones}
use Rattle.promises.proofs.Seen.{hold_seen, holders_seen, line_seen, wait_seen, holds_seen, message_seen, sent_seen, seen, board_path}
use Rattle.promises.proofs.Seen.Objects.{dropped}
use Rattle.promises.proofs.Seen.Lists.{ring_seen}
use Rattle.promises.proofs.Shape.{few_processes, few_objects, process_there}
use Rattle.promises.proofs.Sends.{is_there, there_kind, ready, send_view}
use Rattle.promises.proofs.Arrives.{delivered_view}

-- ---- the load
load_kind : (c : Kind) (l : Entries) → kind_load c ≡ weight_of load_of (message_seen c l)
load_kind Free l = refl
load_kind (Request p o m) l = refl
load_kind (Grant p o m) l = refl
load_kind (Release p o) l = refl
load_kind ListToHome l = refl
load_kind (ListToObject o) l = refl

load_view : (b : Board) → load b ≡ load_m (seen b)
unfolding load total weigh sum_lines
load_view b =
    omega (
      arith,
      sum_view 64 (λ n. kind_load (kind_at b n)) (λ n. weight_of load_of ((seen b).messages n)) (λ n h. load_kind (kind_at b n) (list_at b n)),
      sum_view 16 (λ o. (object_at b o).line_count) _ (λ o h. sym (rows_length (object_at b o).line_count _) ∙ sym (sum_ones (line_seen (object_at b o)))),
    )

-- ---- the opening
-- a book of zeros notes no hold
no_hold : (k : ℕ) → hold_seen (hold_in 0 0 k) ≡ none
unfolding hold_in
no_hold k = rw (taken_zero k)

module _ (n p o : ℕ) (hp ho : List ℕ) where
  opening_seen : seen (empty_board n p o hp ho) ≡ openingM
  unfolding rows
  opening_seen = board_path _ _
      (fun_ext (λ q. ap (λ (x : Process). wait_seen x.wait) (replicate_at 16 q no_process)))
      (fun_ext (λ q. fun_ext (λ u. ap (λ (x : Process). holds_seen x u) (replicate_at 16 q no_process) ∙ no_hold u)))
      (fun_ext (λ q. ap (λ (x : Process). x.released) (replicate_at 16 q no_process)))
      (fun_ext (λ u. fun_ext (λ q. ap (λ (x : Object). holders_seen x q) (replicate_at 16 u no_object) ∙ no_hold q)))
      (fun_ext (λ u. ap line_seen (replicate_at 16 u no_object)))
      (fun_ext (λ i. ap (λ (x : Flight). message_seen x.kind (list_at (empty_board n p o hp ho) i)) (replicate_at 64 i no_flight)))
      (fun_ext (λ s. ap ring_seen (replicate_at 16 s no_ring)))

-- ---- what an accepted command does
module _ (b : Board) (g : Good b) (p o : ℕ) (lp : p < b.process_count) (room : load b < 64) where
  below : p < length b.processes
  below = process_there b g p lp

  -- the book of the process is written and the message sent
  sends : (x : Process) (m : Message) (a : MessageM) → sent_seen m ≡ some a → seen (send (put_process b p x) m) ≡ with_messages (seen (put_process b p x)) (sendM a (seen b).messages)
  sends x m a e = send_view (put_process b p x) (ready b g) m a e (room_below b g.shaped.records.flying room) _ refl

  request_sent : (m : Mode) → seen (requested b p o m) ≡ request_made (seen b) p o (is_exclusive m)
  unfolding requested request_made
  request_sent m =
      let x = asking (process_at b p) o m in
      sends x (plain (Request p o m)) _ refl ∙ board_path _ _
      (seen_set (λ (y : Process). wait_seen y.wait) b.processes p x no_process below)
      (seen_set holds_seen b.processes p x no_process below ∙ put_self (seen b).hold p _ refl)
      (seen_set (λ (y : Process). y.released) b.processes p x no_process below ∙ put_self (seen b).released p _ refl)
      refl refl refl refl

  release_sent : seen (released b p o) ≡ release_made (seen b) p o
  unfolding released release_made put_pair
  release_sent =
      let x = dropping (process_at b p) o in
      sends x (plain (Release p o)) _ refl ∙ board_path _ _
      (seen_set (λ (y : Process). wait_seen y.wait) b.processes p x no_process below ∙ put_self (seen b).wait p _ refl)
      (seen_set holds_seen b.processes p x no_process below ∙ ap (λ (y : ℕ → Option Bool). put (seen b).hold p y) (dropped (process_at b p).shared (process_at b p).exclusive o))
      (seen_set (λ (y : Process). y.released) b.processes p x no_process below)
      refl refl refl refl

-- ---- the first test that holds gives the answer
abbrev pub Passed : List (Bool × Answer) → Type 0
Passed [] = Unit {0}
Passed (t ∷ ts) = (t.0 ≡ false) × Passed ts

-- a refusal, and not 17
abbrev Refusal : Answer → Type 0
Refusal a = (0 < number a) × (number a < 17)

abbrev Refusals : List (Bool × Answer) → Type 0
Refusals [] = Unit {0}
Refusals (t ∷ ts) = Refusal t.1 × Refusals ts

refusals : (b : Board) (c : Command) → Refusals (tests b c)
refusals b (Do.Request p o m) = omega arith
refusals b (Do.Release p o) = omega arith
refusals b (Do.Deliver n) = omega arith

-- the answer is one of the tests', or all are passed and it is done
first_view : (ts : List (Bool × Answer)) → Refusals ts → Refusal (first_of ts) ⊎ (Passed ts × (first_of ts ≡ Done))
unfolding first_of
first_view [] r = inr (tt, refl)
first_view (t ∷ ts) r = by_test t.0 (λ e. inl (rw e r.0)) (λ e. ⊎_elim (λ z. inl (rw e z)) (λ z. inr ((e, z.0), rw e z.1)) (first_view ts r.1))

-- a command is refused and changes nothing, or it is done
pub data Answered (b : Board) (c : Command) : Type 0 where
  refused : 0 < number (turn b c).answer → number (turn b c).answer < 17 → (turn b c).board ≡ b → Answered b c
  accepted : Passed (tests b c) → (turn b c).answer ≡ Done → Answered b c

pub turn_view : (b : Board) (c : Command) → Answered b c
unfolding turn answer_to
turn_view b c = ⊎_elim
    (λ h. refused h.0 h.1 (rw (ne_eqb (number (first_of (tests b c))) 0 (λ z. omega arith))))
    (λ h. accepted h.0 h.1)
    (first_view (tests b c) (refusals b c))

-- ---- one command, as the model sees it: nothing changes, or it is one of its steps
abbrev pub Moves : BoardM → BoardM → Type 0
Moves w v = (w ≡ v) ⊎ Step w v

pub moves_later : {u w v : BoardM} → Later u w → Moves w v → Later u v
moves_later {u} l (inl e) = subst (Later u) e l
moves_later l (inr s) = next l s

pub not_waiting : (x : Wait) → is_waiting x ≡ false → wait_seen x ≡ none
not_waiting NotWaiting e = refl
not_waiting (Waiting o m) e = let z : ◌≡◌ {A = ℕ} 0 1 = cc in absurd (omega arith)

not_holding : (x : Option Mode) → is_hold x ≡ false → hold_seen x ≡ none
not_holding none e = refl
not_holding (some m) e = let z : ◌≡◌ {A = ℕ} 0 1 = cc in absurd (omega arith)

is_holding : (x : Option Mode) → is_hold x ≡ true → (m : Bool) × (hold_seen x ≡ some m)
is_holding none e = let z : ◌≡◌ {A = ℕ} 0 1 = cc in absurd (omega arith)
is_holding (some m) e = (is_exclusive m, refl)

is-there : (x : Option MessageM) → is_there x ≡ true → (m : MessageM) × (x ≡ some m)
is-there none e = let z : ◌≡◌ {A = ℕ} 0 1 = cc in absurd (omega arith)
is-there (some m) e = (m, refl)

module _ (b : Board) (g : Good b) where
  to : {w v : BoardM} → v ≡ w → Step (seen b) w → Moves (seen b) v
  to e m = inr (rw e m)

  -- what is occupied is in flight
  present : (i : ℕ) → Passed (deliver_tests b i) → (x : MessageM) × (i < 64) × ((seen b).messages i ≡ some x)
  present i (e, _) =
      let c = not-false (ltb i 64 && in_flight b i) e in
      let lt : i < 64 = ltb-true i 64 (both_left _ _ c) in
      let x = is-there ((seen b).messages i) (sym (there_kind (kind_at b i) (list_at b i)) ∙ sym (g.shaped.records.flying i lt) ∙ both_right (ltb i 64) (in_flight b i) c) in
      (x.0, lt, x.1)

  effect_moves : (c : Command) → Passed (tests b c) → Moves (seen b) (seen (effect b c))
  unfolding effect
  effect_moves (Do.Request p o m) (h3, (h4, (h5, (h6, (h7, (h8, (h10, _))))))) =
      let lp = leb-false b.process_count p h3 in
      let ld : load b ≤ 62 = ltb-false 62 (load b) h10 in
      to (request_sent b g p o lp (omega arith) (mode_of m))
      (requests p o (is_exclusive (mode_of m)) (omega (arith, few_processes b g)) (omega (arith, leb-false b.object_count o h4, few_objects b g)) (not_waiting (process_at b p).wait h6) h7 (not_holding (hold_at (process_at b p) o) h8) (omega (arith, load_view b)))
  effect_moves (Do.Release p o) (h3, (h4, (h6, (h9, (h10, _))))) =
      let lp = leb-false b.process_count p h3 in
      let ld : load b ≤ 63 = ltb-false 63 (load b) h10 in
      let m = is_holding (hold_at (process_at b p) o) (not-false (holding (process_at b p) o) h9) in
      to (release_sent b g p o lp (omega arith))
      (releases p o m.0 (omega (arith, leb-false b.object_count o h4, few_objects b g)) (not_waiting (process_at b p).wait h6) m.1 (omega (arith, load_view b)))
  effect_moves (Do.Deliver i) e = let x = present i e in to (delivered_view b g i x.1 x.0 x.2) (delivers i x.0 x.1 x.2)

  pub turn_moves : (c : Command) → Moves (seen b) (seen (turn b c).board)
  turn_moves c = go (turn_view b c)
    where
      go : Answered b c → Moves (seen b) (seen (turn b c).board)
      go (refused _ _ e) = inl (sym (ap seen e))
      go (accepted p d) = rw (turn_done b c d) (effect_moves c p)

  -- an accepted delivery
  pub turn_delivers : (i : ℕ) → (turn b (Do.Deliver i)).answer ≡ Done
      → (x : MessageM) × (i < 64) × ((seen b).messages i ≡ some x) × (seen (turn b (Do.Deliver i)).board ≡ deliver (seen b) i x)
  unfolding effect
  turn_delivers i d = go (turn_view b (Do.Deliver i))
    where
      go : Answered b (Do.Deliver i) → (x : MessageM) × (i < 64) × ((seen b).messages i ≡ some x) × (seen (turn b (Do.Deliver i)).board ≡ deliver (seen b) i x)
      go (refused h _ _) = absurd (omega (arith, ap number d))
      go (accepted p _) = let x = present i p in (x.0, x.1, x.2, ap seen (turn_done b (Do.Deliver i) d) ∙ delivered_view b g i x.1 x.0 x.2)

-- a number that is in flight is never refused
pub turn_present : (b : Board) (i : ℕ) → Present b i → (turn b (Do.Deliver i)).answer ≡ Done
unfolding turn answer_to first_of
turn_present b i (l, e) = rw (lt-ltb i 64 l, e)

-- ---- an opening that is not refused
pub opening_view : (n p o : ℕ) (hp ho : List ℕ) → (opening n p o hp ho).answer ≡ Done → seen (opening n p o hp ho).board ≡ openingM
unfolding opening
opening_view n p o hp ho e = rw e (opening_seen n p o (homes_of p hp) (homes_of o ho))
