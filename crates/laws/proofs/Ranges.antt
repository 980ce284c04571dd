-- Sizes and ranges are kept: each record that a rule writes is ranged when those it reads are.
use mathlib.Core.Path.{◌≡◌, refl, sym, ◌∙◌}
use mathlib.Core.Bool.{Bool, true, false, true≢false}
use mathlib.Core.List.{List, [], ◌∷◌}
use Prim.Native.Nat.{ℕ, zero, suc, ◌+◌, ◌<◌}
use native.Mathlib.Omega.{arith}
use lib.Dec.{eqb, ltb, leb}
use lib.ListN.{get_or, set, replicate, length-set}
use borrow.Author.Tests.{ltb-true, leb-false}
use Rattle.rules.specs.declared.Mode.{Mode}
use Rattle.rules.specs.declared.Wait.{Wait}
use Rattle.rules.specs.declared.Wait.TheVariants.{NotWaiting, Waiting}
use Rattle.rules.specs.declared.Kind.{Kind}
use Rattle.rules.specs.declared.Kind.TheVariants.{Free, Request, Grant, Release, ListToHome, ListToObject}
use Rattle.rules.specs.declared.Entries.{Entries}
use Rattle.rules.specs.declared.Message.{Message}
use Rattle.rules.specs.declared.Flight.{Flight}
use Rattle.rules.specs.declared.Process.{Process}
use Rattle.rules.specs.declared.Object.{Object}
use Rattle.rules.specs.declared.Ring.{Ring}
use Rattle.rules.specs.declared.Board.{Board}
use Rattle.rules.specs.declared.Command.{Command}
use Rattle.rules.specs.declared.Command.TheVariants as Do
use Rattle.rules.specs.declared.Answer.{Answer}
use Rattle.rules.specs.declared.Arrived.{Arrived}
use Rattle.rules.specs.declared.Looked.{Looked}
use Rattle.rules.specs.declared.Drained.{Drained}
use Rattle.rules.specs.declared.Answer.TheVariants.{Done, NoProcess, NoObject}
use Rattle.rules.specs.Tables.{among}
use Rattle.rules.specs.Bits.{lowest_free, lowest_taken, without_bit}
use Rattle.rules.specs.Answers.{done, first_of}
use Rattle.rules.specs.Book.{who_at, mode_at, held, struck, with_holders, joined, without_front, waited_for, welcome, front_granted, settled, release_arrives, place_in}
use Rattle.rules.specs.Lists.{no_entries, plain, nothing, starter_of, asked_of, listed, add_one, add_all, entry_done, starter, started, list_at_home, looking, list_at_object, request_arrives}
use Rattle.rules.specs.Board.{with, no_process, no_object, no_flight, process_at, object_at, kind_at, list_at, put_process, put_object, put_ring, freed, is_message, put_first, send, send_grants}
use Rattle.rules.specs.Commands.{recording, arriving, requested, released, delivered, effect, answer_to, turn, one_step_more, draining}
use Rattle.rules.specs.Sheet.{command_at, board_after}
use Rattle.rules.specs.Ranges.{LineRanged, ListRanged, KindRanged, WaitRanged, Ranged}
use Rattle.laws.specs.Ranges.{RangesKept}
use Rattle.rules.specs.Waits.{Among}
use Rattle.rules.proofs.Book.{front_left_size, front_left_who, Awaited, holding, standing, awaited, settled_keeps}
use Rattle.rules.proofs.Lists.{add_all_keeps}
use Rattle.laws.proofs.Tables.{by_pick, each_set, replicate_at}
use Rattle.laws.proofs.Grants.{GrantsBelow, settled_grants}

-- ---- one place of a row of small numbers, written
small_set : (l : List ℕ) (i x : ℕ) → x < 16 → ((k : ℕ) → get_or l k 0 < 16) → (k : ℕ) → get_or (set l i x) k 0 < 16
small_set l i x h f = each_set (λ _ (n : ℕ). n < 16) l i x 0 h f

-- ---- the book of an object
module _ (o : Object) (r : LineRanged o) where
  holders_ranged : (s x : ℕ) → LineRanged (with_holders o s x)
  holders_ranged s x = record { size = r.size; count = r.count; who = r.who }

  joined_ranged : (p : ℕ) (m : Mode) → p < 16 → LineRanged (joined o p m)
  unfolding joined
  joined_ranged p m h = by_pick LineRanged (ltb o.line_count 16) (λ e. record {
    size = length-set o.line o.line_count p ∙ r.size;
    count = omega (arith, ltb-true o.line_count 16 e);
    who = small_set o.line o.line_count p h r.who;
  }) (λ e. r)

  front_left_ranged : LineRanged (without_front o)
  front_left_ranged = record { size = front_left_size o r.size; count = omega (arith, r.count); who = λ k. rw (front_left_who o k) (r.who (suc k)) }

  waited_small : (p : ℕ) (m : Mode) (k q : ℕ) → Among q (waited_for o p m k) → q < 16
  waited_small p m k q h = go (awaited o p m k q h)
    where
      go : Awaited o p m k q → q < 16
      go (holding n l f e c) = l
      go (standing j l f e c) = rw (← e) (r.who j)

-- the front becomes a holder and leaves the line
front_granted_ranged : (o : Object) → LineRanged o → LineRanged (front_granted o)
front_granted_ranged o r = front_left_ranged (held o (who_at o 0) (mode_at o 0)) (holders_ranged o r _ _)

-- ---- lists
abbrev MessageRanged : Message → Type 0
MessageRanged m = KindRanged m.kind × ListRanged m.list

zeros_small : (k : ℕ) → get_or (replicate 16 0) k 0 < 16
zeros_small k = rw (replicate_at {A = ℕ} 16 k 0) (omega arith)

none_ranged : ListRanged no_entries
none_ranged = record { size = refl; leads_size = refl; count = omega arith; next = omega arith; who = zeros_small; leads = zeros_small }

nothing_ranged : MessageRanged nothing
nothing_ranged = (tt, none_ranged)

starter_ranged : (p : ℕ) → p < 16 → ListRanged (starter p)
starter_ranged p h = record {
  size = length-set (replicate 16 0) 0 p;
  leads_size = refl;
  count = omega arith;
  next = omega arith;
  who = small_set (replicate 16 0) 0 p h zeros_small;
  leads = zeros_small;
}

one_ranged : (l : Entries) (lead q : ℕ) → lead < 16 → q < 16 → ListRanged l → ListRanged (add_one l lead q)
unfolding add_one
one_ranged l lead q h g r = by_pick ListRanged (listed l q) (λ e. r) (λ e. by_pick ListRanged (ltb l.count 16) (λ e. record {
  size = length-set l.who l.count q ∙ r.size;
  leads_size = length-set l.leads l.count lead ∙ r.leads_size;
  count = omega (arith, ltb-true l.count 16 e);
  next = r.next;
  who = small_set l.who l.count q g r.who;
  leads = small_set l.leads l.count lead h r.leads;
}) (λ e. r))

all_ranged : (qs : List ℕ) (l : Entries) (lead : ℕ) → lead < 16 → ((q : ℕ) → Among q qs → q < 16) → ListRanged l → ListRanged (add_all l lead qs)
all_ranged qs l lead h g r = add_all_keeps ListRanged lead qs (λ m q a s. one_ranged m lead q h (g q a) s) l r

started_ranged : (p : ℕ) (qs : List ℕ) → p < 16 → ((q : ℕ) → Among q qs → q < 16) → MessageRanged (started p qs)
unfolding started
started_ranged p qs h g = by_pick MessageRanged (ltb 1 (add_all (starter p) 0 qs).count) (λ e. (tt, all_ranged qs (starter p) 0 (omega arith) g (starter_ranged p h))) (λ e. nothing_ranged)

done_ranged : (l : Entries) → ListRanged l → MessageRanged (entry_done l)
unfolding entry_done
done_ranged l r = by_pick MessageRanged (ltb (l.next + 1) l.count) (λ e. (
  tt,
  record {
    size = r.size;
    leads_size = r.leads_size;
    count = r.count;
    next = omega (arith, ltb-true (l.next + 1) l.count e, r.count);
    who = r.who;
    leads = r.leads;
  },
)) (λ e. nothing_ranged)

home_ranged : (l : Entries) (w : Wait) → ListRanged l → WaitRanged w → MessageRanged (list_at_home l w)
home_ranged l NotWaiting r h = done_ranged l r
home_ranged l (Waiting o m) r h = (h, r)

object_ranged : (l : Entries) (o : Object) → ListRanged l → LineRanged o → MessageRanged (list_at_object l o).sent
unfolding list_at_object
object_ranged l o r s =
    let k = place_in o (asked_of l) in
    let qs = waited_for o (asked_of l) (mode_at o k) k in
    by_pick (λ (x : Looked). MessageRanged x.sent) (ltb k o.line_count) (λ e. go (among (starter_of l) qs) qs (waited_small o s (asked_of l) (mode_at o k) k)) (λ e. done_ranged l r)
  where
    go : (t : Bool) (qs : List ℕ) → ((q : ℕ) → Among q qs → q < 16) → MessageRanged (looking t l qs).sent
    go true qs h = nothing_ranged
    go false qs h = done_ranged (add_all l l.next qs) (all_ranged qs l l.next r.next h r)

-- ---- the board
module _ (b : Board) (r : Ranged b) where
  process_ranged : (p : ℕ) (x : Process) → WaitRanged x.wait → Ranged (put_process b p x)
  process_ranged p x h = record {
    processes = length-set b.processes p x ∙ r.processes;
    objects = r.objects;
    flights = r.flights;
    lists = r.lists;
    rings = r.rings;
    count_of_processes = r.count_of_processes;
    count_of_objects = r.count_of_objects;
    waits = each_set (λ _ (y : Process). WaitRanged y.wait) b.processes p x no_process h r.waits;
    lines = r.lines;
    kinds = r.kinds;
    entries = r.entries;
  }

  book_ranged : (o : ℕ) (x : Object) → LineRanged x → Ranged (put_object b o x)
  book_ranged o x h = record {
    processes = r.processes;
    objects = length-set b.objects o x ∙ r.objects;
    flights = r.flights;
    lists = r.lists;
    rings = r.rings;
    count_of_processes = r.count_of_processes;
    count_of_objects = r.count_of_objects;
    waits = r.waits;
    lines = each_set (λ _. LineRanged) b.objects o x no_object h r.lines;
    kinds = r.kinds;
    entries = r.entries;
  }

  ring_ranged : (s : ℕ) (x : Ring) → Ranged (put_ring b s x)
  ring_ranged s x = record {
    processes = r.processes;
    objects = r.objects;
    flights = r.flights;
    lists = r.lists;
    rings = length-set b.rings s x ∙ r.rings;
    count_of_processes = r.count_of_processes;
    count_of_objects = r.count_of_objects;
    waits = r.waits;
    lines = r.lines;
    kinds = r.kinds;
    entries = r.entries;
  }

  -- a message is written, or its number freed
  flight_ranged : (n occupied : ℕ) (x : Flight) (l : Entries) → KindRanged x.kind → ListRanged l → Ranged (with b b.processes b.objects occupied (set b.flights n x) (set b.lists n l) b.rings)
  flight_ranged n occupied x l h g = record {
    processes = r.processes;
    objects = r.objects;
    flights = length-set b.flights n x ∙ r.flights;
    lists = length-set b.lists n l ∙ r.lists;
    rings = r.rings;
    count_of_processes = r.count_of_processes;
    count_of_objects = r.count_of_objects;
    waits = r.waits;
    lines = r.lines;
    kinds = each_set (λ _ (y : Flight). KindRanged y.kind) b.flights n x no_flight h r.kinds;
    entries = each_set (λ _. ListRanged) b.lists n l no_entries g r.entries;
  }

  freed_ranged : (n : ℕ) → Ranged (freed b n)
  freed_ranged n = flight_ranged n (without_bit b.occupied n) no_flight no_entries tt none_ranged

  send_ranged : (m : Message) → MessageRanged m → Ranged (send b m)
  unfolding send put_first
  send_ranged m h = by_pick Ranged (is_message m.kind) (λ e. by_pick Ranged (ltb (lowest_free b.occupied) 64) (λ e. flight_ranged (lowest_free b.occupied) _ _ _ h.0 h.1) (λ e. r)) (λ e. r)

  recording_ranged : (s : ℕ) (x : Ring) → Ranged (recording b s x)
  unfolding recording
  recording_ranged s x = by_pick Ranged (eqb x.count 0) (λ e. r) (λ e. ring_ranged s _)

grants_ranged : (gs : List (ℕ × Mode)) (b : Board) (o : ℕ) → Ranged b → o < 16 → GrantsBelow 16 gs → Ranged (send_grants b o gs)
unfolding send_grants
grants_ranged [] b o r h g = r
grants_ranged (x ∷ gs) b o r h g = grants_ranged gs (send b (plain (Grant x.0 o x.1))) o (send_ranged b r _ ((g.0, h), none_ranged)) h g.1

-- ---- a message arrives
module _ (b : Board) (r : Ranged b) where
  request_ranged : (p o : ℕ) (m : Mode) → p < 16 → o < 16 → Ranged (arriving (Request p o m) no_entries b)
  unfolding request_arrives
  request_ranged p o m h g =
      let x = object_at b o in
      by_pick (λ (y : Arrived). Ranged (send (put_object b o y.object) y.sent)) (welcome x p m)
      (λ e. send_ranged _ (book_ranged b r o (held x p m) (holders_ranged x (r.lines o) _ _)) _ ((h, g), none_ranged))
      (λ e. send_ranged _ (book_ranged b r o (joined x p m) (joined_ranged x (r.lines o) p m h)) _ (started_ranged p _ h (waited_small x (r.lines o) p m x.line_count)))

  release_ranged : (p o : ℕ) → o < 16 → Ranged (arriving (Release p o) no_entries b)
  unfolding release_arrives
  release_ranged p o h =
      let x = object_at b o in
      let y = struck x p in
      let n = x.line_count in
      let whole : LineRanged y = holders_ranged x (r.lines o) _ _ in
      grants_ranged (settled n y).grants _ o (book_ranged b r o _ (settled_keeps LineRanged (λ z s _ _. front_granted_ranged z s) n y refl whole)) h
      (settled_grants 16 LineRanged (λ z s _. s.who 0) (λ z s _. front_granted_ranged z s) n y refl whole)

  arriving_ranged : (k : Kind) (l : Entries) → KindRanged k → ListRanged l → Ranged (arriving k l b)
  arriving_ranged Free l h g = r
  arriving_ranged (Request p o m) l h g = request_ranged p o m h.0 h.1
  arriving_ranged (Grant p o m) l h g = process_ranged b r p _ tt
  arriving_ranged (Release p o) l h g = release_ranged p o h.1
  arriving_ranged ListToHome l h g = send_ranged b r _ (home_ranged l (process_at b (asked_of l)).wait g (r.waits (asked_of l)))
  arriving_ranged (ListToObject o) l h g = send_ranged _ (recording_ranged b r (starter_of l) _) _ (object_ranged l (object_at b o) g (r.lines o))

pub delivery_ranged : (b : Board) (n : ℕ) → Ranged b → Ranged (delivered b n)
unfolding delivered
delivery_ranged b n r = arriving_ranged (freed b n) (freed_ranged b r n) (kind_at b n) (list_at b n) (r.kinds n) (r.entries n)

-- ---- commands
-- a list of tests is passed one by one
pub passed : (t : Bool) (a : Answer) (ts : List (Bool × Answer)) → done a ≡ false → done (first_of ((t, a) ∷ ts)) ≡ true → (t ≡ false) × (done (first_of ts) ≡ true)
unfolding first_of
passed true a ts n e = let z : true ≡ false = sym e ∙ n in absurd (true≢false z)
passed false a ts n e = (refl, e)

-- an accepted request or release names a process and an object below the counts
module _ (b : Board) (p o : ℕ) where
  pub record Named : Type 0 where
    pub process : p < b.process_count
    pub object : o < b.object_count

  named : (ts : List (Bool × Answer)) → done (first_of ((leb b.process_count p, NoProcess) ∷ (leb b.object_count o, NoObject) ∷ ts)) ≡ true → Named
  named ts e =
      let x = passed _ NoProcess _ refl e in
      let y = passed _ NoObject ts refl x.1 in
      record { process = leb-false _ _ x.0; object = leb-false _ _ y.0 }

  pub request_named : (m : ℕ) → done (answer_to b (Do.Request p o m)) ≡ true → Named
  unfolding answer_to
  request_named m e = named _ e

  pub release_named : done (answer_to b (Do.Release p o)) ≡ true → Named
  unfolding answer_to
  release_named e = named _ e

effect_ranged : (b : Board) (c : Command) → Ranged b → done (answer_to b c) ≡ true → Ranged (effect b c)
unfolding effect requested released
effect_ranged b (Do.Request p o m) r e =
    let h = request_named b p o m e in
    send_ranged _ (process_ranged b r p _ (omega (arith, h.object, r.count_of_objects))) _ ((omega (arith, h.process, r.count_of_processes), omega (arith, h.object, r.count_of_objects)), none_ranged)
effect_ranged b (Do.Release p o) r e =
    let h = release_named b p o e in
    send_ranged _ (process_ranged b r p _ (r.waits p)) _ ((omega (arith, h.process, r.count_of_processes), omega (arith, h.object, r.count_of_objects)), none_ranged)
effect_ranged b (Do.Deliver n) r e = delivery_ranged b n r

pub turn_ranged : (b : Board) (c : Command) → Ranged b → Ranged (turn b c).board
unfolding turn
turn_ranged b c r = by_pick Ranged (done (answer_to b c)) (effect_ranged b c r) (λ e. r)

pub sheet_ranged : (b : Board) (s : List ℕ) (i : ℕ) → Ranged b → Ranged (board_after b s i)
unfolding board_after
sheet_ranged b s zero r = r
sheet_ranged b s (suc i) r = turn_ranged (board_after b s i) (command_at s i) (sheet_ranged b s i r)

pub drain_ranged : (n : ℕ) (b : Board) → Ranged b → Ranged (draining n b).board
unfolding draining
drain_ranged zero b r = r
drain_ranged (suc n) b r = go (ltb (lowest_taken b.occupied) 64) (drain_ranged n (delivered b (lowest_taken b.occupied)) (delivery_ranged b (lowest_taken b.occupied) r))
  where
    go : (t : Bool) → Ranged (draining n (delivered b (lowest_taken b.occupied))).board → Ranged (elim t as (λ _. Drained) [ true ↦ one_step_more (draining n (delivered b (lowest_taken b.occupied))) | false ↦ record { answer = Done; made = 0; board = b } ]).board
    go true s = s
    go false s = r

pub ranges_kept : RangesKept
ranges_kept = record { command = turn_ranged; delivery = delivery_ranged; sheet = sheet_ranged; drain = drain_ranged }
