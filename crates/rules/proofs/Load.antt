-- Laws of the load: what each writing of a record adds to it or takes from it, and that a load below 64 leaves a free number, so that what
-- is sent is sent. Assumes nothing.
use mathlib.Core.Path.{◌≡◌, refl, sym, ap, ◌∙◌}
use mathlib.Core.Logic.{◌≢◌}
use mathlib.Core.Bool.{Bool, true, false}
use mathlib.Core.List.{List, [], ◌∷◌}
use Prim.Native.Nat.{ℕ, zero, suc, ◌+◌, ◌≤◌, ◌<◌}
use native.Mathlib.Omega.{arith}
use native.Mathlib.Decide.{ℕ_discrete, dec_lt}
use lib.Dec.{eqb, ltb}
use lib.ListN.{length, get_or, set, length-set}
use lib.Seq.{get_or-set_same, get_or-set_other}
use borrow.Author.Tests.{lt-ltb, le-ltb}
use Rattle.rules.specs.declared.Mode.{Mode}
use Rattle.rules.specs.declared.Kind.{Kind}
use Rattle.rules.specs.declared.Kind.TheVariants.{Free, Request, Grant, Release, ListToHome, ListToObject}
use Rattle.rules.specs.declared.Flight.{Flight}
use Rattle.rules.specs.declared.Message.{Message}
use Rattle.rules.specs.declared.Process.{Process}
use Rattle.rules.specs.declared.Object.{Object}
use Rattle.rules.specs.declared.Ring.{Ring}
use Rattle.rules.specs.declared.Board.{Board}
use Rattle.rules.specs.Tables.{among}
use Rattle.rules.specs.Bits.{taken, lowest_free}
use Rattle.rules.specs.declared.Entries.{Entries}
use Rattle.rules.specs.declared.Wait.{Wait}
use Rattle.rules.specs.declared.Wait.TheVariants.{NotWaiting, Waiting}
use Rattle.rules.specs.Book.{struck, mode_at, place_in, joined, waited_for, welcome, release_arrives}
use Rattle.rules.specs.Home.{asking, dropping, granted}
use Rattle.rules.specs.Lists.{plain, asked_of, starter_of, add_all, entry_done, starter, started, list_at_home, looking, list_at_object, keeping, request_arrives}
use Rattle.rules.specs.Commands.{recording, arriving, requested, released, delivered}
use Rattle.rules.specs.Ranges.{KindRanged, Ranged}
use Rattle.rules.specs.Board.{no_flight, no_object, process_at, object_at, ring_at, list_at, kind_at, put_process, put_object, put_ring, put_message, freed, in_flight, is_message, put_first, send, send_grants, kind_load, load}
use Rattle.rules.proofs.Tables.{by_test, true_not_false, sum_change, sum_le, sum_same}
use Rattle.rules.proofs.Book.{settled_count}
use Rattle.rules.proofs.Bits.{with_same, with_other, without_same, without_other, lowest-free, lowest_free_le, lowest_free_none}

-- ---- kinds
pub message_load : (k : Kind) → is_message k ≡ true → 1 ≤ kind_load k
message_load Free e = absurd (true_not_false (sym e))
message_load (Request p o m) e = omega arith
message_load (Grant p o m) e = omega arith
message_load (Release p o) e = omega arith
message_load ListToHome e = omega arith
message_load (ListToObject o) e = omega arith

pub no_message : (k : Kind) → is_message k ≡ false → k ≡ Free
no_message Free e = refl
no_message (Request p o m) e = absurd (true_not_false e)
no_message (Grant p o m) e = absurd (true_not_false e)
no_message (Release p o) e = absurd (true_not_false e)
no_message ListToHome e = absurd (true_not_false e)
no_message (ListToObject o) e = absurd (true_not_false e)

-- ---- one record written
-- the books of processes and the rings do not count
pub load_process : (b : Board) (p : ℕ) (x : Process) → load (put_process b p x) ≡ load b
unfolding load
load_process b p x = refl

pub load_ring : (b : Board) (s : ℕ) (r : Ring) → load (put_ring b s r) ≡ load b
unfolding load
load_ring b s r = refl

-- the kinds that stand under the numbers after one is written
pub kind_other : (b : Board) (n k : ℕ) (m : Message) → k ≢ n → kind_at (put_message b n m) k ≡ kind_at b k
kind_other b n k m f = ap (λ (x : Flight). x.kind) (get_or-set_other b.flights n k _ no_flight f)

pub kind_same : (b : Board) (n : ℕ) (m : Message) → n < length b.flights → kind_at (put_message b n m) n ≡ m.kind
kind_same b n m h = ap (λ (x : Flight). x.kind) (get_or-set_same b.flights n _ no_flight h)

pub freed_other : (b : Board) (n k : ℕ) → k ≢ n → kind_at (freed b n) k ≡ kind_at b k
freed_other b n k f = ap (λ (x : Flight). x.kind) (get_or-set_other b.flights n k _ no_flight f)

set_default : {A : Type 0} (l : List A) (i : ℕ) (d : A) → get_or (set l i d) i d ≡ d
set_default [] i d = refl
set_default (x ∷ l) zero d = refl
set_default (x ∷ l) (suc i) d = set_default l i d

pub freed_same : (b : Board) (n : ℕ) → kind_at (freed b n) n ≡ Free
freed_same b n = ap (λ (x : Flight). x.kind) (set_default b.flights n no_flight)

-- a number freed takes its message's load away
pub load_freed : (b : Board) (n : ℕ) → n < 64 → load (freed b n) + kind_load (kind_at b n) ≡ load b
unfolding load
load_freed b n h =
    omega (arith, ap kind_load (freed_same b n), sum_change 64 (λ k. kind_load (kind_at b k)) (λ k. kind_load (kind_at (freed b n) k)) n h (λ k l f. ap kind_load (freed_other b n k f)))

-- a message written adds its load, and takes away what stood under its number
pub load_message : (b : Board) (n : ℕ) (m : Message) → n < 64 → n < length b.flights → load (put_message b n m) + kind_load (kind_at b n) ≡ load b + kind_load m.kind
unfolding load
load_message b n m h l =
    omega (arith, ap kind_load (kind_same b n m l), sum_change 64 (λ k. kind_load (kind_at b k)) (λ k. kind_load (kind_at (put_message b n m) k)) n h (λ k z f. ap kind_load (kind_other b n k m f)))

pub load_free_number : (b : Board) (n : ℕ) (m : Message) → n < 64 → n < length b.flights → kind_at b n ≡ Free → load (put_message b n m) ≡ load b + kind_load m.kind
load_free_number b n m h l e = omega (arith, load_message b n m h l, ap kind_load e)

-- an object's book written changes it by the change of its line
pub load_object : (b : Board) (o : ℕ) (x : Object) → o < 16 → o < length b.objects → load (put_object b o x) + (object_at b o).line_count ≡ load b + x.line_count
unfolding load
load_object b o x h l =
    omega (
      arith,
      ap (λ (y : Object). y.line_count) (get_or-set_same b.objects o x no_object l),
      sum_change 16 (λ k. (object_at b k).line_count) (λ k. (object_at (put_object b o x) k).line_count) o h
          (λ k z f. ap (λ (y : Object). y.line_count) (get_or-set_other b.objects o k x no_object f)),
    )

-- ---- the numbers in flight are those that hold a message
abbrev pub Matched : Board → Type 0
Matched b = (n : ℕ) → n < 64 → in_flight b n ≡ is_message (kind_at b n)

pub matched_free : (b : Board) → Matched b → (n : ℕ) → n < 64 → in_flight b n ≡ false → kind_at b n ≡ Free
matched_free b h n l e = no_message (kind_at b n) (sym (h n l) ∙ e)

pub matched_freed : (b : Board) (n : ℕ) → Matched b → Matched (freed b n)
matched_freed b n h k l = elim (ℕ_discrete k n) [
  | yes e ↦ rw e (without_same b.occupied n ∙ sym (ap is_message (freed_same b n)))
  | no f ↦ without_other b.occupied n k f ∙ h k l ∙ sym (ap is_message (freed_other b n k f))
]

pub matched_message : (b : Board) (n : ℕ) (m : Message) → n < length b.flights → is_message m.kind ≡ true → Matched b → Matched (put_message b n m)
matched_message b n m g e h k l = elim (ℕ_discrete k n) [
  | yes z ↦ rw z (with_same b.occupied n ∙ sym (ap is_message (kind_same b n m g) ∙ e))
  | no f ↦ with_other b.occupied n k f ∙ h k l ∙ sym (ap is_message (kind_other b n k m f))
]

-- ---- a send
-- a load below 64 leaves a free number: each message in flight counts
pub room_below : (b : Board) → Matched b → load b < 64 → lowest_free b.occupied < 64
unfolding load
room_below b h l = elim (dec_lt (lowest_free b.occupied) 64) [
  | yes z ↦ z
  | no f ↦ absurd (omega (arith, sum_same 64 1, sum_le 64 (λ k. 1) (λ k. kind_load (kind_at b k)) (each (lowest_free_none b.occupied (omega (arith, lowest_free_le b.occupied))))))
]
  where
    each : ((k : ℕ) → k < 64 → taken b.occupied k ≡ true) → (k : ℕ) → k < 64 → 1 ≤ kind_load (kind_at b k)
    each full k z = message_load (kind_at b k) (sym (h k z) ∙ full k z)

-- nothing to send, no number free, and sent under the lowest free number
pub send_nothing : (b : Board) (m : Message) → is_message m.kind ≡ false → send b m ≡ b
unfolding send
send_nothing b m e = rw e

pub send_full : (b : Board) (m : Message) → 64 ≤ lowest_free b.occupied → send b m ≡ b
unfolding send put_first
send_full b m h = by_test (is_message m.kind) (λ e. rw (e, le-ltb (lowest_free b.occupied) 64 h)) (λ e. rw e)

pub send_sent : (b : Board) (m : Message) → is_message m.kind ≡ true → lowest_free b.occupied < 64 → send b m ≡ put_message b (lowest_free b.occupied) m
unfolding send put_first
send_sent b m e h = rw (e, lt-ltb (lowest_free b.occupied) 64 h)

module _ (b : Board) (sized : length b.flights ≡ 64) (matched : Matched b) where
  -- a send that fits the load adds its message's load
  pub load_send : (m : Message) → load b + kind_load m.kind ≤ 64 → load (send b m) ≡ load b + kind_load m.kind
  load_send m h = by_test (is_message m.kind)
      (λ e. let room : lowest_free b.occupied < 64 = room_below b matched (omega (arith, message_load m.kind e)) in
      rw (send_sent b m e room) (load_free_number b (lowest_free b.occupied) m room (omega arith) (matched_free b matched (lowest_free b.occupied) room (lowest-free b.occupied room))))
      (λ e. rw (send_nothing b m e) (omega (arith, ap kind_load (no_message m.kind e))))

  pub matched_send : (m : Message) → Matched (send b m)
  matched_send m = by_test (is_message m.kind)
      (λ e. elim (dec_lt (lowest_free b.occupied) 64) [
        | yes h ↦ rw (send_sent b m e h) (matched_message b (lowest_free b.occupied) m (omega arith) e matched)
        | no f ↦ rw (send_full b m (omega arith)) matched
      ])
      (λ e. rw (send_nothing b m e) matched)

  pub sized_send : (m : Message) → length (send b m).flights ≡ 64
  sized_send m = by_test (is_message m.kind)
      (λ e. elim (dec_lt (lowest_free b.occupied) 64) [
        | yes h ↦ rw (send_sent b m e h) (length-set b.flights (lowest_free b.occupied) _ ∙ sized)
        | no f ↦ rw (send_full b m (omega arith)) sized
      ])
      (λ e. rw (send_nothing b m e) sized)

-- grants sent one after the other
pub load_grants : (b : Board) (o : ℕ) (gs : List (ℕ × Mode)) → length b.flights ≡ 64 → Matched b → load b + length gs ≤ 64 → load (send_grants b o gs) ≡ load b + length gs
unfolding send_grants
load_grants b o [] s h l = omega arith
load_grants b o (g ∷ gs) s h l =
    let m = plain (Grant g.0 o g.1) in
    let e : load (send b m) ≡ load b + 1 = load_send b s h m (omega arith) in
    omega (arith, load_grants (send b m) o gs (sized_send b s h m) (matched_send b s h m) (omega arith))

-- ---- an accepted command
-- a request adds two, where the load leaves room for them, and a release one
pub load_requested : (b : Board) (p o : ℕ) (m : Mode) → length b.flights ≡ 64 → Matched b → load b ≤ 62 → load (requested b p o m) ≡ load b + 2
unfolding requested
load_requested b p o m s h l =
    let c = put_process b p (asking (process_at b p) o m) in
    load_send c s h (plain (Request p o m)) (omega (arith, load_process b p (asking (process_at b p) o m))) ∙ ap (λ (x : ℕ). x + 2) (load_process b p (asking (process_at b p) o m))

pub load_released : (b : Board) (p o : ℕ) → length b.flights ≡ 64 → Matched b → load b ≤ 63 → load (released b p o) ≡ load b + 1
unfolding released
load_released b p o s h l =
    let c = put_process b p (dropping (process_at b p) o) in
    load_send c s h (plain (Release p o)) (omega (arith, load_process b p (dropping (process_at b p) o))) ∙ ap (λ (x : ℕ). x + 1) (load_process b p (dropping (process_at b p) o))

-- ---- a delivery never adds to the load: what a message sends in its turn, and who joins a line, weigh no more than the message did
-- a send, whether it fits or not
module _ (b : Board) (sized : length b.flights ≡ 64) (matched : Matched b) where
  pub load_send_le : (m : Message) → load (send b m) ≤ load b + kind_load m.kind
  load_send_le m = elim (dec_lt (lowest_free b.occupied) 64) [
    | yes h ↦ by_test (is_message m.kind)
        (λ e. rw (send_sent b m e h) (omega (arith, load_message b (lowest_free b.occupied) m h (omega arith))))
        (λ e. rw (send_nothing b m e) (omega arith))
    | no f ↦ rw (send_full b m (omega arith)) (omega arith)
  ]

grants_le : (b : Board) (o : ℕ) (gs : List (ℕ × Mode)) → length b.flights ≡ 64 → Matched b → load (send_grants b o gs) ≤ load b + length gs
unfolding send_grants
grants_le b o [] s h = omega arith
grants_le b o (g ∷ gs) s h =
    let m = plain (Grant g.0 o g.1) in
    omega (arith, load_send_le b s h m, grants_le (send b m) o gs (sized_send b s h m) (matched_send b s h m))

-- a list weighs one, or nothing where it ends
done_le : (l : Entries) → kind_load (entry_done l).kind ≤ 1
unfolding entry_done
done_le l = by_test (ltb (l.next + 1) l.count) (λ e. rw e (omega arith)) (λ e. rw e (omega arith))

started_le : (p : ℕ) (qs : List ℕ) → kind_load (started p qs).kind ≤ 1
unfolding started
started_le p qs = by_test (ltb 1 (add_all (starter p) 0 qs).count) (λ e. rw e (omega arith)) (λ e. rw e (omega arith))

home_le : (l : Entries) (w : Wait) → kind_load (list_at_home l w).kind ≤ 1
home_le l NotWaiting = done_le l
home_le l (Waiting o m) = omega arith

looking_le : (t : Bool) (l : Entries) (qs : List ℕ) → kind_load (looking t l qs).sent.kind ≤ 1
looking_le true l qs = omega arith
looking_le false l qs = done_le (add_all l l.next qs)

object_le : (l : Entries) (o : Object) → kind_load (list_at_object l o).sent.kind ≤ 1
unfolding list_at_object
object_le l o =
    let qs = waited_for o (asked_of l) (mode_at o (place_in o (asked_of l))) (place_in o (asked_of l)) in
    by_test (ltb (place_in o (asked_of l)) o.line_count) (λ e. rw e (looking_le (among (starter_of l) qs) l qs)) (λ e. rw e (done_le l))

joined_le : (o : Object) (p : ℕ) (m : Mode) → (joined o p m).line_count ≤ o.line_count + 1
unfolding joined
joined_le o p m = by_test (ltb o.line_count 16) (λ e. rw e (omega arith)) (λ e. rw e (omega arith))

request_le : (ob : Object) (p o : ℕ) (m : Mode) → (request_arrives ob p o m).object.line_count + kind_load (request_arrives ob p o m).sent.kind ≤ ob.line_count + 2
unfolding request_arrives
request_le ob p o m = by_test (welcome ob p m)
    (λ e. rw e (omega arith))
    (λ e. rw e (omega (arith, joined_le ob p m, started_le p (waited_for ob p m ob.line_count))))

release_le : (ob : Object) (p : ℕ) → length (release_arrives ob p).grants + (release_arrives ob p).object.line_count ≡ ob.line_count
unfolding release_arrives
release_le ob p = settled_count ob.line_count (struck ob p) refl

-- a ring recorded or not: what both boards have
recording_has : (P : Board → Type 0) (b : Board) (s : ℕ) (r : Ring) → P b → ((x : Ring) → P (put_ring b s x)) → P (recording b s r)
unfolding recording
recording_has P b s r h f = by_test (eqb r.count 0) (λ e. rw e h) (λ e. rw e (f (keeping (ring_at b s) r)))

module _ (b : Board) (sized : length b.flights ≡ 64) (books : length b.objects ≡ 16) (matched : Matched b) where
  load_arriving : (k : Kind) (l : Entries) → KindRanged k → load (arriving k l b) ≤ load b + kind_load k
  load_arriving Free l h = omega arith
  load_arriving (Request p o m) l h =
      let r = request_arrives (object_at b o) p o m in
      omega (arith, load_send_le (put_object b o r.object) sized matched r.sent, load_object b o r.object h.1 (omega (arith, h.1)), request_le (object_at b o) p o m)
  load_arriving (Grant p o m) l h = omega (arith, load_process b p (granted (process_at b p) o m))
  load_arriving (Release p o) l h =
      let r = release_arrives (object_at b o) p in
      omega (arith, grants_le (put_object b o r.object) o r.grants sized matched, load_object b o r.object h.1 (omega (arith, h.1)), release_le (object_at b o) p)
  load_arriving ListToHome l h = omega (arith, load_send_le b sized matched (list_at_home l (process_at b (asked_of l)).wait), home_le l (process_at b (asked_of l)).wait)
  load_arriving (ListToObject o) l h =
      let r = list_at_object l (object_at b o) in
      let c = recording b (starter_of l) r.ring in
      omega (
        arith,
        load_send_le c (recording_has (λ x. length x.flights ≡ 64) b (starter_of l) r.ring sized (λ x. sized)) (recording_has Matched b (starter_of l) r.ring matched (λ x. matched)) r.sent,
        recording_has (λ x. load x ≡ load b) b (starter_of l) r.ring refl (load_ring b (starter_of l)),
        object_le l (object_at b o),
      )

pub load_delivered : (b : Board) (n : ℕ) → n < 64 → Ranged b → Matched b → load (delivered b n) ≤ load b
unfolding delivered
load_delivered b n h r m =
    omega (
      arith,
      load_freed b n h,
      load_arriving (freed b n) (length-set b.flights n no_flight ∙ r.flights) r.objects (matched_freed b n m) (kind_at b n) (list_at b n) (r.kinds n),
    )
