-- Deliveries and releases keep a board in shape. Each rule writes one book and sends: the records stay in shape one by one, and neither
-- the load nor how often a process stands passes what it was. An accepted request makes its process stand once more.
use mathlib.Core.Path.{◌≡◌, refl, ap, sym, ◌∙◌, subst, subst₂}
use mathlib.Core.Bool.{Bool, true, false}
use mathlib.Core.List.{List}
use Prim.Native.Nat.{ℕ, zero, suc, ◌+◌, ◌≤◌, ◌<◌}
use native.Mathlib.Omega.{arith}
use native.Mathlib.Decide.{ℕ_discrete}
use lib.Dec.{eqb, ltb}
use lib.ListN.{length}
use borrow.Author.Tests.{ltb-true, ltb-false, eq-eqb, ne_eqb, not-false}
use Rattle.rules.specs.declared.Mode.{Mode}
use Rattle.rules.specs.declared.Wait.{Wait}
use Rattle.rules.specs.declared.Wait.TheVariants.{NotWaiting, Waiting}
use Rattle.rules.specs.declared.Kind.{Kind}
use Rattle.rules.specs.declared.Kind.TheVariants.{Free, Request, Grant, Release, ListToHome, ListToObject}
use Rattle.rules.specs.declared.Entries.{Entries}
use Rattle.rules.specs.declared.Message.{Message}
use Rattle.rules.specs.declared.Object.{Object}
use Rattle.rules.specs.declared.Arrived.{Arrived}
use Rattle.rules.specs.declared.Looked.{Looked}
use Rattle.rules.specs.declared.Board.{Board}
use Rattle.rules.specs.declared.Command.{Command}
use Rattle.rules.specs.declared.Command.TheVariants as Do
use Rattle.rules.specs.declared.Answer.TheVariants.{Done, NoMode, ProcessWaits, HasReleased, HoldsAlready, HoldsNot, LoadTooHigh, NoProcess, NoObject, NoMessage, OutOfShape}
use Rattle.rules.specs.declared.Drained.{Drained}
use Rattle.rules.specs.Tables.{pick, among, all, sum, place_of}
use Rattle.rules.specs.Bits.{digit, taken, with_bit, free_from, lowest_free, lowest_taken}
use Rattle.rules.specs.Answers.{done, first_of}
use Rattle.rules.specs.Book.{hold_in, who_at, mode_at, held, struck, joined, place_in, waited_for, welcome, Settled, front_granted, settled, release_arrives}
use Rattle.rules.specs.Home.{asking, dropping, granted}
use Rattle.rules.specs.Lists.{plain, entry_done, add_all, starter, starter_of, asked_of, started, looking, list_at_home, list_at_object, request_arrives}
use Rattle.rules.specs.Board.{process_at, object_at, kind_at, list_at, put_process, put_object, freed, in_flight, put_first, send, load}
use Rattle.rules.specs.Commands.{recording, arriving, mode_of, requested, released, delivered, effect, answer_to, turn, one_step_more, draining}
use Rattle.rules.specs.Shape.{holds_fit, row_fits, different, counts_fit, process_fits, object_fits, list_fits, no_list, message_fits, ring_fits, up_to, standing, in_shape, step}
use Rattle.rules.specs.Sheet.{command_at, board_after}
use Rattle.rules.proofs.Tables.{by_test, both_left, not_passed}
use Rattle.rules.proofs.Book.{joined_size, front_left_size, settled_keeps, settled_count}
use Rattle.rules.proofs.Load.{load_object, load_delivered, load_requested, load_released}
use Rattle.laws.specs.Shape.{Sized, ObjectShaped, ListShaped, KindShaped, Shaped}
use Rattle.laws.specs.Kept.{ShapeKept, RequestSaid, RequestKept, TwiceHappens}
use Rattle.laws.proofs.Tables.{by_pick}
use Rattle.laws.proofs.Tests.{done_is}
use Rattle.laws.proofs.Grants.{GrantsBelow, settled_grants}
use Rattle.laws.proofs.Ranges.{passed, Named, request_named, release_named}
use Rattle.laws.proofs.Shape.{shaped, tested, shaped_ranged, no_list_shaped}
use Rattle.laws.proofs.Books.{asking_shaped, dropping_shaped, granted_shaped, held_shaped, struck_shaped, joined_shaped, front_granted_shaped, waited_below}
use Rattle.laws.proofs.Lists.{MessageShaped, started_shaped, at_home_shaped, at_object_shaped, found_size, found_shaped}
use Rattle.laws.proofs.Standing.{asks, stands, stands_joined, stands_settled, standing_process, standing_recorded, standing_freed, standing_object, standing_send_le, standing_send, standing_grants}
use Rattle.laws.proofs.Records.{Sound, up_to_is, put-process, put-object, put_freed, put_sent, put_recorded, plain_shaped, recording_counts, put_grants}

-- ---- nobody stands by a list, nor by nothing
abbrev Silent : Message → Type 0
Silent m = (q : ℕ) → asks q m.kind ≡ 0

silent_started : (p : ℕ) (qs : List ℕ) → Silent (started p qs)
unfolding started
silent_started p qs = by_pick Silent (ltb 1 (add_all (starter p) 0 qs).count) (λ e q. refl) (λ e q. refl)

silent_done : (l : Entries) → Silent (entry_done l)
unfolding entry_done
silent_done l = by_pick Silent (ltb (l.next + 1) l.count) (λ e q. refl) (λ e q. refl)

silent_at_home : (l : Entries) (w : Wait) → Silent (list_at_home l w)
silent_at_home l NotWaiting = silent_done l
silent_at_home l (Waiting o m) = λ q. refl

silent_at_object : (l : Entries) (x : Object) → Silent (list_at_object l x).sent
unfolding list_at_object
silent_at_object l x =
    let k = place_in x (asked_of l) in
    let qs = waited_for x (asked_of l) (mode_at x k) k in
    by_pick (λ (y : Looked). Silent y.sent) (ltb k x.line_count) (λ e. go (among (starter_of l) qs) qs) (λ e. silent_done l)
  where
    go : (t : Bool) (qs : List ℕ) → Silent (looking t l qs).sent
    go true qs = λ q. refl
    go false qs = silent_done (add_all l l.next qs)

-- ---- a book of an object, with the length of its line
abbrev Book : ℕ → Object → Type 0
Book c x = ObjectShaped x c × (length x.line ≡ 16)

front_granted_book : (c : ℕ) (x : Object) → Book c x → 0 < x.line_count → Book c (front_granted x)
front_granted_book c x h l = (front_granted_shaped x c h.0 l, front_left_size (held x (who_at x 0) (mode_at x 0)) h.1)

-- ---- a message arrives at a board on which its number is free: it makes nobody stand more often than the message itself did
pub record Arrives (b c : Board) (k : Kind) : Type 0 where
  pub sound : Sound c
  pub standing : (q : ℕ) → standing c q ≤ standing b q + asks q k

-- what a release makes of a book
abbrev pub after_release : Board → ℕ → ℕ → Settled
after_release b p o = settled (object_at b o).line_count (struck (object_at b o) p)

module _ (b : Board) (h : Sound b) where
  abbrev pc : ℕ
  pc = b.process_count

  abbrev oc : ℕ
  oc = b.object_count

  -- the book of an object below the count
  book : (o : ℕ) → o < oc → ObjectShaped (object_at b o) pc
  book o lo = rw (up_to_is o oc pc lo) at (h.records.objects o)

  book_put : (o : ℕ) (x : Object) → o < oc → Book pc x → Sound (put_object b o x)
  book_put o x lo g = put-object b h o x (subst (ObjectShaped x) (sym (up_to_is o oc pc lo)) g.0) g.1

  small : (o : ℕ) → o < oc → o < 16
  small o lo = omega (arith, h.records.table.count_of_objects.1)

  standing_book : (o : ℕ) (x : Object) (q : ℕ) → o < oc → standing (put_object b o x) q + stands q (object_at b o) ≡ standing b q + stands q x
  standing_book o x q lo = standing_object b q o x (small o lo) (omega (arith, small o lo, h.sized.objects))

  -- a book is written and one message sent
  module _ (o : ℕ) (x : Object) (m : Message) (lo : o < oc) (g : Book pc x) (s : MessageShaped m pc oc) where
    answered_sound : Sound (send (put_object b o x) m)
    answered_sound = put_sent (put_object b o x) (book_put o x lo g) m s

    answered_standing : (q : ℕ) → standing (send (put_object b o x) m) q + stands q (object_at b o) ≤ standing b q + stands q x + asks q m.kind
    answered_standing q = omega (arith, standing_book o x q lo, standing_send_le (put_object b o x) q m h.sized.flights)

  module _ (p o : ℕ) (m : Mode) (lp : p < pc) (lo : o < oc) where
    abbrev x : Object
    x = object_at b o

    admitted : Arrives b (send (put_object b o (held x p m)) (plain (Grant p o m))) (Request p o m)
    admitted =
        let g : Book pc (held x p m) = (held_shaped x pc (book o lo) p m lp, h.sized.line o) in
        let s = plain_shaped (Grant p o m) pc oc (lp, lo, no_list_shaped) in
        record { sound = answered_sound o _ _ lo g s; standing = λ q. omega (arith, answered_standing o _ _ lo g s q) }

    queued : Arrives b (send (put_object b o (joined x p m)) (started p (waited_for x p m x.line_count))) (Request p o m)
    queued =
        let qs = waited_for x p m x.line_count in
        let g : Book pc (joined x p m) = (joined_shaped x pc (book o lo) p m lp (h.sized.line o), joined_size x p m ∙ h.sized.line o) in
        let s = started_shaped pc oc p qs lp (λ q. waited_below x pc (book o lo) p m x.line_count q (omega arith)) in
        record { sound = answered_sound o _ _ lo g s; standing = λ q. omega (arith, answered_standing o _ _ lo g s q, stands_joined q x p m (h.sized.line o), silent_started p qs q) }

    request-arrives : (l : Entries) → Arrives b (arriving (Request p o m) l b) (Request p o m)
    unfolding request_arrives
    request-arrives l = by_pick (λ (y : Arrived). Arrives b (send (put_object b o y.object) y.sent) (Request p o m)) (welcome x p m) (λ e. admitted) (λ e. queued)

    grant-arrives : (l : Entries) → Arrives b (arriving (Grant p o m) l b) (Grant p o m)
    grant-arrives l =
        let y = granted (process_at b p) o m in
        record { sound = put-process b h p y (granted_shaped (process_at b p) _ o (h.records.processes p) (rw (up_to_is p pc oc lp) lo) m); standing = λ q. omega (arith, standing_process b q p y) }

  -- a release: the book is settled and written, and those who left the line are granted
  module _ (p o : ℕ) (lo : o < oc) where
    struck_book : Book pc (struck (object_at b o) p)
    struck_book = (struck_shaped (object_at b o) pc (book o lo) p, h.sized.line o)

    pub settled_sound : Sound (put_object b o (after_release b p o).object)
    settled_sound = book_put o (after_release b p o).object lo (settled_keeps (Book pc) (λ y g l _. front_granted_book pc y g l) (object_at b o).line_count (struck (object_at b o) p) refl struck_book)

    pub settled_below : GrantsBelow pc (after_release b p o).grants
    settled_below = settled_grants pc (Book pc) (λ y g l. g.0.line.used 0 l) (front_granted_book pc) (object_at b o).line_count (struck (object_at b o) p) refl struck_book

    pub settled_load : load (put_object b o (after_release b p o).object) + length (after_release b p o).grants ≡ load b
    settled_load = omega (arith, load_object b o (after_release b p o).object (small o lo) (omega (arith, small o lo, h.sized.objects)), settled_count (object_at b o).line_count (struck (object_at b o) p) refl)

    release-arrives : (l : Entries) → Arrives b (arriving (Release p o) l b) (Release p o)
    unfolding release_arrives
    release-arrives l =
        let r = after_release b p o in
        record {
          sound = put_grants r.grants (put_object b o r.object) o settled_sound lo settled_below;
          standing = λ q. omega (arith, standing_grants r.grants (put_object b o r.object) o q h.sized.flights h.records.flying, standing_book o r.object q lo, stands_settled q (object_at b o).line_count (struck (object_at b o) p) refl);
        }

  module _ (l : Entries) (s : length l.who ≡ 16) (t : length l.leads ≡ 16) (g : ListShaped l pc) where
    home-arrives : Arrives b (arriving ListToHome l b) ListToHome
    home-arrives =
        let w = (process_at b (asked_of l)).wait in
        let lp : asked_of l < pc = g.who.used l.next g.inside in
        let m = list_at_home l w in
        record {
          sound = put_sent b h m (at_home_shaped pc oc l s t g w (rw (up_to_is (asked_of l) pc oc lp) at (h.records.processes (asked_of l)).wait));
          standing = λ q. omega (arith, standing_send_le b q m h.sized.flights, silent_at_home l w q);
        }

    object-arrives : (o : ℕ) → o < oc → Arrives b (arriving (ListToObject o) l b) (ListToObject o)
    object-arrives o lo =
        let r = list_at_object l (object_at b o) in
        let c = recording b (starter_of l) r.ring in
        let k = put_recorded b h (starter_of l) r.ring (found_shaped l pc g (object_at b o)) (found_size l (object_at b o) (omega (arith, g.inside, g.most))) in
        let same = recording_counts b (starter_of l) r.ring in
        record {
          sound = put_sent c k r.sent (subst₂ (MessageShaped r.sent) (sym same.processes) (sym same.objects) (at_object_shaped pc oc l s t g (object_at b o) (book o lo)));
          standing = λ q. omega (arith, standing_send_le c q r.sent k.sized.flights, standing_recorded b q (starter_of l) r.ring, silent_at_object l (object_at b o) q);
        }

  arrives : (k : Kind) (l : Entries) → length l.who ≡ 16 → length l.leads ≡ 16 → KindShaped k l pc oc → Arrives b (arriving k l b) k
  arrives Free l s t g = record { sound = h; standing = λ q. omega arith }
  arrives (Request p o m) l s t g = request-arrives p o m g.0 g.1 l
  arrives (Grant p o m) l s t g = grant-arrives p o m g.0 g.1 l
  arrives (Release p o) l s t g = release-arrives p o g.1 l
  arrives ListToHome l s t g = home-arrives l s t g
  arrives (ListToObject o) l s t g = object-arrives l s t g.1 o g.0

-- ---- a board in shape, with its lengths
pub record Good (b : Board) : Type 0 where
  pub sized : Sized b
  pub shaped : Shaped b

pub good : (b : Board) → Sized b → in_shape b ≡ true → Good b
good b s e = record { sized = s; shaped = shaped b s e }

pub sound : (b : Board) → Good b → Sound b
sound b g = record { sized = g.sized; records = g.shaped.records }

whole : (b : Board) → Sound b → ((p : ℕ) → p < 16 → standing b p ≤ 1) → load b ≤ 64 → Good b
whole b h s l = record { sized = h.sized; shaped = record { records = h.records; standing = s; load = l } }

-- ---- a delivery: the number is freed, and the message adds no more than it took away
module _ (b : Board) (n : ℕ) (l : n < 64) where
  delivery_arrives : Sound b → Arrives (freed b n) (delivered b n) (kind_at b n)
  unfolding delivered
  delivery_arrives h = arrives (freed b n) (put_freed b h n l) (kind_at b n) (list_at b n) (h.sized.who n) (h.sized.leads n) (h.records.messages n)

  pub delivered_good : Good b → Good (delivered b n)
  delivered_good g =
      let h = sound b g in
      let a = delivery_arrives h in
      whole (delivered b n) a.sound
      (λ q c. omega (arith, a.standing q, standing_freed b q n l, g.shaped.standing q c))
      (omega (arith, load_delivered b n l (shaped_ranged b g.sized g.shaped.records) g.shaped.records.flying, g.shaped.load))

-- ---- an accepted request or release: the book of its process is written, and it is sent
module _ (b : Board) (h : Sound b) (p o : ℕ) (n : Named b p o) where
  limit : up_to p b.process_count b.object_count ≡ b.object_count
  limit = up_to_is p _ _ n.process

  requested_sound : (m : Mode) → Sound (requested b p o m)
  unfolding requested
  requested_sound m = put_sent _ (put-process b h p _ (asking_shaped (process_at b p) _ o (h.records.processes p) (rw limit n.object) m)) _ (plain_shaped (Request p o m) _ _ (n.process, n.object, no_list_shaped))

  released_sound : Sound (released b p o)
  unfolding released
  released_sound = put_sent _ (put-process b h p _ (dropping_shaped (process_at b p) _ o (h.records.processes p) (rw limit n.object))) _ (plain_shaped (Release p o) _ _ (n.process, n.object, no_list_shaped))

  released_standing : (q : ℕ) → standing (released b p o) q ≤ standing b q
  unfolding released
  released_standing q = let x = dropping (process_at b p) o in omega (arith, standing_send_le (put_process b p x) q (plain (Release p o)) h.sized.flights, standing_process b q p x)

  requested_standing : load b ≤ 62 → (m : Mode) (q : ℕ) → standing (requested b p o m) q ≡ standing b q + pick (eqb p q) 1 0
  unfolding requested load
  requested_standing l m q = let x = asking (process_at b p) o m in standing_send (put_process b p x) q (plain (Request p o m)) h.sized.flights h.records.flying (omega arith) refl ∙ ap (λ (k : ℕ). k + pick (eqb p q) 1 0) (standing_process b q p x)

-- the tests that an accepted command has passed
pub request_load : (b : Board) (p o m : ℕ) → done (answer_to b (Do.Request p o m)) ≡ true → load b ≤ 62
unfolding answer_to
request_load b p o m e =
    let a1 = passed _ NoProcess _ refl e in
    let a2 = passed _ NoObject _ refl a1.1 in
    let a3 = passed _ NoMode _ refl a2.1 in
    let a4 = passed _ ProcessWaits _ refl a3.1 in
    let a5 = passed _ HasReleased _ refl a4.1 in
    let a6 = passed _ HoldsAlready _ refl a5.1 in
    ltb-false 62 (load b) (passed _ LoadTooHigh _ refl a6.1).0

pub release_load : (b : Board) (p o : ℕ) → done (answer_to b (Do.Release p o)) ≡ true → load b ≤ 63
unfolding answer_to
release_load b p o e =
    let a1 = passed _ NoProcess _ refl e in
    let a2 = passed _ NoObject _ refl a1.1 in
    let a3 = passed _ ProcessWaits _ refl a2.1 in
    let a4 = passed _ HoldsNot _ refl a3.1 in
    ltb-false 63 (load b) (passed _ LoadTooHigh _ refl a4.1).0

pub deliver_below : (b : Board) (n : ℕ) → done (answer_to b (Do.Deliver n)) ≡ true → n < 64
unfolding answer_to
deliver_below b n e = ltb-true n 64 (both_left (ltb n 64) (in_flight b n) (not-false _ (passed _ NoMessage _ refl e).0))

-- ---- commands
pub turn_accepted : (b : Board) (c : Command) → (turn b c).answer ≡ Done → done (answer_to b c) ≡ true
unfolding turn
turn_accepted b c e = ap done e

effect_sound : (b : Board) (c : Command) → Sound b → done (answer_to b c) ≡ true → Sound (effect b c)
unfolding effect
effect_sound b (Do.Request p o m) h e = requested_sound b h p o (request_named b p o m e) (mode_of m)
effect_sound b (Do.Release p o) h e = released_sound b h p o (release_named b p o e)
effect_sound b (Do.Deliver n) h e = (delivery_arrives b n (deliver_below b n e) h).sound

pub turn_sound : (b : Board) (c : Command) → Sound b → Sound (turn b c).board
unfolding turn
turn_sound b c h = by_pick Sound (done (answer_to b c)) (effect_sound b c h) (λ e. h)

-- commands one after another
pub after_sound : (b : Board) → Sound b → (s : List ℕ) (i : ℕ) → Sound (board_after b s i)
unfolding board_after
after_sound b h s zero = h
after_sound b h s (suc i) = turn_sound (board_after b s i) (command_at s i) (after_sound b h s i)

pub deliver_good : (b : Board) (n : ℕ) → Good b → Good (turn b (Do.Deliver n)).board
unfolding turn effect
deliver_good b n g = by_pick Good (done (answer_to b (Do.Deliver n))) (λ e. delivered_good b n (deliver_below b n e) g) (λ e. g)

pub release_good : (b : Board) (p o : ℕ) → Good b → Good (turn b (Do.Release p o)).board
unfolding turn effect
release_good b p o g = by_pick Good (done (answer_to b (Do.Release p o))) accepted (λ e. g)
  where
    accepted : done (answer_to b (Do.Release p o)) ≡ true → Good (released b p o)
    accepted e =
        let h = sound b g in
        let n = release_named b p o e in
        let l = release_load b p o e in
        whole (released b p o) (released_sound b h p o n) (λ q a. omega (arith, released_standing b h p o n q, g.shaped.standing q a)) (omega (arith, load_released b p o g.sized.flights h.records.flying l))

pub drain_good : (n : ℕ) (b : Board) → Good b → Good (draining n b).board
unfolding draining
drain_good zero b g = g
drain_good (suc n) b g = go (ltb (lowest_taken b.occupied) 64) refl (λ l. drain_good n (delivered b (lowest_taken b.occupied)) (delivered_good b (lowest_taken b.occupied) l g))
  where
    go : (t : Bool) → ltb (lowest_taken b.occupied) 64 ≡ t → (lowest_taken b.occupied < 64 → Good (draining n (delivered b (lowest_taken b.occupied))).board)
        → Good (elim t as (λ _. Drained) [ true ↦ one_step_more (draining n (delivered b (lowest_taken b.occupied))) | false ↦ record { answer = Done; made = 0; board = b } ]).board
    go true e f = f (ltb-true _ 64 e)
    go false e f = g

pub shape_kept : ShapeKept
shape_kept = record {
  delivery = λ b n s e. tested _ (deliver_good b n (good b s e)).shaped;
  release = λ b p o s e. tested _ (release_good b p o (good b s e)).shaped;
  drain = λ n b s e. tested _ (drain_good n b (good b s e)).shaped;
}

-- ---- an accepted request: in shape exactly where its process stood nowhere
pub turn_done : (b : Board) (c : Command) → (turn b c).answer ≡ Done → (turn b c).board ≡ effect b c
unfolding turn
turn_done b c e = rw e

out_of_shape : (b : Board) (c : Command) → in_shape b ≡ false → (step b c).answer ≡ OutOfShape
unfolding step
out_of_shape b c e = rw e

-- ---- a call on a board changes nothing, or is done
pub data Did (b : Board) (c : Command) : Type 0 where
  refused : (step b c).board ≡ b → Did b c
  accepted : in_shape b ≡ true → done (answer_to b c) ≡ true → (step b c).answer ≡ Done → (step b c).board ≡ effect b c → Did b c

pub did : (b : Board) (c : Command) → Did b c
unfolding step turn
did b c = by_test (in_shape b)
    (λ e. by_test (done (answer_to b c))
    (λ d. accepted e d (rw e (done_is (answer_to b c) d)) (rw (e, d)))
    (λ d. refused (rw (e, d))))
    (λ e. refused (rw e))

module _ (b : Board) (p o m : ℕ) (g : Good b) (e : (turn b (Do.Request p o m)).answer ≡ Done) where
  abbrev new : Board
  new = (turn b (Do.Request p o m)).board

  named : Named b p o
  named = request_named b p o m (turn_accepted b (Do.Request p o m) e)

  room : load b ≤ 62
  room = request_load b p o m (turn_accepted b (Do.Request p o m) e)

  new_is : new ≡ requested b p o (mode_of m)
  unfolding effect
  new_is = turn_done b (Do.Request p o m) e

  new_sound : Sound new
  new_sound = turn_sound b (Do.Request p o m) (sound b g)

  new_standing : (q : ℕ) → standing new q ≡ standing b q + pick (eqb p q) 1 0
  new_standing q = ap (λ (c : Board). standing c q) new_is ∙ requested_standing b (sound b g) p o named room (mode_of m) q

  once_more : standing new p ≡ suc (standing b p)
  once_more = let one = ap (λ (t : Bool). pick {A = ℕ} t 1 0) (eq-eqb p p refl) in omega (arith, new_standing p, one)

  new_load : load new ≤ 64
  new_load = rw new_is (omega (arith, load_requested b p o (mode_of m) g.sized.flights g.shaped.records.flying room, room))

  new_kept : standing b p ≡ 0 → in_shape new ≡ true
  new_kept z = tested new (whole new new_sound at-most new_load).shaped
    where
      at-most : (q : ℕ) → q < 16 → standing new q ≤ 1
      at-most q a = elim (ℕ_discrete p q) [
        | yes y ↦ rw (← y) (omega (arith, once_more))
        | no y ↦ omega (arith, new_standing q, ap (λ (t : Bool). pick {A = ℕ} t 1 0) (ne_eqb p q y), g.shaped.standing q a)
      ]

  new_stood : in_shape new ≡ true → standing b p ≡ 0
  new_stood t = omega (arith, once_more, (shaped new new_sound.sized t).standing p (omega (arith, named.process, g.shaped.records.table.count_of_processes.1)))

  request_said : RequestSaid b p o m
  request_said = record { once = once_more; kept = (new_stood, new_kept); next = λ f c. out_of_shape new c (not_passed (in_shape new) (λ t. f (new_stood t))) }

pub request_kept : RequestKept
request_kept b p o m s e a = request_said b p o m (good b s e) a

-- computed
pub twice_happens : TwiceHappens
unfolding digit taken with_bit free_from lowest_free all sum place_of first_of hold_in put_first send load requested effect answer_to turn holds_fit row_fits different counts_fit process_fits object_fits list_fits no_list message_fits ring_fits standing in_shape step
twice_happens = record { in_shape = refl; accepted = refl; next = refl }
