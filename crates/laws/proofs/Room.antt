-- A delivery is never short of room: one message finds the number that was freed, and the grants of a release are as many as have left
-- the line, so that the load, which counts both, stays below 64 until the last is sent. Nor is a line: the process of a request that
-- arrives stands in none, and nobody stands twice.
use mathlib.Core.Path.{◌≡◌, refl, ap, sym, ◌∙◌, subst}
use mathlib.Core.Logic.{◌≢◌}
use mathlib.Core.Bool.{true}
use mathlib.Core.List.{List, [], ◌∷◌, map}
use Prim.Native.Nat.{ℕ, ◌+◌, ◌≤◌, ◌<◌}
use native.Mathlib.Omega.{arith}
use native.Mathlib.Decide.{dec_lt}
use lib.Dec.{eqb}
use lib.ListN.{length}
use borrow.Author.Tests.{eq-eqb, eqb-false}
use Rattle.rules.specs.declared.Mode.{Mode}
use Rattle.rules.specs.declared.Kind.{Kind}
use Rattle.rules.specs.declared.Kind.TheVariants.{Free, Request, Grant, Release, ListToHome, ListToObject}
use Rattle.rules.specs.declared.Entries.{Entries}
use Rattle.rules.specs.declared.Object.{Object}
use Rattle.rules.specs.declared.Ring.{Ring}
use Rattle.rules.specs.declared.Board.{Board}
use Rattle.rules.specs.declared.Command.TheVariants as Do
use Rattle.rules.specs.Bits.{lowest_free, without_bit}
use Rattle.rules.specs.Book.{who_at, release_arrives}
use Rattle.rules.specs.Lists.{plain, starter_of}
use Rattle.rules.specs.Board.{object_at, put_object, kind_at, list_at, freed, send, kind_load, load}
use Rattle.rules.specs.Commands.{recording}
use Rattle.rules.specs.Shape.{request_of, standing, in_shape}
use Rattle.rules.proofs.Tables.{sum_at, count_positive, count_none, count_one, different_numbers}
use Rattle.rules.proofs.Bits.{without_same, lowest_free_some}
use Rattle.rules.proofs.Load.{room_below, load_freed, load_send_le}
use Rattle.laws.specs.Shape.{Sized, KindShaped}
use Rattle.laws.specs.Local.{sends, finds, sent, acted, Room, RoomEnough}
use Rattle.laws.proofs.Tables.{by_pick}
use Rattle.laws.proofs.Grants.{GrantsBelow}
use Rattle.laws.proofs.Shape.{shaped_ranged}
use Rattle.laws.proofs.Standing.{stands}
use Rattle.laws.proofs.Records.{Sound, put_freed, grant_sent, grants_left, object_left}
use Rattle.laws.proofs.Kept.{after_release, Good, good, sound, settled_sound, settled_below, settled_load, request_load, release_load, turn_accepted}
use Rattle.laws.proofs.Local.{written, acted_is}

grants_room : (gs : List (ℕ × Mode)) (b : Board) (o : ℕ) → Sound b → o < b.object_count → GrantsBelow b.process_count gs → load b + length gs ≤ 64 → Room b (map (λ g. plain (Grant g.0 o g.1)) gs)
grants_room [] b o h lo g l = tt
grants_room (x ∷ gs) b o h lo g l = (
  room_below b h.records.flying (omega arith),
  grants_room gs (send b (plain (Grant x.0 o x.1))) o (grant_sent b h o x.0 x.1 lo g.0) (object_left b h o x.0 x.1 lo g.0) (grants_left b h o x.0 x.1 lo g.0 gs g.1)
      (omega (arith, load_send_le b h.sized.flights h.records.flying (plain (Grant x.0 o x.1)))),
)

module _ (b : Board) (n : ℕ) (h : Sound b) (l : load b ≤ 64) (below : n < 64) where
  freed_number : lowest_free (without_bit b.occupied n) < 64
  freed_number = omega (arith, lowest_free_some (without_bit b.occupied n) n below (without_same b.occupied n))

  recorded_number : (s : ℕ) (r : Ring) → lowest_free (recording (freed b n) s r).occupied < 64
  unfolding recording
  recorded_number s r = by_pick (λ (c : Board). lowest_free c.occupied < 64) (eqb r.count 0) (λ e. freed_number) (λ e. freed_number)

  room_by : (k : Kind) (ls : Entries) → KindShaped k ls b.process_count b.object_count → load (freed b n) + kind_load k ≡ load b → Room (recording (written k ls (freed b n)) (starter_of ls) (finds k ls b)) (sends k ls b)
  unfolding recording release_arrives
  room_by Free ls g e = tt
  room_by (Request p o m) ls g e = (freed_number, tt)
  room_by (Grant p o m) ls g e = tt
  room_by (Release p o) ls g e =
      let f = put_freed b h n below in
      let r = after_release b p o in
      grants_room r.grants (put_object (freed b n) o r.object) o (settled_sound (freed b n) f p o g.1) g.1 (settled_below (freed b n) f p o g.1) (omega (arith, settled_load (freed b n) f p o g.1))
  room_by ListToHome ls g e = (freed_number, tt)
  room_by (ListToObject o) ls g e = (recorded_number (starter_of ls) (finds (ListToObject o) ls b), tt)

delivery_room : (b : Board) (n : ℕ) → Sized b → in_shape b ≡ true → n < 64 → Room (acted b n) (sent b n)
delivery_room b n s e l =
    let g = good b s e in
    let h = sound b g in
    subst (λ (c : Board). Room c (sent b n)) (sym (acted_is b n)) (room_by b n h g.shaped.load l (kind_at b n) (list_at b n) (h.records.messages n) (load_freed b n l))

-- ---- the line at which a request arrives
module _ (b : Board) (g : Good b) (n p o : ℕ) (m : Mode) (below : n < 64) (here : kind_at b n ≡ Request p o m) where
  abbrev ob : Object
  ob = object_at b o

  asker : p < 16
  asker = omega (arith, (subst (λ (k : Kind). KindShaped k (list_at b n) b.process_count b.object_count) here (g.shaped.records.messages n)).0, g.shaped.records.table.count_of_processes.1)

  least : o < 16
  least = omega (arith, (subst (λ (k : Kind). KindShaped k (list_at b n) b.process_count b.object_count) here (g.shaped.records.messages n)).1, g.shaped.records.table.count_of_objects.1)

  -- the request is the one place where its process stands
  pub not_in : (k : ℕ) → k < ob.line_count → who_at ob k ≢ p
  unfolding standing
  not_in k h = eqb-false _ _ (count_none ob.line_count (λ j. eqb (who_at ob j) p) (omega (
    arith,
    g.shaped.standing p asker,
    count_positive 64 (λ i. request_of p (kind_at b i)) n below (ap (request_of p) here ∙ eq-eqb p p refl),
    sum_at 16 (λ u. stands p (object_at b u)) o least,
  )) k h)

  -- nobody stands twice, so there is room
  pub room_in : ob.line_count < 16
  unfolding standing
  room_in = elim (dec_lt ob.line_count 16) [
    | yes h ↦ h
    | no h ↦ let r = different_numbers 16 (who_at ob) (λ k _. small k) (λ j k a d. apart j k (omega arith) (omega arith)) p asker in absurd (not_in r.0 (omega arith) r.2)
  ]
    where
      small : (k : ℕ) → who_at ob k < 16
      small = ((shaped_ranged b g.sized g.shaped.records).lines o).who

      apart : (j k : ℕ) → j < ob.line_count → k < ob.line_count → who_at ob j ≡ who_at ob k → j ≡ k
      apart j k a d e = count_one ob.line_count (λ i. eqb (who_at ob i) (who_at ob k)) (omega (arith, g.shaped.standing (who_at ob k) (small k), sum_at 16 (λ u. stands (who_at ob k) (object_at b u)) o least)) j k a d (eq-eqb _ _ e) (eq-eqb (who_at ob k) (who_at ob k) refl)

pub room_enough : RoomEnough
room_enough = record {
  delivery = λ b n s e l f. delivery_room b n s e l;
  request = λ b p o m s e a. room_below b (good b s e).shaped.records.flying (omega (arith, request_load b p o m (turn_accepted b (Do.Request p o m) a)));
  release = λ b p o s e a. room_below b (good b s e).shaped.records.flying (omega (arith, release_load b p o (turn_accepted b (Do.Release p o) a)));
  line = λ b n p o m s e. room_in b (good b s e) n p o m;
}
