-- The test of who waits for whom is the relation of the rules: what it says is a wait on every board, and on a board in shape it says all
-- of them.
use mathlib.Core.Path.{◌≡◌, refl, ap, ◌∙◌}
use mathlib.Core.Bool.{Bool, true}
use mathlib.Core.Option.{some, none}
use Prim.Native.Nat.{ℕ, ◌≤◌, ◌<◌, ◌^◌}
use native.Mathlib.Omega.{arith}
use native.Mathlib.Decide.{dec_lt}
use lib.Dec.{eqb, ltb}
use lib.ListN.{length, get_or-eq_default}
use borrow.Author.Tests.{eqb-true, eq-eqb, ltb-true, lt-ltb}
use Rattle.rules.specs.declared.Mode.{Mode}
use Rattle.rules.specs.declared.Object.{Object}
use Rattle.rules.specs.declared.Board.{Board}
use Rattle.rules.specs.Bits.{taken}
use Rattle.rules.specs.Book.{hold_in, who_at, mode_at, waited_for}
use Rattle.rules.specs.Board.{no_object, object_at}
use Rattle.rules.specs.Shape.{up_to}
use Rattle.rules.specs.Ranges.{Ranged}
use Rattle.rules.specs.Waits.{Stands, Waits, holder, ahead}
use Rattle.rules.proofs.Bits.{taken_below}
use Rattle.rules.proofs.Tables.{both, both_left, both_right, among_is, is_among, by_test, rows_at}
use Rattle.rules.proofs.Book.{listed_waits, waits_listed}
use Rattle.laws.specs.Shape.{Shaped}
use Rattle.search.specs.Numbers.{first, set_of}
use Rattle.search.specs.Waiting.{waits_at, waits_in, waits_for, arcs, arc}
use Rattle.search.specs.Ways.{shortest, ring_through}
use Rattle.search.proofs.Numbers.{first_passes, any_is, is_any, taken_inside}
use Rattle.search.proofs.Ways.{shortest_ext}

module _ (b : Board) (p q : ℕ) where
  at_place : (o k : ℕ) → waits_at (object_at b o) p q k ≡ true → Waits b p q
  at_place o k e =
      let x = object_at b o in
      let f = both_right (ltb k x.line_count) _ e in
      let who : who_at x k ≡ p = eqb-true (who_at x k) p (both_left (eqb (who_at x k) p) _ f) in
      listed_waits b p q (record {
        object = o;
        place = k;
        mode = mode_at x k;
        stands = record { inside = ltb-true k x.line_count (both_left (ltb k x.line_count) _ e); who = who; mode = refl };
        among = among_is q (waited_for x p (mode_at x k) k) (both_right (eqb (who_at x k) p) _ f);
      })

  -- on every board
  pub waits_real : waits_for b p q ≡ true → Waits b p q
  unfolding waits_for waits_in
  waits_real e =
      let t : ℕ → Bool = λ o. waits_in (object_at b o) p q in
      let o = first 16 t in
      let f : waits_in (object_at b o) p q ≡ true = first_passes 16 t (any_is 16 t e) in
      at_place o (first 16 (waits_at (object_at b o) p q)) (first_passes 16 (waits_at (object_at b o) p q) (any_is 16 (waits_at (object_at b o) p q) f))

  -- objects past the last have no line
  object_inside : (o k : ℕ) (m : Mode) → length b.objects ≡ 16 → Stands b o k p m → o < 16
  object_inside o k m size s = elim (dec_lt o 16) [
    | yes h ↦ h
    | no h ↦
        let e : object_at b o ≡ no_object = get_or-eq_default b.objects no_object {n = o} (omega arith) in
        absurd (omega (arith, s.inside, ap (λ (x : Object). x.line_count) e))
  ]

  -- on a board whose lines are in range
  pub waits_told : Ranged b → q < 16 → Waits b p q → waits_for b p q ≡ true
  unfolding waits_for waits_in
  waits_told r h v =
      let l = waits_listed b p q h v in
      let x = object_at b l.object in
      let k = l.place in
      is_any 16 (λ o. waits_in (object_at b o) p q) l.object (object_inside l.object k l.mode r.objects l.stands)
      (is_any 16 (waits_at x p q) k (omega (arith, l.stands.inside, (r.lines l.object).count))
      (both _ _ (lt-ltb k x.line_count l.stands.inside) (both _ _ (eq-eqb (who_at x k) p l.stands.who) (is_among q (waited_for x p (mode_at x k) k) (rw l.stands.mode l.among)))))

  pub waiter_small : Ranged b → Waits b p q → p < 16
  waiter_small r (holder o k m n f s e c) = rw (← s.who) ((r.lines o).who k)
  waiter_small r (ahead o k j m n f s l t c) = rw (← s.who) ((r.lines o).who k)

-- ---- the test and the sets say the same
arc_is : (b : Board) (x q : ℕ) → x < 16 → q < 16 → arc (arcs b) x q ≡ waits_for b x q
unfolding arcs
arc_is b x q h l = ap (λ (s : ℕ). taken s q) (rows_at 16 (λ p. set_of 16 (waits_for b p)) x 0 h) ∙ taken_inside 16 (waits_for b x) q l

-- so the same ring is found along either
pub along_arcs : (b : Board) (p : ℕ) → shortest (arc (arcs b)) p ≡ ring_through b p
along_arcs b = shortest_ext (arc (arcs b)) (waits_for b) (arc_is b)

-- ---- a board in shape
hold_inside : (s x c q : ℕ) (n : Mode) → s < 2 ^ c → x < 2 ^ c → hold_in s x q ≡ some n → q < c
unfolding hold_in
hold_inside s x c q n h g e = by_test (taken x q) (λ z. taken_below x q c g z) (λ z. by_test (taken s q) (λ y. taken_below s q c h y) (λ y. absurd (never (rw (z, y) at e))))
  where
    never : none ≡ some n → ⊥
    never z = let w : ◌≡◌ {A = ℕ} 0 1 = cc in omega arith

pub awaited_small : (b : Board) → Ranged b → Shaped b → (p q : ℕ) → Waits b p q → q < 16
awaited_small b r h p q (holder o k m n f s e c) =
    let x = object_at b o in
    let hs = (h.records.objects o).holders in
    omega (arith, hold_inside x.shared x.exclusive (up_to o b.object_count b.process_count) q n hs.shared hs.exclusive e, small o)
  where
    small : (o : ℕ) → up_to o b.object_count b.process_count ≤ 16
    small o = by_test (ltb o b.object_count) (λ z. rw z r.count_of_processes) (λ z. rw z (omega arith))
awaited_small b r h p q (ahead o k j m n f s l t c) = rw (← t.who) ((r.lines o).who j)
