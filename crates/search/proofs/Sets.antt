-- Sets of processes as the code gathers them: one with another, one process more, and the set of a test.
use mathlib.Core.Path.{◌≡◌, refl, sym, ap, ap₂, ◌∙◌}
use mathlib.Core.Bool.{Bool, true, false, ◌&&◌, and-false}
use mathlib.Core.List.{List, [], ◌∷◌}
use Prim.Native.Nat.{ℕ, suc, ◌≤◌, ◌<◌}
use native.Mathlib.Omega.{arith}
use lib.Dec.{eqb, ltb}
use lib.Bits.{bit_or}
use borrow.Author.Tests.{lt-ltb, le-ltb, ltb-true, ltb-false, eqb-true, eq-eqb, ne_eqb}
use Rattle.rules.specs.declared.Mode.{Mode}
use Rattle.rules.specs.declared.Object.{Object}
use Rattle.rules.specs.Tables.{pick, either, collect, among}
use Rattle.rules.specs.Bits.{taken, with_bit}
use Rattle.rules.specs.Book.{rival, rivals, bars, ahead, who_at, mode_at, waited_for}
use Rattle.rules.proofs.Bits.{taken_zero, taken_or, taken_with, taken_above, with_below, below_from, set_ext_all}
use Rattle.rules.proofs.Tables.{by_test, same_test, among_append, collect_last}
use Rattle.objects.specs.Sets.{SetOf}
use Rattle.objects.proofs.Holds.{set_among}
use Rattle.search.specs.Numbers.{any, set_of}
use Rattle.search.specs.Waiting.{waits_at}
use Rattle.search.proofs.Numbers.{any_none, any_last, taken_set}

-- a set below 65536 has no number past 15
pub set_by : (t : ℕ → Bool) (s : ℕ) → s < 65536 → ((k : ℕ) → k < 16 → taken s k ≡ t k) → SetOf t s
set_by t s h e = record {
  below = h;
  has = λ k. by_test (ltb k 16) (λ z. rw z (e k (ltb-true k 16 z))) (λ z. rw z (taken_above s k 16 h (ltb-false k 16 z)));
}

module _ (t : ℕ → Bool) (s : ℕ) (h : SetOf t s) where
  pub set_inside : (k : ℕ) → k < 16 → taken s k ≡ t k
  set_inside k l = h.has k ∙ rw (lt-ltb k 16 l)

  pub set-of : s ≡ set_of 16 t
  set-of = set_ext_all s (set_of 16 t) (λ k. h.has k ∙ sym (taken_set 16 t k))

  -- by another test that says the same
  pub set_as : (u : ℕ → Bool) → ((k : ℕ) → k < 16 → t k ≡ u k) → SetOf u s
  set_as u e = set_by u s h.below (λ k l. set_inside k l ∙ e k l)

  -- with another set
  pub set_or : (u : ℕ → Bool) (r : ℕ) → SetOf u r → SetOf (λ k. either (t k) (u k)) (bit_or s r)
  set_or u r g = set_by (λ k. either (t k) (u k)) (bit_or s r)
      (below_from 16 (bit_or s r) (λ k l. taken_or s r k ∙ ap₂ either (taken_above s k 16 h.below l) (taken_above r k 16 g.below l)))
      (λ k l. taken_or s r k ∙ ap₂ either (set_inside k l) (g.has k ∙ rw (lt-ltb k 16 l)))

pub set_none : (t : ℕ → Bool) → ((k : ℕ) → t k ≡ false) → SetOf t 0
set_none t e = set_by t 0 (omega arith) (λ k l. taken_zero k ∙ sym (e k))

-- ---- a line, one place more
either_in : (a b c : Bool) → either a (either b c) ≡ either (either a b) c
either_in true b c = refl
either_in false b c = refl

either_false : (a b : Bool) → b ≡ false → a ≡ either a b
either_false true b e = refl
either_false false b e = sym e

one_among : (b : Bool) (x q : ℕ) → among q (pick b (x ∷ []) []) ≡ b && eqb x q
unfolding among
one_among false x q = refl
one_among true x q = by_test (eqb x q) (λ z. rw z) (λ z. rw z)

eqb_swap : (a b : ℕ) → eqb a b ≡ eqb b a
eqb_swap a b = same_test (eqb a b) (eqb b a) (λ e. eq-eqb b a (sym (eqb-true a b e))) (λ e. eq-eqb a b (sym (eqb-true b a e)))

module _ (o : Object) (p : ℕ) (m : Mode) where
  -- those that p waits for at a place
  abbrev pub waited_at : ℕ → ℕ → Bool
  waited_at k q = among q (waited_for o p m k)

  pub waited_first : (s : ℕ) → SetOf (rival o p m) s → SetOf (waited_at 0) s
  unfolding waited_for rivals ahead collect among
  waited_first s h = set_by (waited_at 0) s h.below (λ k l. set_among (rival o p m) s h k ∙ sym (among_append k (rivals o p m) [] ∙ either_none (among k (rivals o p m))))
    where
      either_none : (b : Bool) → either b false ≡ b
      either_none true = refl
      either_none false = refl

  waited_next : (j q : ℕ) → waited_at (suc j) q ≡ either (waited_at j q) (bars o p m j && eqb (who_at o j) q)
  unfolding waited_for ahead
  waited_next j q =
      let r = rivals o p m in
      let front = collect (bars o p m) (who_at o) j in
      let one = pick (bars o p m j) (who_at o j ∷ []) [] in
      among_append q r (collect (bars o p m) (who_at o) (suc j))
      ∙ ap (λ (l : List ℕ). either (among q r) (among q l)) (collect_last (bars o p m) (who_at o) j)
      ∙ ap (either (among q r)) (among_append q front one ∙ ap (either (among q front)) (one_among (bars o p m j) (who_at o j) q))
      ∙ either_in (among q r) (among q front) (bars o p m j && eqb (who_at o j) q)
      ∙ ap (λ (x : Bool). either x (bars o p m j && eqb (who_at o j) q)) (sym (among_append q r front))

  module _ (j s : ℕ) (h : SetOf (waited_at j) s) where
    -- nobody more, where one of the two tests fails
    pub waited_past : 16 ≤ who_at o j → SetOf (waited_at (suc j)) s
    waited_past g = set_as (waited_at j) s h (waited_at (suc j)) (λ k l.
        either_false (waited_at j k) _ (rw (ne_eqb (who_at o j) k (λ z. omega arith)) (and-false (bars o p m j))) ∙ sym (waited_next j k))

    pub waited_clear : bars o p m j ≡ false → SetOf (waited_at (suc j)) s
    waited_clear e = set_as (waited_at j) s h (waited_at (suc j)) (λ k l. either_false (waited_at j k) _ (rw e) ∙ sym (waited_next j k))

    pub waited_more : (x : ℕ) → who_at o j ≡ x → x < 16 → bars o p m j ≡ true → SetOf (waited_at (suc j)) (with_bit s x)
    waited_more x w l e = set_by (waited_at (suc j)) (with_bit s x) (with_below s x 16 h.below l) (λ k z.
        taken_with s x k ∙ ap (pick (eqb k x) true) (set_inside (waited_at j) s h k z) ∙ pick_either (eqb k x) (waited_at j k)
        ∙ ap (either (waited_at j k)) (eqb_swap k x) ∙ rw (sym w) (sym (waited_next j k ∙ rw e)))
      where
        pick_either : (a b : Bool) → pick a true b ≡ either b a
        pick_either true true = refl
        pick_either true false = refl
        pick_either false true = refl
        pick_either false false = refl

-- ---- places, one more: t k is the test at place k
module _ (t : ℕ → ℕ → Bool) where
  pub gathered_none : SetOf (λ q. any 0 (λ k. t k q)) 0
  gathered_none = set_none (λ q. any 0 (λ k. t k q)) (λ q. any_none (λ k. t k q))

  module _ (k s : ℕ) (h : SetOf (λ q. any k (λ i. t i q)) s) where
    pub gathered_pass : ((q : ℕ) → t k q ≡ false) → SetOf (λ q. any (suc k) (λ i. t i q)) s
    gathered_pass e = set_as (λ q. any k (λ i. t i q)) s h _ (λ q l. either_false _ _ (e q) ∙ sym (any_last k (λ i. t i q)))

    pub gathered_more : (r : ℕ) → SetOf (t k) r → SetOf (λ q. any (suc k) (λ i. t i q)) (bit_or s r)
    gathered_more r g = set_as _ (bit_or s r) (set_or (λ q. any k (λ i. t i q)) s h (t k) r g) _ (λ q l. sym (any_last k (λ i. t i q)))

-- ---- p at a place of a line
module _ (o : Object) (p k : ℕ) where
  pub stands_past : o.line_count ≤ k → (q : ℕ) → waits_at o p q k ≡ false
  stands_past h q = rw (le-ltb k o.line_count h)

  pub stands_other : (who_at o k ≡ p → ⊥) → (q : ℕ) → waits_at o p q k ≡ false
  stands_other h q = rw (ne_eqb (who_at o k) p h) (and-false (ltb k o.line_count))

  pub stands_here : (s : ℕ) → k < o.line_count → who_at o k ≡ p → SetOf (waited_at o p (mode_at o k) k) s → SetOf (λ q. waits_at o p q k) s
  stands_here s h e g = set_as _ s g _ (λ q l. rw (lt-ltb k o.line_count h, eq-eqb (who_at o k) p e))
