-- Those that a process waits for, as a list takes them up: holders by their set, then those ahead; and what an object's home makes of a list.
use Rattle.std.proofs.Common.{◌≡◌, refl, sym, ap, ◌∙◌, Bool, true, false, not, ◌&&◌, ℕ, ◌+◌, ◌-◌, ◌^◌, ◌<◌, ◌≤◌, arith, ltb, bit_or, bit_and, length}
use borrow.Author.Tests.{lt-ltb, le-ltb, ltb-false, not-true, not-false}
use Rattle.rules.specs.declared.Mode.{Mode}
use Rattle.rules.specs.declared.Entries.{Entries}
use Rattle.rules.specs.declared.Object.{Object}
use Rattle.rules.specs.Tables.{rows, collect, among}
use Rattle.rules.specs.Bits.{taken, with_bit}
use Rattle.rules.specs.Book.{mode_at, waited_for}
use Rattle.rules.specs.Lists.{starter_of, asked_of, listed, add_all, with_next, starter}
use Rattle.rules.proofs.Bits.{taken_with, taken_zero, taken_or, taken_and, taken_not, taken_above, below_from}
use Rattle.rules.proofs.Tables.{both_left, both_right}
use Rattle.objects.specs.Sets.{SetOf}
use Rattle.lists.specs.Sets.{Marks, Fresh}
use Rattle.lists.specs.Onwards.{closes, grown}
use Rattle.objects.proofs.Holds.{set_inside, set_passes, set_at, set_among}
use Rattle.lists.proofs.Gathering.{eqb_swap, listed_all, add_new}

-- ---- those of a set who are not marked: `s & !marks`
abbrev pub unmarked : ℕ → ℕ → ℕ
unmarked s marks = bit_and s ((2 ^ 64 - 1) - marks)

module _ (l : Entries) (lead : ℕ) (t : ℕ → Bool) (marks s : ℕ) (size : length l.who ≡ 16) (fits : marks < 2 ^ 64) (m : Marks l marks) (h : SetOf t s) where
  has : (k : ℕ) → k < 64 → taken (unmarked s marks) k ≡ taken s k && not (taken marks k)
  has k z = taken_and s ((2 ^ 64 - 1) - marks) k ∙ ap (λ (x : Bool). taken s k && x) (taken_not 64 marks k fits z)

  in_set : (k : ℕ) → taken (unmarked s marks) k ≡ true → taken s k ≡ true
  in_set k e = both_left (taken s k) (taken ((2 ^ 64 - 1) - marks) k) (sym (taken_and s ((2 ^ 64 - 1) - marks) k) ∙ e)

  below_16 : unmarked s marks < 2 ^ 16
  below_16 = below_from 16 (unmarked s marks) (λ k z. taken_and s ((2 ^ 64 - 1) - marks) k ∙ rw (taken_above s k 16 h.below z))

  pub unmarked_fresh : Fresh l (unmarked s marks)
  unmarked_fresh = record {
    below = below_16;
    unlisted = λ k e.
        let z : k < 16 = set_inside t s h k (in_set k e) in
        let y : k < 64 = omega arith in
        sym (m.has k y) ∙ not-true (taken marks k) (both_right (taken s k) (not (taken marks k)) (sym (has k y) ∙ e));
  }

  -- leaving out those who are marked adds the same
  pub unmarked_added : add_all l lead (collect (taken (unmarked s marks)) (λ q. q) 16) ≡ add_all l lead (collect t (λ q. q) 16)
  unmarked_added = sym (add_new t (taken (unmarked s marks)) (λ q. q) l lead 16 (λ k z e. set_passes t s h k (in_set k e)) left_out)
    where
      left_out : (k : ℕ) → k < 16 → t k ≡ true → taken (unmarked s marks) k ≡ false → listed l k ≡ true
      left_out k z e f =
          let y : k < 64 = omega arith in
          let g : taken s k && not (taken marks k) ≡ false = sym (has k y) ∙ f in
          sym (m.has k y) ∙ not-false (taken marks k) (rw (set_at t s h k z ∙ e) at g)

  -- and then the marks are those and the set
  pub unmarked_marks : (x : Entries) → x ≡ add_all l lead (collect (taken (unmarked s marks)) (λ q. q) 16) → x.count < 16 → Marks x (bit_or marks (unmarked s marks))
  unmarked_marks x e z = record {
    has = λ k y. taken_or marks (unmarked s marks) k ∙ rw (m.has k y, set_among (taken (unmarked s marks)) (unmarked s marks) self k) (sym (rw e (listed_all l lead (collect (taken (unmarked s marks)) (λ q. q) 16) k size (rw e at z))));
  }
    where
      keeps : (k : ℕ) (b : Bool) → ltb k 16 ≡ b → taken (unmarked s marks) k ≡ b && taken (unmarked s marks) k
      keeps k true f = refl
      keeps k false f = taken_above (unmarked s marks) k 16 below_16 (omega (arith, ltb-false k 16 f))

      self : SetOf (taken (unmarked s marks)) (unmarked s marks)
      self = record { below = below_16; has = λ k. keeps k (ltb k 16) refl }

-- ---- a list is started
pub starter_marks : (p : ℕ) → Marks (starter p) (with_bit 0 p)
unfolding listed rows among
starter_marks p = record { has = λ k z. taken_with 0 p k ∙ rw (taken_zero k, eqb_swap k p) }

-- ---- a list arrives at an object: p is asked, and m is its mode at place k of the line
module _ (l : Entries) (o : Object) (p k : ℕ) (m : Mode) (is-p : p ≡ asked_of l) (is_m : m ≡ mode_at o k) (inside : k < o.line_count) where
  pub closes_inside : among (starter_of l) (waited_for o p m k) ≡ closes l o k
  closes_inside = rw (is-p, is_m, lt-ltb k o.line_count inside)

  pub grown_inside : (b : Object) (j : ℕ) → b ≡ o → j ≡ k → (x : Entries) → x ≡ add_all l l.next (waited_for b p m j) → with_next x (l.next + 1) ≡ grown l o k
  grown_inside b j is-b is-j x is_x = rw (is_x, is-b, is-j, is-p, is_m, lt-ltb k o.line_count inside)

-- a process that does not stand in the line adds nobody
pub grown_outside : (l : Entries) (o : Object) (k : ℕ) → o.line_count ≤ k → with_next l (l.next + 1) ≡ grown l o k
grown_outside l o k h = rw (le-ltb k o.line_count h)
