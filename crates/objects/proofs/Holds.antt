-- Holders as sets: a word of 64 digits with the holders in conflict is the rules' test, process by process.
use Rattle.std.proofs.Common.{◌≡◌, refl, sym, ap, ◌∙◌, ◌≢◌, Bool, true, false, not, ◌&&◌, ℕ, ◌-◌, ◌%◌, ◌^◌, ◌<◌, arith, eqb, ltb, [], pow_pos, bit_or, eq-eqb, ne_eqb, lt-ltb, le-ltb, ltb-true}
use mathlib.Core.Option.{some, none}
use native.Mathlib.Decide.{dec_lt, ℕ_discrete}
use lib.Bits.{and_mask}
use Rattle.rules.specs.declared.Mode.{Mode}
use Rattle.rules.specs.declared.Mode.TheVariants.{Shared, Exclusive}
use Rattle.rules.specs.declared.Object.{Object}
use Rattle.rules.specs.Tables.{pick, either, collect, nobody, among}
use Rattle.rules.specs.Bits.{taken, without_bit, lowest_taken}
use Rattle.rules.specs.Book.{is_exclusive, hold_in, against, rival, rivals, clear}
use Rattle.rules.proofs.Bits.{taken_and, taken_or, taken_not, taken_above, taken_zero, taken_without, without_below, lowest-taken, lowest_taken_below}
use Rattle.rules.proofs.Tables.{true_not_false, by_test, same_test, both_left, both_right, among_is, is_among, Collected, collected, collects, collect_none, nobody_is}
use Rattle.objects.specs.Sets.{SetOf}

-- ---- the digits below c alone: `n % 2 ^ c`
taken_ones : (c k : ℕ) → taken (2 ^ c - 1) k ≡ ltb k c
taken_ones c k = elim (dec_lt k c) [
  | yes l ↦
      let z : 2 ^ c - 1 ≡ (2 ^ c - 1) - 0 = omega arith in
      ap (λ (x : ℕ). taken x k) z ∙ taken_not c 0 k (pow_pos c) l ∙ ap not (taken_zero k) ∙ sym (lt-ltb k c l)
  | no f ↦ taken_above (2 ^ c - 1) k c (omega (arith, pow_pos c)) (omega arith) ∙ sym (le-ltb k c (omega arith))
]

pub taken_mod : (n c k : ℕ) → taken (n % 2 ^ c) k ≡ ltb k c && taken n k
taken_mod n c k =
    ap (λ (x : ℕ). taken x k) (sym (and_mask n c)) ∙ taken_and n (2 ^ c - 1) k ∙ rw (taken_ones c k) (swap (taken n k) (ltb k c))
  where
    swap : (s t : Bool) → s && t ≡ t && s
    swap true true = refl
    swap true false = refl
    swap false true = refl
    swap false false = refl

-- ---- those who hold in conflict
exclusive_conflict : (e l s x : Bool) → pick e false (l && either s x) ≡ (l && (not e && against Exclusive (pick x (some Exclusive) (pick s (some Shared) none))))
exclusive_conflict true true s x = refl
exclusive_conflict true false s x = refl
exclusive_conflict false false s x = refl
exclusive_conflict false true true true = refl
exclusive_conflict false true true false = refl
exclusive_conflict false true false true = refl
exclusive_conflict false true false false = refl

shared_conflict : (e l s x : Bool) → pick e false (l && x) ≡ (l && (not e && against Shared (pick x (some Exclusive) (pick s (some Shared) none))))
shared_conflict true true s x = refl
shared_conflict true false s x = refl
shared_conflict false false s x = refl
shared_conflict false true true true = refl
shared_conflict false true true false = refl
shared_conflict false true false true = refl
shared_conflict false true false false = refl

small : (n : ℕ) → n % 65536 < 2 ^ 16
small n = omega arith

-- the set without process p of those who hold in conflict with it
pub exclusive_rivals : (o : Object) (p : ℕ) (m : Mode) → is_exclusive m ≡ true → SetOf (rival o p m) (without_bit (bit_or o.shared o.exclusive % 65536) p)
unfolding rival hold_in
exclusive_rivals o p Shared e = absurd (true_not_false (sym e))
exclusive_rivals o p Exclusive e = record {
  below = without_below (bit_or o.shared o.exclusive % 65536) p 16 (small (bit_or o.shared o.exclusive));
  has = λ k. taken_without (bit_or o.shared o.exclusive % 65536) p k ∙ rw (taken_mod (bit_or o.shared o.exclusive) 16 k, taken_or o.shared o.exclusive k) (exclusive_conflict (eqb k p) (ltb k 16) (taken o.shared k) (taken o.exclusive k));
}

pub shared_rivals : (o : Object) (p : ℕ) (m : Mode) → is_exclusive m ≡ false → SetOf (rival o p m) (without_bit (o.exclusive % 65536) p)
unfolding rival hold_in
shared_rivals o p Exclusive e = absurd (true_not_false e)
shared_rivals o p Shared e = record {
  below = without_below (o.exclusive % 65536) p 16 (small o.exclusive);
  has = λ k. taken_without (o.exclusive % 65536) p k ∙ rw (taken_mod o.exclusive 16 k) (shared_conflict (eqb k p) (ltb k 16) (taken o.shared k) (taken o.exclusive k));
}

-- ---- a set of those who pass a test
module _ (t : ℕ → Bool) (s : ℕ) (h : SetOf t s) where
  pub set_inside : (k : ℕ) → taken s k ≡ true → k < 16
  set_inside k e = ltb-true k 16 (both_left (ltb k 16) (t k) (sym (h.has k) ∙ e))

  pub set_passes : (k : ℕ) → taken s k ≡ true → t k ≡ true
  set_passes k e = both_right (ltb k 16) (t k) (sym (h.has k) ∙ e)

  pub set_at : (k : ℕ) → k < 16 → taken s k ≡ t k
  set_at k l = h.has k ∙ rw (lt-ltb k 16 l)

  pub set_among : (k : ℕ) → taken s k ≡ among k (collect t (λ q. q) 16)
  set_among k = same_test (taken s k) (among k (collect t (λ q. q) 16))
      (λ e. is_among k (collect t (λ q. q) 16) (collects t (λ q. q) 16 k (record { place = k; inside = set_inside k e; passes = set_passes k e; is = refl })))
      (λ e. found (collected t (λ q. q) 16 k (among_is k (collect t (λ q. q) 16) e)))
    where
      found : Collected t (λ q. q) 16 k → taken s k ≡ true
      found f = ap (taken s) (sym f.is) ∙ set_at f.place f.inside ∙ f.passes

  pub set_empty : eqb s 0 ≡ nobody (collect t (λ q. q) 16)
  unfolding among
  set_empty = elim (ℕ_discrete s 0) [
    | yes z ↦ eq-eqb s 0 z ∙ sym (ap nobody (collect_none t (λ q. q) 16 (λ k l. sym (set_at k l) ∙ ap (λ (x : ℕ). taken x k) z ∙ taken_zero k)))
    | no z ↦ ne_eqb s 0 z ∙ sym (by_test (nobody (collect t (λ q. q) 16)) (λ e. absurd (nobody_there z (nobody_is (collect t (λ q. q) 16) e))) (λ e. e))
  ]
    where
      nobody_there : s ≢ 0 → collect t (λ q. q) 16 ≡ [] → ⊥
      nobody_there z e =
          let l : lowest_taken s < 64 = lowest_taken_below s (omega (arith, h.below)) z in
          true_not_false (sym (lowest-taken s l) ∙ set_among (lowest_taken s) ∙ ap (among (lowest_taken s)) e)

pub clear_empty : (o : Object) (p : ℕ) (m : Mode) (s : ℕ) → SetOf (rival o p m) s → eqb s 0 ≡ clear o p m
unfolding clear rivals
clear_empty o p m s h = set_empty (rival o p m) s h
