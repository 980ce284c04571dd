-- Laws of the sets of numbers: what stands in a set after a number is put in or taken out, when two sets are the same, the lowest number
-- in a set and the lowest that is not, and the machine's operations on words of 64 digits. A number is its lowest digit and its half: every
-- law is an induction on the digits. Assumes nothing.
use mathlib.Core.Path.{◌≡◌, refl, sym, ap, ap₂, ◌∙◌}
use mathlib.Core.Bool.{Bool, true, false, not, ◌&&◌}
use mathlib.Core.Logic.{◌≢◌}
use Prim.Native.Nat.{ℕ, zero, suc, ◌+◌, ◌-◌, ◌*◌, ◌/◌, ◌%◌, ◌^◌, ◌≤◌, ◌<◌, min, max}
use native.Mathlib.Nat.{pow-suc, mul_comm, one-mul, zero-add, div-one, suc-add, add-suc, add-zero}
use native.Mathlib.Numerals.{one-add}
use native.Mathlib.Omega.{arith}
use native.Mathlib.Decide.{ℕ_discrete, dec_lt}
use lib.Dec.{eqb, eqb-suc-suc, eqb-suc-zero}
use lib.Pow.{shr-shr, pow-lt, pow_pos, shl_exact}
use lib.Bits.{bit_or, bit_and, or_step, and_step, and_lt, and_mask, or_zero_l, or_add_and, and_le_r}
use lib.Count.{count_trailing_zeros, ones, ones_step}
use borrow.Author.Tests.{eqb-true, eqb-false, eq-eqb, ne_eqb}
use Rattle.rules.specs.Tables.{pick, either, count_of, sum}
use Rattle.rules.specs.Bits.{digit, taken, with_bit, without_bit, marked, free_from, lowest_free, taken_from, lowest_taken}
use Rattle.rules.proofs.Tables.{by_test, true_not_false, sum_front, count_ext}

-- ---- a number by its lowest digit and its half
pub two_pow : (d : ℕ) → 2 ^ suc d ≡ 2 * 2 ^ d
two_pow d = pow-suc 2 d ∙ mul_comm _ _

pub taken_half : (n k : ℕ) → taken (n / 2) k ≡ taken n (suc k)
unfolding taken digit
taken_half n k = ap (λ (x : ℕ). eqb (x % 2) 1) (shr-shr n 1 k ∙ ap (λ (x : ℕ). n / 2 ^ x) (one-add k))

pub taken_low : (n : ℕ) → taken n 0 ≡ eqb (n % 2) 1
unfolding taken digit
taken_low n = ap (λ (x : ℕ). eqb (x % 2) 1) (div-one n)

pub odd_taken : (n : ℕ) → n % 2 ≡ 1 → taken n 0 ≡ true
odd_taken n e = taken_low n ∙ eq-eqb (n % 2) 1 e

pub even_taken : (n : ℕ) → n % 2 ≡ 0 → taken n 0 ≡ false
even_taken n e = taken_low n ∙ ne_eqb (n % 2) 1 (λ z. omega arith)

pub taken_odd : (n : ℕ) → taken n 0 ≡ true → n % 2 ≡ 1
taken_odd n e = eqb-true (n % 2) 1 (sym (taken_low n) ∙ e)

pub taken_even : (n : ℕ) → taken n 0 ≡ false → n % 2 ≡ 0
taken_even n e = below (n % 2) (omega arith) (eqb-false (n % 2) 1 (sym (taken_low n) ∙ e))
  where
    below : (d : ℕ) → d < 2 → (d ≡ 1 → ⊥) → d ≡ 0
    below zero h f = refl
    below (suc zero) h f = absurd (f refl)
    below (suc (suc d)) h f = absurd (omega arith)

low_same : (a b : ℕ) → a % 2 ≡ b % 2 → taken a 0 ≡ taken b 0
low_same a b e = taken_low a ∙ ap (λ (x : ℕ). eqb x 1) e ∙ sym (taken_low b)

half_same : (a b k : ℕ) → a / 2 ≡ b / 2 → taken a (suc k) ≡ taken b (suc k)
half_same a b k e = sym (taken_half a k) ∙ ap (λ (x : ℕ). taken x k) e ∙ taken_half b k

-- the empty set
pub taken_zero : (k : ℕ) → taken 0 k ≡ false
taken_zero zero = even_taken 0 refl
taken_zero (suc k) = sym (taken_half 0 k) ∙ taken_zero k

-- a number of the set stands for its power
pub taken_le : (n k : ℕ) → taken n k ≡ true → 2 ^ k ≤ n
taken_le n zero e = omega (arith, taken_odd n e)
taken_le n (suc k) e = omega (arith, two_pow k, taken_le (n / 2) k (taken_half n k ∙ e))

-- ---- one number put in, or taken out
-- one digit is v then, and the others are as they were
module _ (change : ℕ → ℕ → ℕ) (v : ℕ)
    (low : (n : ℕ) → change n 0 % 2 ≡ v) (rest : (n : ℕ) → change n 0 / 2 ≡ n / 2)
    (low-kept : (n k : ℕ) → change n (suc k) % 2 ≡ n % 2) (rest-kept : (n k : ℕ) → change n (suc k) / 2 ≡ change (n / 2) k) where
  taken_change : (n k j : ℕ) → taken (change n k) j ≡ pick (eqb j k) (eqb v 1) (taken n j)
  taken_change n zero zero = taken_low (change n 0) ∙ ap (λ (x : ℕ). eqb x 1) (low n)
  taken_change n zero (suc j) = rw (ne_eqb (suc j) 0 (λ z. omega arith)) (half_same (change n 0) n j (rest n))
  taken_change n (suc k) zero = rw (ne_eqb 0 (suc k) (λ z. omega arith)) (low_same (change n (suc k)) n (low-kept n k))
  taken_change n (suc k) (suc j) =
      rw eqb-suc-suc (sym (taken_half (change n (suc k)) j) ∙ ap (λ (x : ℕ). taken x j) (rest-kept n k) ∙ taken_change (n / 2) k j ∙ rw taken_half)

with_low : (n : ℕ) → with_bit n 0 % 2 ≡ 1
unfolding with_bit
with_low n = by_test (taken n 0) (λ e. rw e (taken_odd n e)) (λ e. rw e (omega (arith, taken_even n e)))

with_rest : (n : ℕ) → with_bit n 0 / 2 ≡ n / 2
unfolding with_bit
with_rest n = by_test (taken n 0) (λ e. rw e) (λ e. rw e (omega (arith, taken_even n e)))

with_low_kept : (n k : ℕ) → with_bit n (suc k) % 2 ≡ n % 2
unfolding with_bit
with_low_kept n k = by_test (taken n (suc k)) (λ e. rw e) (λ e. rw e (omega (arith, two_pow k)))

with_rest_kept : (n k : ℕ) → with_bit n (suc k) / 2 ≡ with_bit (n / 2) k
unfolding with_bit
with_rest_kept n k = rw taken_half (by_test (taken n (suc k)) (λ e. rw e) (λ e. rw e (omega (arith, two_pow k))))

without_low : (n : ℕ) → without_bit n 0 % 2 ≡ 0
unfolding without_bit
without_low n = by_test (taken n 0) (λ e. rw e (omega (arith, taken_odd n e))) (λ e. rw e (taken_even n e))

without_rest : (n : ℕ) → without_bit n 0 / 2 ≡ n / 2
unfolding without_bit
without_rest n = by_test (taken n 0) (λ e. rw e (omega (arith, taken_odd n e))) (λ e. rw e)

without_low_kept : (n k : ℕ) → without_bit n (suc k) % 2 ≡ n % 2
unfolding without_bit
without_low_kept n k = by_test (taken n (suc k)) (λ e. rw e (omega (arith, two_pow k, taken_le n (suc k) e))) (λ e. rw e)

without_rest_kept : (n k : ℕ) → without_bit n (suc k) / 2 ≡ without_bit (n / 2) k
unfolding without_bit
without_rest_kept n k = rw taken_half (by_test (taken n (suc k)) (λ e. rw e (omega (arith, two_pow k))) (λ e. rw e))

-- what stands in the set with k
pub taken_with : (n k j : ℕ) → taken (with_bit n k) j ≡ pick (eqb j k) true (taken n j)
taken_with = taken_change with_bit 1 with_low with_rest with_low_kept with_rest_kept

pub with_same : (n k : ℕ) → taken (with_bit n k) k ≡ true
with_same n k = taken_with n k k ∙ rw (eq-eqb k k refl)

pub with_other : (n k j : ℕ) → j ≢ k → taken (with_bit n k) j ≡ taken n j
with_other n k j f = taken_with n k j ∙ rw (ne_eqb j k f)

-- what stands in the set without k
pub taken_without : (n k j : ℕ) → taken (without_bit n k) j ≡ pick (eqb j k) false (taken n j)
taken_without = taken_change without_bit 0 without_low without_rest without_low_kept without_rest_kept

pub without_same : (n k : ℕ) → taken (without_bit n k) k ≡ false
without_same n k = taken_without n k k ∙ rw (eq-eqb k k refl)

pub without_other : (n k j : ℕ) → j ≢ k → taken (without_bit n k) j ≡ taken n j
without_other n k j f = taken_without n k j ∙ rw (ne_eqb j k f)

-- what stands in the set with k or without it
pub taken_marked : (n k : ℕ) (t : Bool) (j : ℕ) → taken (marked n k t) j ≡ pick (eqb j k) t (taken n j)
taken_marked n k true j = taken_with n k j
taken_marked n k false j = taken_without n k j

pub marked_same : (n k : ℕ) (t : Bool) → taken (marked n k t) k ≡ t
marked_same n k true = with_same n k
marked_same n k false = without_same n k

pub marked_other : (n k : ℕ) (t : Bool) (j : ℕ) → j ≢ k → taken (marked n k t) j ≡ taken n j
marked_other n k true j f = with_other n k j f
marked_other n k false j f = without_other n k j f

-- ---- sets of numbers below c
pub with_below : (n k c : ℕ) → n < 2 ^ c → k < c → with_bit n k < 2 ^ c
with_below n k zero h l = absurd (omega arith)
with_below n zero (suc c) h l = omega (arith, two_pow c, with_rest n)
with_below n (suc k) (suc c) h l = omega (arith, two_pow c, with_rest_kept n k, with_below (n / 2) k c (omega (arith, two_pow c)) (omega arith))

pub with_ge : (n k : ℕ) → n ≤ with_bit n k
unfolding with_bit
with_ge n k = by_test (taken n k) (λ e. rw e (omega arith)) (λ e. rw e (omega arith))

pub without_le : (n k : ℕ) → without_bit n k ≤ n
unfolding without_bit
without_le n k = by_test (taken n k) (λ e. rw e (omega arith)) (λ e. rw e (omega arith))

pub without_below : (n k c : ℕ) → n < 2 ^ c → without_bit n k < 2 ^ c
without_below n k c h = omega (arith, without_le n k)

pub marked_below : (n k : ℕ) (t : Bool) (c : ℕ) → n < 2 ^ c → k < c → marked n k t < 2 ^ c
marked_below n k true c h l = with_below n k c h l
marked_below n k false c h l = without_below n k c h

-- a set below 2 ^ c has no number at or above c, and conversely
pub taken_above : (n k c : ℕ) → n < 2 ^ c → c ≤ k → taken n k ≡ false
taken_above n k zero h l = ap (λ (x : ℕ). taken x k) (omega arith) ∙ taken_zero k
taken_above n zero (suc c) h l = absurd (omega arith)
taken_above n (suc k) (suc c) h l = sym (taken_half n k) ∙ taken_above (n / 2) k c (omega (arith, two_pow c)) (omega arith)

pub taken_below : (n k c : ℕ) → n < 2 ^ c → taken n k ≡ true → k < c
taken_below n k c h e = elim (dec_lt k c) [ yes l ↦ l | no f ↦ absurd (true_not_false (sym e ∙ taken_above n k c h (omega arith))) ]

-- two sets with the same numbers are the same
digits_same : (a b : ℕ) → taken a 0 ≡ taken b 0 → a % 2 ≡ b % 2
digits_same a b e =
    by_test (taken b 0) (λ z. taken_odd a (e ∙ z) ∙ sym (taken_odd b z)) (λ z. taken_even a (e ∙ z) ∙ sym (taken_even b z))

pub set_ext : (c a b : ℕ) → a < 2 ^ c → b < 2 ^ c → ((k : ℕ) → k < c → taken a k ≡ taken b k) → a ≡ b
set_ext zero a b h l e = omega arith
set_ext (suc c) a b h l e =
    let low : a % 2 ≡ b % 2 = digits_same a b (e 0 (omega arith)) in
    let rest : a / 2 ≡ b / 2 = set_ext c (a / 2) (b / 2) (omega (arith, two_pow c)) (omega (arith, two_pow c)) (λ k z. taken_half a k ∙ e (suc k) (omega arith) ∙ sym (taken_half b k)) in
    omega arith

pub below_own_power : (n : ℕ) → n < 2 ^ n
below_own_power zero = omega arith
below_own_power (suc n) = omega (arith, two_pow n, below_own_power n)

pub set_ext_all : (a b : ℕ) → ((k : ℕ) → taken a k ≡ taken b k) → a ≡ b
set_ext_all a b e =
    set_ext (a + b) a b (wide a (omega arith)) (wide b (omega arith)) (λ k h. e k)
  where
    wide : (x : ℕ) → x ≤ a + b → x < 2 ^ (a + b)
    wide x h = omega (arith, below_own_power (a + b))

pub empty_from : (c n : ℕ) → n < 2 ^ c → ((k : ℕ) → k < c → taken n k ≡ false) → n ≡ 0
empty_from c n h e = set_ext c n 0 h (pow_pos c) (λ k l. e k l ∙ sym (taken_zero k))

pub below_from : (c n : ℕ) → ((k : ℕ) → c ≤ k → taken n k ≡ false) → n < 2 ^ c
below_from zero n e = let z : n ≡ 0 = set_ext_all n 0 (λ k. e k (omega arith) ∙ sym (taken_zero k)) in omega arith
below_from (suc c) n e = omega (arith, two_pow c, below_from c (n / 2) (λ k h. taken_half n k ∙ e (suc k) (omega arith)))

-- ---- the first number of a search
-- the first number from i on, of d numbers, that fails a test: both searches below are this one
first : (ℕ → Bool) → ℕ → ℕ → ℕ
first t zero i = i
first t (suc d) i = elim (t i) [ true ↦ first t d (suc i) | false ↦ i ]

module _ (t : ℕ → Bool) where
  first_here : (d i : ℕ) → t i ≡ false → first t (suc d) i ≡ i
  unfolding first
  first_here d i e = rw (first, e)

  first_later : (d i : ℕ) → t i ≡ true → first t (suc d) i ≡ first t d (suc i)
  unfolding first
  first_later d i e = rw (first, e)

  first_ge : (d i : ℕ) → i ≤ first t d i
  unfolding first
  first_ge zero i = omega arith
  first_ge (suc d) i = by_test (t i) (λ e. omega (arith, first_later d i e, first_ge d (suc i))) (λ e. omega (arith, first_here d i e))

  first_le : (d i : ℕ) → first t d i ≤ i + d
  unfolding first
  first_le zero i = omega arith
  first_le (suc d) i = by_test (t i) (λ e. omega (arith, first_later d i e, first_le d (suc i))) (λ e. omega (arith, first_here d i e))

  first_fails : (d i : ℕ) → first t d i < i + d → t (first t d i) ≡ false
  unfolding first
  first_fails zero i h = absurd (omega arith)
  first_fails (suc d) i h =
      by_test (t i) (λ e. rw (first_later d i e) (first_fails d (suc i) (omega (arith, first_later d i e)))) (λ e. rw (first_here d i e) e)

  first_before : (d i j : ℕ) → i ≤ j → j < first t d i → t j ≡ true
  unfolding first
  first_before zero i j l h = absurd (omega arith)
  first_before (suc d) i j l h = by_test (t i)
      (λ e. elim (ℕ_discrete i j) [ yes z ↦ rw (sym z) e | no f ↦ first_before d (suc i) j (omega arith) (omega (arith, first_later d i e)) ])
      (λ e. absurd (omega (arith, first_here d i e)))

  -- counting the zeros below the lowest digit of m is the same search, where m has the numbers that fail
  first_zeros : (d i m : ℕ) → ((k : ℕ) → k < d → taken m k ≡ not (t (i + k))) → first t d i ≡ i + count_trailing_zeros d m
  unfolding first count_trailing_zeros
  first_zeros zero i m e = omega arith
  first_zeros (suc d) i m e =
      let here : taken m 0 ≡ not (t i) = e 0 (omega arith) ∙ rw add-zero in
      let later : (k : ℕ) → k < d → taken (m / 2) k ≡ not (t (suc i + k)) = λ k h. taken_half m k ∙ e (suc k) (omega arith) ∙ rw (add-suc, suc-add) in
      by_test (t i)
      (λ z. let w : m % 2 ≡ 0 = taken_even m (here ∙ ap not z) in first_later d i z ∙ first_zeros d (suc i) (m / 2) later ∙ rw w (omega arith))
      (λ z. let w : m % 2 ≡ 1 = taken_odd m (here ∙ ap not z) in first_here d i z ∙ rw w (omega arith))

free_first : (n d i : ℕ) → free_from n d i ≡ first (taken n) d i
unfolding free_from first
free_first n zero i = refl
free_first n (suc d) i = by_test (taken n i) (λ e. rw (free_from, e, first_later (taken n) d i e) (free_first n d (suc i))) (λ e. rw (free_from, e, first_here (taken n) d i e))

abbrev missing : ℕ → ℕ → Bool
missing n k = not (taken n k)

taken_first : (n d i : ℕ) → taken_from n d i ≡ first (missing n) d i
unfolding taken_from first
taken_first n zero i = refl
taken_first n (suc d) i = by_test (taken n i) (λ e. rw (taken_from, e, first_here (missing n) d i (ap not e))) (λ e. rw (taken_from, e, first_later (missing n) d i (ap not e)) (taken_first n d (suc i)))

not_not : (t : Bool) → not (not t) ≡ t
not_not true = refl
not_not false = refl

-- the lowest free number: it is free, every smaller one is taken, and it is 64 only where all 64 are taken
free_is : (n : ℕ) → lowest_free n ≡ first (taken n) 64 0
unfolding lowest_free
free_is n = free_first n 64 0

pub lowest_free_le : (n : ℕ) → lowest_free n ≤ 64
lowest_free_le n = rw free_is (first_le (taken n) 64 0)

pub lowest-free : (n : ℕ) → lowest_free n < 64 → taken n (lowest_free n) ≡ false
lowest-free n h = rw free_is (first_fails (taken n) 64 0 (rw free_is at h))

pub lowest_free_before : (n j : ℕ) → j < lowest_free n → taken n j ≡ true
lowest_free_before n j h = first_before (taken n) 64 0 j (omega arith) (rw free_is at h)

pub lowest_free_none : (n : ℕ) → lowest_free n ≡ 64 → (j : ℕ) → j < 64 → taken n j ≡ true
lowest_free_none n e j h = lowest_free_before n j (omega arith)

pub lowest_free_some : (n j : ℕ) → j < 64 → taken n j ≡ false → lowest_free n ≤ j
lowest_free_some n j h e = elim (dec_lt j (lowest_free n)) [
  | yes l ↦ absurd (true_not_false (sym (lowest_free_before n j l) ∙ e))
  | no f ↦ omega arith
]

-- the lowest taken number: it is taken, every smaller one is free, and it is 64 only where none of the 64 is taken
taken_is : (n : ℕ) → lowest_taken n ≡ first (missing n) 64 0
unfolding lowest_taken
taken_is n = taken_first n 64 0

pub lowest_taken_le : (n : ℕ) → lowest_taken n ≤ 64
lowest_taken_le n = rw taken_is (first_le (missing n) 64 0)

pub lowest-taken : (n : ℕ) → lowest_taken n < 64 → taken n (lowest_taken n) ≡ true
lowest-taken n h = rw taken_is (sym (not_not _) ∙ ap not (first_fails (missing n) 64 0 (rw taken_is at h)))

pub lowest_taken_before : (n j : ℕ) → j < lowest_taken n → taken n j ≡ false
lowest_taken_before n j h = sym (not_not _) ∙ ap not (first_before (missing n) 64 0 j (omega arith) (rw taken_is at h))

pub lowest_taken_none : (n : ℕ) → lowest_taken n ≡ 64 → (j : ℕ) → j < 64 → taken n j ≡ false
lowest_taken_none n e j h = lowest_taken_before n j (omega arith)

pub lowest_taken_some : (n j : ℕ) → j < 64 → taken n j ≡ true → lowest_taken n ≤ j
lowest_taken_some n j h e = elim (dec_lt j (lowest_taken n)) [
  | yes l ↦ absurd (true_not_false (sym e ∙ lowest_taken_before n j l))
  | no f ↦ omega arith
]

pub lowest_taken_below : (n : ℕ) → n < 2 ^ 64 → n ≢ 0 → lowest_taken n < 64
lowest_taken_below n h f = elim (dec_lt (lowest_taken n) 64) [
  | yes l ↦ l
  | no g ↦ absurd (f (empty_from 64 n h (lowest_taken_none n (omega (arith, lowest_taken_le n)))))
]

-- ---- the machine's operations
-- a word's complement has the numbers that the word has not; x stands for 2 ^ c
low_not : (x a : ℕ) → a < 2 * x → ((2 * x - 1) - a) % 2 ≡ 1 - a % 2
low_not x a h = omega arith

rest_not : (x a : ℕ) → a < 2 * x → ((2 * x - 1) - a) / 2 ≡ (x - 1) - a / 2
rest_not x a h = omega arith

pub taken_not : (c a k : ℕ) → a < 2 ^ c → k < c → taken ((2 ^ c - 1) - a) k ≡ not (taken a k)
taken_not zero a k h l = absurd (omega arith)
taken_not (suc c) a zero h l =
    let e : ((2 ^ suc c - 1) - a) % 2 ≡ 1 - a % 2 = rw two_pow (low_not (2 ^ c) a (rw two_pow at h)) in
    by_test (taken a 0)
    (λ z. even_taken ((2 ^ suc c - 1) - a) (omega (arith, taken_odd a z)) ∙ sym (ap not z))
    (λ z. odd_taken ((2 ^ suc c - 1) - a) (omega (arith, taken_even a z)) ∙ sym (ap not z))
taken_not (suc c) a (suc k) h l =
    let e : ((2 ^ suc c - 1) - a) / 2 ≡ (2 ^ c - 1) - a / 2 = rw two_pow (rest_not (2 ^ c) a (rw two_pow at h)) in
    sym (taken_half ((2 ^ suc c - 1) - a) k) ∙ ap (λ (x : ℕ). taken x k) e ∙ taken_not c (a / 2) k (omega (arith, two_pow c)) (omega arith) ∙ ap not (taken_half a k)

digit_pick : (a : ℕ) → a % 2 ≡ pick (taken a 0) 1 0
digit_pick a = by_test (taken a 0) (λ z. rw z (taken_odd a z)) (λ z. rw z (taken_even a z))

-- `a | b` has the numbers of either, `a & b` those of both
module _ (op : ℕ → ℕ → ℕ) (f : ℕ → ℕ → ℕ) (g : Bool → Bool → Bool)
    (step : (a b : ℕ) → op a b ≡ op (a / 2) (b / 2) * 2 + f (a % 2) (b % 2))
    (agrees : (x y : Bool) → f (pick x 1 0) (pick y 1 0) ≡ pick (g x y) 1 0) where
  small : (x : Bool) → pick x 1 0 < 2
  small true = omega arith
  small false = omega arith

  op_digit : (a b : ℕ) → f (a % 2) (b % 2) ≡ pick (g (taken a 0) (taken b 0)) 1 0
  op_digit a b = ap₂ f (digit_pick a) (digit_pick b) ∙ agrees (taken a 0) (taken b 0)

  op_low : (a b : ℕ) → op a b % 2 ≡ pick (g (taken a 0) (taken b 0)) 1 0
  op_low a b = ap (λ (x : ℕ). x % 2) (step a b ∙ ap (λ (x : ℕ). op (a / 2) (b / 2) * 2 + x) (op_digit a b)) ∙ omega (arith, small (g (taken a 0) (taken b 0)))

  op_rest : (a b : ℕ) → op a b / 2 ≡ op (a / 2) (b / 2)
  op_rest a b = ap (λ (x : ℕ). x / 2) (step a b ∙ ap (λ (x : ℕ). op (a / 2) (b / 2) * 2 + x) (op_digit a b)) ∙ omega (arith, small (g (taken a 0) (taken b 0)))

  from_digit : (x : Bool) (n : ℕ) → n % 2 ≡ pick x 1 0 → taken n 0 ≡ x
  from_digit true n e = odd_taken n e
  from_digit false n e = even_taken n e

  taken_op : (a b k : ℕ) → taken (op a b) k ≡ g (taken a k) (taken b k)
  taken_op a b zero = from_digit (g (taken a 0) (taken b 0)) (op a b) (op_low a b)
  taken_op a b (suc k) =
      sym (taken_half (op a b) k) ∙ ap (λ (x : ℕ). taken x k) (op_rest a b) ∙ taken_op (a / 2) (b / 2) k ∙ ap₂ g (taken_half a k) (taken_half b k)

or_agrees : (x y : Bool) → max (pick x 1 0) (pick y 1 0) ≡ pick (either x y) 1 0
or_agrees true true = refl
or_agrees true false = refl
or_agrees false true = refl
or_agrees false false = refl

and_agrees : (x y : Bool) → min (pick x 1 0) (pick y 1 0) ≡ pick (x && y) 1 0
and_agrees true true = refl
and_agrees true false = refl
and_agrees false true = refl
and_agrees false false = refl

pub taken_or : (a b k : ℕ) → taken (bit_or a b) k ≡ either (taken a k) (taken b k)
taken_or = taken_op bit_or max either or_step or_agrees

pub taken_and : (a b k : ℕ) → taken (bit_and a b) k ≡ taken a k && taken b k
taken_and = taken_op bit_and min (λ x y. x && y) and_step and_agrees

-- two sets put together are empty where both are
pub or_none : (a b : ℕ) → eqb (bit_or a b) 0 ≡ eqb a 0 && eqb b 0
or_none zero b = rw or_zero_l
or_none (suc a) b =
    rw (ne_eqb (bit_or (suc a) b) 0 (λ z. omega (arith, z, or_add_and (suc a) b, and_le_r (suc a) b)), eqb-suc-zero)

-- the set of one number
pub with_empty : (k : ℕ) → with_bit 0 k ≡ 2 ^ k
unfolding with_bit
with_empty k = rw (taken_zero k) (zero-add (2 ^ k))

pub taken_pow : (k j : ℕ) → taken (2 ^ k) j ≡ eqb j k
taken_pow k j = ap (λ (x : ℕ). taken x j) (sym (with_empty k)) ∙ taken_with 0 k j ∙ rw (taken_zero j) (self (eqb j k))
  where
    self : (t : Bool) → pick t true false ≡ t
    self true = refl
    self false = refl

-- `n | (1 << k)`
pub with_or : (n k : ℕ) → with_bit n k ≡ bit_or n (2 ^ k)
with_or n k = set_ext_all (with_bit n k) (bit_or n (2 ^ k)) (λ j. taken_with n k j ∙ swap (eqb j k) (taken n j) ∙ sym (taken_or n (2 ^ k) j ∙ rw taken_pow))
  where
    swap : (x y : Bool) → pick x true y ≡ either y x
    swap true true = refl
    swap true false = refl
    swap false true = refl
    swap false false = refl

pub one_shl : (k : ℕ) → k < 64 → (1 * 2 ^ k) % 2 ^ 64 ≡ 2 ^ k
one_shl k h = shl_exact 1 k 64 (omega arith) (omega arith) ∙ one-mul (2 ^ k)

pub with_word : (n k : ℕ) → k < 64 → bit_or n ((1 * 2 ^ k) % 2 ^ 64) ≡ with_bit n k
with_word n k h = ap (bit_or n) (one_shl k h) ∙ sym (with_or n k)

-- `n & !(1 << k)`
pub without_and : (c n k : ℕ) → n < 2 ^ c → k < c → without_bit n k ≡ bit_and n ((2 ^ c - 1) - 2 ^ k)
without_and c n k h l =
    set_ext c (without_bit n k) (bit_and n ((2 ^ c - 1) - 2 ^ k)) (without_below n k c h) (and_lt c n ((2 ^ c - 1) - 2 ^ k) h (omega (arith, pow_pos c)))
    (λ j z. taken_without n k j ∙ swap (eqb j k) (taken n j) ∙ sym (taken_and n ((2 ^ c - 1) - 2 ^ k) j ∙ rw (taken_not c (2 ^ k) j (pow-lt l) z, taken_pow)))
  where
    swap : (x y : Bool) → pick x false y ≡ y && not x
    swap true true = refl
    swap true false = refl
    swap false true = refl
    swap false false = refl

pub without_word : (n k : ℕ) → n < 2 ^ 64 → k < 64 → bit_and n ((2 ^ 64 - 1) - (1 * 2 ^ k) % 2 ^ 64) ≡ without_bit n k
without_word n k h l = ap (λ (x : ℕ). bit_and n ((2 ^ 64 - 1) - x)) (one_shl k l) ∙ sym (without_and 64 n k h l)

-- `(n >> k) & 1`
pub taken_word : (n k : ℕ) → taken n k ≡ eqb (bit_and (n / 2 ^ k) 1) 1
unfolding taken digit
taken_word n k = ap (λ (x : ℕ). eqb x 1) (sym (and_mask (n / 2 ^ k) 1))

-- `n & (1 << k)`
pub and_one : (n k : ℕ) → bit_and n (2 ^ k) ≡ pick (taken n k) (2 ^ k) 0
and_one n k = set_ext_all (bit_and n (2 ^ k)) (pick (taken n k) (2 ^ k) 0) (λ j. taken_and n (2 ^ k) j ∙ rw taken_pow (go j (taken n k) refl))
  where
    stays : (x y : Bool) → (y ≡ true → x ≡ true) → x && y ≡ y
    stays true y f = refl
    stays false true f = f refl
    stays false false f = refl

    goes : (x y : Bool) → (y ≡ true → x ≡ false) → x && y ≡ false
    goes true true f = f refl
    goes true false f = refl
    goes false y f = refl

    go : (j : ℕ) (t : Bool) → taken n k ≡ t → taken n j && eqb j k ≡ taken (pick t (2 ^ k) 0) j
    go j true e = rw taken_pow (stays (taken n j) (eqb j k) (λ z. rw (eqb-true j k z) e))
    go j false e = rw taken_zero (goes (taken n j) (eqb j k) (λ z. rw (eqb-true j k z) e))

-- `n.trailing_zeros()` and `(!n).trailing_zeros()`
pub lowest_taken_word : (n : ℕ) → lowest_taken n ≡ count_trailing_zeros 64 n
lowest_taken_word n = taken_is n ∙ first_zeros (missing n) 64 0 n (λ k h. sym (not_not (taken n k)) ∙ rw zero-add) ∙ zero-add (count_trailing_zeros 64 n)

pub lowest_free_word : (n : ℕ) → n < 2 ^ 64 → lowest_free n ≡ count_trailing_zeros 64 ((2 ^ 64 - 1) - n)
lowest_free_word n l = free_is n ∙ first_zeros (taken n) 64 0 ((2 ^ 64 - 1) - n) (λ k h. taken_not 64 n k l h ∙ rw zero-add) ∙ zero-add (count_trailing_zeros 64 ((2 ^ 64 - 1) - n))

-- `n.count_ones()`
pub ones_count : (c n : ℕ) → n < 2 ^ c → ones n ≡ count_of c (taken n)
unfolding ones sum
ones_count zero n h = let e : n ≡ 0 = omega arith in ap ones e
ones_count (suc c) n h =
    let rest : ones (n / 2) ≡ count_of c (λ k. taken n (suc k)) = ones_count c (n / 2) (omega (arith, two_pow c)) ∙ count_ext c (taken (n / 2)) (λ k. taken n (suc k)) (λ k l. taken_half n k) in
    omega (arith, ones_step n, digit_pick n, sum_front c (λ k. pick (taken n k) 1 0))
