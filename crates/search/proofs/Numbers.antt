-- Laws of the first number that passes a test, and of the set of those that do.
use mathlib.Core.Path.{◌≡◌, refl, sym, ap, ap₂, ◌∙◌}
use mathlib.Core.Logic.{⊎_elim}
use mathlib.Core.Bool.{Bool, true, false, ◌&&◌}
use Prim.Native.Nat.{ℕ, zero, suc, ◌^◌, ◌≤◌, ◌<◌}
use native.Mathlib.Omega.{arith}
use native.Mathlib.Decide.{ℕ_discrete, dec_lt}
use lib.Dec.{eqb, ltb}
use borrow.Author.Tests.{eq-eqb, ne_eqb, lt-ltb, le-ltb, ltb-true}
use Rattle.rules.specs.Tables.{pick, either, place_of}
use Rattle.rules.specs.Bits.{taken, marked}
use Rattle.rules.proofs.Bits.{taken_zero, taken_marked, below_from}
use Rattle.rules.proofs.Tables.{same_test, either_cases, either_left, either_right, not_passed, true_not_false, place_is, place_before, place_first, place_none, place_some, place_ext}
use Rattle.search.specs.Numbers.{first, any, set_of}

-- a test as a number
passed : (t : Bool) → ◌≡◌ {A = ℕ} (pick t 1 0) 1 → t ≡ true
passed true e = refl
passed false e = absurd (omega arith)

passes : (t : Bool) → t ≡ true → ◌≡◌ {A = ℕ} (pick t 1 0) 1
passes t e = rw e

fails : (t : Bool) → t ≡ false → ◌≡◌ {A = ℕ} (pick t 1 0) 1 → ⊥
fails true e = absurd (true_not_false e)
fails false e = λ z. omega arith

module _ (n : ℕ) (t : ℕ → Bool) where
  pub first_passes : first n t < n → t (first n t) ≡ true
  first_passes h = passed (t (first n t)) (place_is 1 n (λ k. pick (t k) 1 0) h)

  pub first_before : (j : ℕ) → j < first n t → t j ≡ false
  first_before j h = not_passed (t j) (λ e. place_before 1 n (λ k. pick (t k) 1 0) j h (passes (t j) e))

  pub first_is : (k : ℕ) → k < n → ((j : ℕ) → j < k → t j ≡ false) → t k ≡ true → first n t ≡ k
  first_is k h f e = place_first 1 n (λ k. pick (t k) 1 0) k h (λ j l. fails (t j) (f j l)) (passes (t k) e)

  pub first_none : ((k : ℕ) → k < n → t k ≡ false) → first n t ≡ n
  first_none f = place_none 1 n (λ k. pick (t k) 1 0) (λ k l. fails (t k) (f k l))

  pub first_some : (k : ℕ) → k < n → t k ≡ true → first n t ≤ k
  first_some k h e = place_some 1 n (λ k. pick (t k) 1 0) k h (passes (t k) e)

  pub any_is : any n t ≡ true → first n t < n
  any_is e = ltb-true (first n t) n e

  pub is_any : (k : ℕ) → k < n → t k ≡ true → any n t ≡ true
  is_any k h e = lt-ltb (first n t) n (omega (arith, first_some k h e))

pub first_ext : (n : ℕ) (t u : ℕ → Bool) → ((k : ℕ) → k < n → t k ≡ u k) → first n t ≡ first n u
first_ext n t u e = place_ext 1 n (λ k. pick (t k) 1 0) (λ k. pick (u k) 1 0) (λ k h. ap (λ (b : Bool). pick b 1 0) (e k h))

pub any_ext : (n : ℕ) (t u : ℕ → Bool) → ((k : ℕ) → k < n → t k ≡ u k) → any n t ≡ any n u
any_ext n t u e = ap (λ (k : ℕ). ltb k n) (first_ext n t u e)

pub any_none : (t : ℕ → Bool) → any 0 t ≡ false
unfolding place_of
any_none t = refl

-- the last number apart
pub any_last : (n : ℕ) (t : ℕ → Bool) → any (suc n) t ≡ either (any n t) (t n)
any_last n t = same_test (any (suc n) t) (either (any n t) (t n)) (λ e. there (first (suc n) t) (any_is (suc n) t e) (first_passes (suc n) t (any_is (suc n) t e))) (λ e. ⊎_elim
    (λ z. is_any (suc n) t (first n t) (omega (arith, any_is n t z)) (first_passes n t (any_is n t z)))
    (λ z. is_any (suc n) t n (omega arith) z)
    (either_cases (any n t) (t n) e))
  where
    there : (k : ℕ) → k < suc n → t k ≡ true → either (any n t) (t n) ≡ true
    there k h e = elim (ℕ_discrete k n) [
      | yes z ↦ either_right (any n t) (t n) (ap t (sym z) ∙ e)
      | no z ↦ either_left (any n t) (t n) (is_any n t k (omega arith) e)
    ]

-- ---- the set of those that pass
last_apart : (n : ℕ) (t : ℕ → Bool) (k : ℕ) → pick (eqb k n) (t n) (ltb k n && t k) ≡ ltb k (suc n) && t k
last_apart n t k = elim (ℕ_discrete k n) [
  | yes z ↦ rw (eq-eqb k n z, lt-ltb k (suc n) (omega arith)) (ap t (sym z))
  | no z ↦ rw (ne_eqb k n z) (elim (dec_lt k n) [
    | yes h ↦ rw (lt-ltb k n h, lt-ltb k (suc n) (omega arith))
    | no h ↦ rw (le-ltb k n (omega arith), le-ltb k (suc n) (omega arith))
  ])
]

pub taken_set : (n : ℕ) (t : ℕ → Bool) (k : ℕ) → taken (set_of n t) k ≡ ltb k n && t k
unfolding set_of
taken_set zero t k = taken_zero k ∙ rw (le-ltb k 0 (omega arith))
taken_set (suc n) t k = taken_marked (set_of n t) n (t n) k ∙ rw (taken_set n t k) (last_apart n t k)

pub taken_inside : (n : ℕ) (t : ℕ → Bool) (k : ℕ) → k < n → taken (set_of n t) k ≡ t k
taken_inside n t k h = taken_set n t k ∙ rw (lt-ltb k n h)

pub set_below : (n : ℕ) (t : ℕ → Bool) → set_of n t < 2 ^ n
set_below n t = below_from n (set_of n t) (λ k h. taken_set n t k ∙ rw (le-ltb k n h))

pub set_same : (n : ℕ) (t u : ℕ → Bool) → ((k : ℕ) → k < n → t k ≡ u k) → set_of n t ≡ set_of n u
unfolding set_of
set_same zero t u e = refl
set_same (suc n) t u e = ap₂ (λ (s : ℕ) (x : Bool). marked s n x) (set_same n t u (λ k h. e k (omega arith))) (e n (omega arith))

pub set_next : (n : ℕ) (t : ℕ → Bool) → set_of (suc n) t ≡ marked (set_of n t) n (t n)
unfolding set_of
set_next n t = refl
