-- Sums over k numbers: term by term they compare, a part is at most the whole, a positive sum has a positive part.
use mathlib.Core.Path.{◌≡◌, refl, ap, sym, ◌∙◌}
use mathlib.Core.Logic.{◌≢◌, ite, if_pos, if_neg}
use mathlib.Core.Option.{Option, none, some}
use Prim.Native.Nat.{ℕ, zero, suc, ◌+◌, ◌*◌, ◌≤◌, ◌<◌}
use native.Mathlib.Nat.{mul-add}
use native.Mathlib.Omega.{arith}
use native.Mathlib.Decide.{ℕ_discrete}
use Rattle.model.specs.Tables.{put}
use Rattle.model.specs.Totals.{sum_to, weight_of}
use Rattle.model.proofs.Tables.{put_same, put_other}

pub sum_ext : (k : ℕ) (f g : ℕ → ℕ) → ((i : ℕ) → i < k → f i ≡ g i) → sum_to k f ≡ sum_to k g
unfolding sum_to
sum_ext zero f g e = refl
sum_ext (suc k) f g e = omega (arith, sum_ext k f g (λ i h. e i (omega arith)), e k (omega arith))

pub sum_scale : (c k : ℕ) (f g : ℕ → ℕ) → ((i : ℕ) → i < k → f i ≤ c * g i) → sum_to k f ≤ c * sum_to k g
unfolding sum_to
sum_scale c zero f g e = omega arith
sum_scale c (suc k) f g e = omega (arith, sum_scale c k f g (λ i h. e i (omega arith)), e k (omega arith), mul-add c (sum_to k g) (g k))

pub sum_le : (k : ℕ) (f g : ℕ → ℕ) → ((i : ℕ) → i < k → f i ≤ g i) → sum_to k f ≤ sum_to k g
sum_le k f g e = omega (arith, sum_scale 1 k f g (λ i h. omega (arith, e i h)))

pub sum_zero : (k : ℕ) (f : ℕ → ℕ) → ((i : ℕ) → f i ≡ 0) → sum_to k f ≡ 0
unfolding sum_to
sum_zero zero f e = refl
sum_zero (suc k) f e = omega (arith, sum_zero k f e, e k)

pub sum_one : (k : ℕ) → sum_to k (λ _. 1) ≡ k
unfolding sum_to
sum_one zero = refl
sum_one (suc k) = omega (arith, sum_one k)

pub sum_add : (k : ℕ) (f g : ℕ → ℕ) → sum_to k (λ i. f i + g i) ≡ sum_to k f + sum_to k g
unfolding sum_to
sum_add zero f g = omega arith
sum_add (suc k) f g = omega (arith, sum_add k f g)

pub sum_at : (k : ℕ) (f : ℕ → ℕ) (j : ℕ) → j < k → f j ≤ sum_to k f
unfolding sum_to
sum_at zero f j h = absurd (omega arith)
sum_at (suc k) f j h = elim (ℕ_discrete j k) [
  | yes e ↦ rw e (omega arith)
  | no n ↦ omega (arith, sum_at k f j (omega arith))
]

pub sum_positive : (k : ℕ) (f : ℕ → ℕ) → 1 ≤ sum_to k f → (i : ℕ) × (i < k) × (1 ≤ f i)
unfolding sum_to
sum_positive zero f h = absurd (omega arith)
sum_positive (suc k) f h = elim (ℕ_discrete (f k) 0) [
  | yes e ↦ let r = sum_positive k f (omega arith) in (r.0, omega arith, r.2)
  | no n ↦ (k, omega arith, omega arith)
]

-- k numbers whose sum is below k are not all positive
pub sum_below : (k : ℕ) (f : ℕ → ℕ) → sum_to k f < k → (j : ℕ) × (j < k) × (f j ≡ 0)
unfolding sum_to
sum_below zero f h = absurd (omega arith)
sum_below (suc k) f h = elim (ℕ_discrete (f k) 0) [
  | yes e ↦ (k, omega arith, e)
  | no n ↦ let r = sum_below k f (omega arith) in (r.0, omega arith, r.2)
]

-- a table changed at one place
module _ {A : Type 0} (w : A → ℕ) (f : ℕ → A) (j : ℕ) (x : A) where
  pub sum_put : (k : ℕ) → j < k → sum_to k (λ i. w (put f j x i)) + w (f j) ≡ sum_to k (λ i. w (f i)) + w x
  unfolding sum_to
  sum_put zero h = absurd (omega arith)
  sum_put (suc k) h = elim (ℕ_discrete k j) [
    | yes e ↦ omega (arith, sum_ext k (λ i. w (put f j x i)) (λ i. w (f i)) (λ i h. ap w (put_other f j i x (omega arith))), ap w (put_same f j k x e), ap w (ap f e))
    | no n ↦ omega (arith, sum_put k (omega arith), ap w (put_other f j k x n))
  ]

-- ---- counting: 1 where two numbers are the same, where two pairs are, where there is something
unfoldable pub same : ℕ → ℕ → ℕ
same a b = ite (ℕ_discrete a b) 1 0

pub same_yes : (a b : ℕ) → a ≡ b → same a b ≡ 1
unfolding same
same_yes a b e = if_pos (ℕ_discrete a b) e 1 0

pub same_no : (a b : ℕ) → a ≢ b → same a b ≡ 0
unfolding same
same_no a b e = if_neg (ℕ_discrete a b) e 1 0

pub sum_same : (k x : ℕ) → x < k → sum_to k (same x) ≡ 1
unfolding sum_to
sum_same zero x h = absurd (omega arith)
sum_same (suc k) x h = elim (ℕ_discrete x k) [
  | yes e ↦ omega (arith, same_yes x k e, beyond k (omega arith))
  | no n ↦ omega (arith, same_no x k n, sum_same k x (omega arith))
]
  where
    beyond : (k : ℕ) → k ≤ x → sum_to k (same x) ≡ 0
    beyond k h = sum_ext k (same x) (λ _. 0) (λ i l. same_no x i (omega arith)) ∙ sum_zero k (λ _. 0) (λ _. refl)

unfoldable pub same_pair : ℕ → ℕ → ℕ → ℕ → ℕ
same_pair p o q u = ite (ℕ_discrete p q) (same o u) 0

pub same_pair_left : (p o q u : ℕ) → o ≡ u → same_pair p o q u ≡ same p q
unfolding same_pair same
same_pair_left p o q u e = elim (ℕ_discrete p q) [
  | yes z ↦ if_pos (ℕ_discrete p q) z (same o u) 0 ∙ same_yes o u e ∙ sym (if_pos (ℕ_discrete p q) z 1 0)
  | no n ↦ if_neg (ℕ_discrete p q) n (same o u) 0 ∙ sym (if_neg (ℕ_discrete p q) n 1 0)
]

pub same_pair_yes : (p o q u : ℕ) → p ≡ q → o ≡ u → same_pair p o q u ≡ 1
same_pair_yes p o q u e f = same_pair_left p o q u f ∙ same_yes p q e

pub same_pair_no : (p o q u : ℕ) → (q ≡ p → u ≡ o → ⊥) → same_pair p o q u ≡ 0
unfolding same_pair
same_pair_no p o q u f = elim (ℕ_discrete p q) [
  | yes e ↦ if_pos (ℕ_discrete p q) e (same o u) 0 ∙ same_no o u (λ z. f (sym e) (sym z))
  | no n ↦ if_neg (ℕ_discrete p q) n (same o u) 0
]

pub same_pair_equal : (p o q u : ℕ) → 1 ≤ same_pair p o q u → (p ≡ q) × (o ≡ u)
same_pair_equal p o q u h = elim (ℕ_discrete p q) [
  | yes e ↦ (elim (ℕ_discrete o u) [ yes z ↦ (e, z) | no n ↦ absurd (omega (arith, same_pair_no p o q u (λ _ z. n (sym z)))) ])
  | no n ↦ absurd (omega (arith, same_pair_no p o q u (λ z _. n (sym z))))
]

abbrev pub one : {A : Type 0} → Option A → ℕ
one x = weight_of (λ _. 1) x

pub one_le : {A : Type 0} (x : Option A) → one x ≤ 1
one_le none = omega arith
one_le (some a) = omega arith

pub one_none : {A : Type 0} (x : Option A) → one x ≡ 0 → x ≡ none
one_none none e = refl
one_none (some a) e = absurd (omega arith)
