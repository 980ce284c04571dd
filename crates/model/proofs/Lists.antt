-- Lists of numbers: membership by place, what `fresh` takes, and the pigeonhole: different numbers below k are at most k.
use mathlib.Core.Path.{◌≡◌, refl}
use mathlib.Core.Logic.{◌⊎◌, inl, inr, ⊎_elim, ◌≢◌}
use mathlib.Core.List.{List, [], ◌∷◌, ◌++◌}
use Prim.Native.Nat.{ℕ, zero, suc, ◌+◌, ◌≤◌, ◌<◌}
use native.Mathlib.Omega.{arith}
use native.Mathlib.Decide.{ℕ_discrete}
use lib.ListN.{length, get_or}
use Rattle.model.specs.Lists.{Any, Has, has?, Distinct, unless_has, fresh}
use Rattle.model.specs.Totals.{sum_to}
use Rattle.model.proofs.Sums.{sum_le, sum_zero, sum_one, sum_add, same, same_yes, same_no, sum_same}

module _ {A : Type 0} where
  pub any_left : (P : A → Type 0) (s t : List A) → Any P s → Any P (s ++ t)
  any_left P [] t x' = elim x' [ ]
  any_left P (x ∷ s) t (inl a) = inl a
  any_left P (x ∷ s) t (inr a) = inr (any_left P s t a)

  pub any_right : (P : A → Type 0) (s t : List A) → Any P t → Any P (s ++ t)
  any_right P [] t a = a
  any_right P (x ∷ s) t a = inr (any_right P s t a)

  pub any_cases : (P : A → Type 0) (s t : List A) → Any P (s ++ t) → Any P s ⊎ Any P t
  any_cases P [] t a = inr a
  any_cases P (x ∷ s) t (inl a) = inl (inl a)
  any_cases P (x ∷ s) t (inr a) = ⊎_elim (λ b. inl (inr b)) (λ b. inr b) (any_cases P s t a)

  pub any_end : (P : A → Type 0) (s : List A) (x : A) → Any P (s ++ x ∷ []) → P x ⊎ Any P s
  any_end P s x a = ⊎_elim (λ b. inr b) (λ b. inl (last b)) (any_cases P s (x ∷ []) a)
    where
      last : Any P (x ∷ []) → P x
      last (inl b) = b
      last (inr b) = absurd b

pub has_get_d : (l : List ℕ) (j : ℕ) → j < length l → Has (get_or l j 0) l
has_get_d [] j h = absurd (omega arith)
has_get_d (x ∷ l) zero h = inl refl
has_get_d (x ∷ l) (suc j) h = inr (has_get_d l j (omega arith))

pub has_index : (l : List ℕ) (q : ℕ) → Has q l → (j : ℕ) × (j < length l) × (get_or l j 0 ≡ q)
has_index [] q x' = elim x' [ ]
has_index (x ∷ l) q (inl e) = (0, omega arith, e)
has_index (x ∷ l) q (inr h) = let r = has_index l q h in (suc r.0, omega arith, r.2)

pub distinct_get_d : (l : List ℕ) (i j : ℕ) → Distinct l → i < j → j < length l → get_or l i 0 ≢ get_or l j 0
distinct_get_d [] i j d h k = absurd (omega arith)
distinct_get_d (x ∷ l) i zero d h k = absurd (omega arith)
distinct_get_d (x ∷ l) zero (suc j) d h k = λ e. d.0 (rw e (has_get_d l j (omega arith)))
distinct_get_d (x ∷ l) (suc i) (suc j) d h k = distinct_get_d l i j d.1 (omega arith) (omega arith)

-- ---- `fresh` takes each of qs that is not in l, and once
pub fresh_in : (l : List ℕ) (qs : List ℕ) (y : ℕ) → Has y (fresh l qs) → Has y qs × (Has y l → ⊥)
unfolding fresh
fresh_in l [] y h = absurd h
fresh_in l (q ∷ qs) y h = go (has? q l) (fresh_in (q ∷ l) qs y) h
  where
    go : (d : Dec (Has q l)) → (Has y (fresh (q ∷ l) qs) → Has y qs × (Has y (q ∷ l) → ⊥)) → Has y (unless_has d q (fresh (q ∷ l) qs)) → Has y (q ∷ qs) × (Has y l → ⊥)
    go (yes a) rec h = let r = rec h in (inr r.0, λ x. r.1 (inr x))
    go (no a) rec (inl e) = (inl e, (λ x. a (rw e x)))
    go (no a) rec (inr h) = let r = rec h in (inr r.0, λ x. r.1 (inr x))

pub fresh_all : (l : List ℕ) (qs : List ℕ) (y : ℕ) → Has y qs → Has y l ⊎ Has y (fresh l qs)
unfolding fresh
fresh_all l [] y h = elim h [ ]
fresh_all l (q ∷ qs) y h = go (has? q l) (fresh_all (q ∷ l) qs y) h
  where
    go : (d : Dec (Has q l)) → (Has y qs → Has y (q ∷ l) ⊎ Has y (fresh (q ∷ l) qs)) → Has y (q ∷ qs) → Has y l ⊎ Has y (unless_has d q (fresh (q ∷ l) qs))
    go (yes a) rec (inl e) = inl (rw (← e) a)
    go (yes a) rec (inr h) = ⊎_elim (λ x. inl (⊎_elim (λ e. rw (← e) a) (λ x. x) x)) (λ x. inr x) (rec h)
    go (no a) rec (inl e) = inr (inl e)
    go (no a) rec (inr h) = ⊎_elim (λ x. ⊎_elim (λ e. inr (inl e)) (λ x. inl x) x) (λ x. inr (inr x)) (rec h)

pub fresh_distinct : (l : List ℕ) (qs : List ℕ) → Distinct (fresh l qs)
unfolding fresh
fresh_distinct l [] = tt
fresh_distinct l (q ∷ qs) = go (has? q l) (fresh_distinct (q ∷ l) qs)
  where
    go : (e : Dec (Has q l)) → Distinct (fresh (q ∷ l) qs) → Distinct (unless_has e q (fresh (q ∷ l) qs))
    go (yes a) r = r
    go (no a) r = ((λ h. (fresh_in (q ∷ l) qs q h).1 (inl refl)), r)

-- ---- the pigeonhole: count each number below k, and add up
count : ℕ → List ℕ → ℕ
count q [] = 0
count q (x ∷ l) = same x q + count q l

count_none : (q : ℕ) (l : List ℕ) → (Has q l → ⊥) → count q l ≡ 0
unfolding count
count_none q [] f = refl
count_none q (x ∷ l) f = omega (arith, same_no x q (λ e. f (inl e)), count_none q l (λ h. f (inr h)))

count_one : (q : ℕ) (l : List ℕ) → Distinct l → count q l ≤ 1
unfolding count
count_one q [] d = omega arith
count_one q (x ∷ l) d = elim (ℕ_discrete x q) [
  | yes e ↦ omega (arith, same_yes x q e, count_none q l (λ h. d.0 (rw e h)))
  | no n ↦ omega (arith, same_no x q n, count_one q l d.1)
]

sum_count : (k : ℕ) (l : List ℕ) → ((q : ℕ) → Has q l → q < k) → sum_to k (λ q. count q l) ≡ length l
unfolding count
sum_count k [] f = sum_zero k (λ _. 0) (λ _. refl)
sum_count k (x ∷ l) f = omega (arith, sum_add k (same x) (λ q. count q l), sum_same k x (f x (inl refl)), sum_count k l (λ q h. f q (inr h)))

pub distinct_short : (k : ℕ) (l : List ℕ) → Distinct l → ((q : ℕ) → Has q l → q < k) → length l ≤ k
distinct_short k l d f = omega (arith, sum_count k l f, sum_le k (λ q. count q l) (λ _. 1) (λ q _. count_one q l d), sum_one k)
