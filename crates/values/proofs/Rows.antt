-- A chain over a row, as the rules say it place by place: `any` is a test that some place fails, and a sum goes over the places.
use Rattle.std.proofs.Common.{◌≡◌, ◌∙◌, refl, sym, ap, ℕ, zero, suc, ◌+◌, ◌<◌, ◌≤◌, Bool, true, false, not, ◌&&◌, ◌||◌, List, [], ◌∷◌, take, length, get_or, arith, add-one}
use Rattle.std.specs.List.{list_any, sum_by}
use Rattle.std.proofs.lemmas.List.{get_or-take, length-take-le, take_all}
use Rattle.std.proofs.lemmas.List.Sums.{sum_by_more}
use Rattle.rules.specs.Tables.{all, sum}
use Rattle.rules.proofs.Tables.{all_ext}

and_assoc : (a b c : Bool) → (a && b) && c ≡ a && (b && c)
and_assoc true b c = refl
and_assoc false b c = refl

or_not : (a b : Bool) → a || not b ≡ not (not a && b)
or_not true b = refl
or_not false b = refl

all_front : (n : ℕ) (t : ℕ → Bool) → all (suc n) t ≡ t 0 && all n (λ k. t (suc k))
unfolding all
all_front zero t = one (t 0)
  where
    one : (b : Bool) → true && b ≡ b && true
    one true = refl
    one false = refl
all_front (suc n) t = ap (λ (b : Bool). b && t (suc n)) (all_front n t) ∙ and_assoc (t 0) (all n (λ k. t (suc k))) (t (suc n))

module _ {X : Type 0} where
  pub any_all : (p : X → Bool) (xs : List X) (d : X) → list_any p xs ≡ not (all (length xs) (λ k. not (p (get_or xs k d))))
  unfolding all
  any_all p [] d = refl
  any_all p (x ∷ xs) d = ap (λ (b : Bool). p x || b) (any_all p xs d) ∙ or_not (p x) (all (length xs) (λ k. not (p (get_or xs k d)))) ∙ ap not (sym (all_front (length xs) (λ k. not (p (get_or (x ∷ xs) k d)))))

  -- over the first places alone
  pub any_all_of : (p : X → Bool) (xs : List X) (n : ℕ) (d : X) → n ≤ length xs → list_any p (take n xs) ≡ not (all n (λ k. not (p (get_or xs k d))))
  any_all_of p xs n d h = any_all p (take n xs) d ∙ rw (length-take-le n xs h) (ap not (all_ext n (λ k. not (p (get_or (take n xs) k d))) (λ k. not (p (get_or xs k d))) (λ k l. ap (λ (x : X). not (p x)) (get_or-take n xs k d l))))

  sum_by_first : (f : X → ℕ) (xs : List X) (d : X) (n : ℕ) → n ≤ length xs → sum_by f (take n xs) ≡ sum n (λ k. f (get_or xs k d))
  unfolding sum
  sum_by_first f xs d zero h = refl
  sum_by_first f xs d (suc n) h = let l : n < length xs = omega arith in (rw add-one at (sum_by_more f xs n d l)) ∙ ap (λ (s : ℕ). s + f (get_or xs n d)) (sum_by_first f xs d n (omega arith))

  pub sum_by_sum : (f : X → ℕ) (xs : List X) (d : X) → sum_by f xs ≡ sum (length xs) (λ k. f (get_or xs k d))
  sum_by_sum f xs d = ap (λ (l : List X). sum_by f l) (sym (take_all (length xs) xs (omega arith))) ∙ sum_by_first f xs d (length xs) (omega arith)
