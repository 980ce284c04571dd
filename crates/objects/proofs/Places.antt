-- A process that is looked for in a line: `position` over the row is the rules' first place.
use Rattle.std.proofs.Common.{◌≡◌, ◌∙◌, refl, sym, ℕ, suc, ◌+◌, ◌≤◌, Bool, true, false, not, cond, List, [], ◌∷◌, take, length, get_or, eqb, ltb, Some, None, arith, lt-ltb, le-ltb, one-add}
use native.Mathlib.Decide.{dec_lt}
use Rattle.std.specs.List.{position_or_len}
use Rattle.std.specs.Option.{unwrap_or}
use Rattle.std.proofs.lemmas.List.{length-take-le, get_or-take}
use Rattle.std.proofs.lemmas.List.Sums.{prefix_len-le-length}
use Rattle.rules.specs.Tables.{place_of}
use Rattle.rules.proofs.Tables.{place_ext}

one_more : (b : Bool) (m n : ℕ) → m ≡ n → cond (not b) (1 + m) 0 ≡ elim b as (λ _. ℕ) [ true ↦ 0 | false ↦ suc n ]
one_more true m n e = refl
one_more false m n e = rw (one-add, e)

place_is : (p : ℕ) (xs : List ℕ) → position_or_len (λ q. eqb q p) xs ≡ place_of (length xs) (λ k. get_or xs k 0) p
unfolding place_of
place_is p [] = refl
place_is p (x ∷ xs) = one_more (eqb x p) (position_or_len (λ q. eqb q p) xs) (place_of (length xs) (λ k. get_or xs k 0) p) (place_is p xs)

-- the place, or the length where there is none
within : (k n m : ℕ) → k ≤ n → m ≡ n → unwrap_or (cond (ltb k n) (Some k) None) m ≡ k
within k n m h e = elim (dec_lt k n) [
  | yes l ↦ rw (lt-ltb k n l)
  | no f ↦ rw (le-ltb k n (omega (arith, f))) (omega (arith, f))
]

pub position_place : (p n : ℕ) (line : List ℕ) → n ≤ length line → unwrap_or (cond (ltb (position_or_len (λ q. eqb q p) (take n line)) (length (take n line))) (Some (position_or_len (λ q. eqb q p) (take n line))) None) n ≡ place_of n (λ k. get_or line k 0) p
position_place p n line h =
    let l : length (take n line) ≡ n = length-take-le n line h in
    within (position_or_len (λ q. eqb q p) (take n line)) (length (take n line)) n (prefix_len-le-length (λ q. not (eqb q p)) (take n line)) (sym l)
    ∙ place_is p (take n line)
    ∙ rw l (place_ext p n (λ k. get_or (take n line) k 0) (λ k. get_or line k 0) (λ k b. get_or-take n line k 0 b))
