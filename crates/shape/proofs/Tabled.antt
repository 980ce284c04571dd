-- Every record of a table, as `all` over its places finds it out: the library's test of a list is the rules' test of its places. Assumes nothing.
use mathlib.Core.Path.{◌≡◌, refl, sym, ap, ◌∙◌}
use mathlib.Core.Bool.{Bool, ◌&&◌}
use mathlib.Core.List.{List}
use Prim.Native.Nat.{ℕ, zero, suc, ◌≤◌}
use native.Mathlib.Omega.{arith}
use native.Mathlib.Nat.{zero-add}
use native.Mathlib.Numerals.{add-one}
use lib.ListN.{length, get_or, take}
use Rattle.std.specs.List.{list_all, enumerate_from, zip}
use Rattle.std.proofs.Common.{take_all}
use Rattle.std.proofs.lemmas.List.Folds.{list_all_more}
use Rattle.std.proofs.lemmas.List.FromFn.{length-enumerate_from, get_or-enumerate_from}
use Rattle.std.proofs.lemmas.Slice.Zip.{length-zip, get_or-zip}
use Rattle.rules.specs.Tables.{all}
use Rattle.rules.proofs.Tables.{all_ext}

module _ {A : Type 0} (test : A → Bool) (xs : List A) (d : A) where
  first_of : (n : ℕ) → n ≤ length xs → list_all test (take n xs) ≡ all n (λ k. test (get_or xs k d))
  unfolding all
  first_of zero h = refl
  first_of (suc n) h = rw add-one at (list_all_more test xs n d (omega arith)) ∙ ap (λ (t : Bool). t && test (get_or xs n d)) (first_of n (omega arith))

  pub whole : (n : ℕ) → length xs ≡ n → list_all test xs ≡ all n (λ k. test (get_or xs k d))
  whole n e = ap (list_all test) (sym (take_all n xs (omega arith))) ∙ first_of n (omega arith)

-- with their places
pub placed : {A : Type 0} (test : ℕ × A → Bool) (xs : List A) (d : A) (n : ℕ) → length xs ≡ n → list_all test (enumerate_from 0 xs) ≡ all n (λ k. test (k, get_or xs k d))
placed test xs d n e =
    whole test (enumerate_from 0 xs) (0, d) n (length-enumerate_from 0 xs ∙ e) ∙ all_ext n _ _ (λ k h. ap test (get_or-enumerate_from 0 xs k (0, d) (omega arith) ∙ ap (λ (i : ℕ). (i, get_or xs k d)) (zero-add k)))

-- two tables beside each other, with their places
pub paired : {A B : Type 0} (test : ℕ × (A × B) → Bool) (xs : List A) (ys : List B) (d : A) (e : B) (n : ℕ) → length xs ≡ n → length ys ≡ n
    → list_all test (enumerate_from 0 (zip xs ys)) ≡ all n (λ k. test (k, (get_or xs k d, get_or ys k e)))
paired test xs ys d e n f g =
    placed test (zip xs ys) (d, e) n (length-zip xs ys ∙ omega arith) ∙ all_ext n _ _ (λ k h. ap (λ p. test (k, p)) (get_or-zip xs ys k (d, e) (omega arith) (omega arith)))
