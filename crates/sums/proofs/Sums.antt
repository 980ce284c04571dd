-- A table that is read place by place: sums over it, and how many places pass a test.
use Rattle.std.proofs.Common.{◌≡◌, ◌∙◌, refl, sym, map, ℕ, ◌+◌, ◌<◌, Bool, true, false, List, length, get_or, add-one, add-zero}
use Rattle.std.proofs.lemmas.List.{length-map, get_or_default}
use Rattle.rules.specs.Tables.{pick, sum, count_of}

-- one more record counted
pub sum_more : (total n x : ℕ) (f : ℕ → ℕ) → total ≡ sum n f → x ≡ f n → total + x ≡ sum (n + 1) f
unfolding sum
sum_more total n x f e h = rw (add-one, e, h)

pub sum_none : (f : ℕ → ℕ) → 0 ≡ sum 0 f
unfolding sum
sum_none f = refl

-- inside a list the default does not matter
pub read_at : {A : Type 0} (l : List A) (i : ℕ) (d e : A) → i < length l → get_or l i d ≡ get_or l i e
read_at l i d e h = get_or_default l i d e h

pub length_mapped : (X Y : Type 0) (f : X → Y) → (l : List X) (n : ℕ) → length (map f l) ≡ n → length l ≡ n
length_mapped X Y f l n e = sym (length-map l f) ∙ e

-- one more place passed, which counts or does not
pub count_more : (n k : ℕ) (t : ℕ → Bool) → n ≡ count_of k t → t k ≡ true → n + 1 ≡ count_of (k + 1) t
count_more n k t e h = sum_more n k 1 (λ j. pick (t j) 1 0) e (rw h)

pub count_same : (n k : ℕ) (t : ℕ → Bool) → n ≡ count_of k t → t k ≡ false → n ≡ count_of (k + 1) t
count_same n k t e h = sym (add-zero n) ∙ sum_more n k 0 (λ j. pick (t j) 1 0) e (rw h)
