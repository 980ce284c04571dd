-- Tests joined: every place of a row at once, every record of a table one after another. Assumes nothing.
use mathlib.Core.Path.{◌≡◌, refl, sym, ap, ◌∙◌}
use mathlib.Core.Bool.{Bool, true, false, not, ◌&&◌}
use mathlib.Core.List.{List}
use Prim.Native.Nat.{ℕ, zero, suc, ◌+◌, ◌*◌, ◌/◌, ◌^◌, ◌≤◌, ◌<◌}
use native.Mathlib.Omega.{arith}
use native.Mathlib.Numerals.{add-one}
use native.Mathlib.Nat.{div-lt_iff_lt-mul, one-mul}
use lib.Bits.{bit_and, bit_or, and_le_l}
use lib.Pow.{pow_pos, pow_mono}
use lib.Dec.{eqb, ltb, leb-suc-suc, leb-suc-zero, eqb-suc-zero}
use lib.ListN.{length, get_or}
use borrow.Author.Tests.{eqb-true, eq-eqb, lt-ltb, ltb-true, not-true, not-false}
use Rattle.rules.specs.Tables.{pick, all}
use Rattle.rules.specs.Bits.{taken}
use Rattle.rules.specs.Shape.{up_to, row_fits}
use Rattle.sums.proofs.Sums.{read_at}
use Rattle.shape.specs.Stand.{RowFits}
use Rattle.rules.proofs.Bits.{taken_and, taken_zero, empty_from, or_none}
use Rattle.rules.proofs.Tables.{same_test, both, all_at, all_from, all_fail}

-- ---- tests one after another, each of which may end with false
pub onward : (t rest x : Bool) → t ≡ true → x ≡ rest → x ≡ t && rest
onward t rest x e h = rw e h

pub failed : (r t : Bool) → r ≡ t → not r ≡ true → t ≡ false
failed r t e f = sym e ∙ not-true r f

pub passed : (r t : Bool) → r ≡ t → not r ≡ false → t ≡ true
passed r t e f = sym e ∙ not-false r f

-- ---- sets
pub set_below : (n c : ℕ) → c ≤ 16 → eqb (n / 2 ^ c) 0 ≡ true → n < 2 ^ 16
set_below n c h e =
    let l : n < 1 * 2 ^ c = (div-lt_iff_lt-mul (pow_pos c)).0 (omega (arith, eqb-true (n / 2 ^ c) 0 e)) in
    omega (arith, one-mul (2 ^ c), pow_mono h)

-- two sets of numbers below 16 have none in common
pub disjoint : (s x : ℕ) → s < 2 ^ 16 → eqb (bit_and s x) 0 ≡ all 16 (λ q. not (taken s q && taken x q))
disjoint s x h = same_test _ _ there back
  where
    there : eqb (bit_and s x) 0 ≡ true → all 16 (λ q. not (taken s q && taken x q)) ≡ true
    there e = all_from 16 _ (λ q l. ap not (sym (taken_and s x q) ∙ ap (λ (n : ℕ). taken n q) (eqb-true _ _ e) ∙ taken_zero q))

    back : all 16 (λ q. not (taken s q && taken x q)) ≡ true → eqb (bit_and s x) 0 ≡ true
    back e = eq-eqb _ _ (empty_from 16 (bit_and s x) (omega (arith, and_le_l s x)) (λ q l. taken_and s x q ∙ not-true _ (all_at 16 _ e q l)))

-- the count for a record is no more than the count
pub up_to_le : (k c n : ℕ) → n ≤ 16 → up_to k c n ≤ 16
up_to_le k c n h = go (ltb k c)
  where
    go : (t : Bool) → pick t n 0 ≤ 16
    go true = h
    go false = omega arith

-- ---- a row, with what is wrong gathered
zero_below_one : (x : ℕ) → ltb x 1 ≡ eqb x 0
zero_below_one zero = refl
zero_below_one (suc x) = rw (leb-suc-suc (suc x) 0, leb-suc-zero, eqb-suc-zero)

-- zero alone is below 1
limited : (t : Bool) (x c : ℕ) → ltb x (pick t c 1) ≡ pick t (ltb x c) (eqb x 0)
limited true x c = refl
limited false x c = zero_below_one x

unmarked : (t : Bool) → eqb (pick t 0 1) 0 ≡ t
unmarked true = refl
unmarked false = refl

-- one more place gathered
pub gathered : (wrong mark x limit c : ℕ) (done t : Bool) → eqb wrong 0 ≡ done → mark ≡ pick (ltb x limit) 0 1 → limit ≡ pick t c 1
    → eqb (bit_or wrong mark) 0 ≡ done && pick t (ltb x c) (eqb x 0)
gathered wrong mark x limit c done t d m e = or_none wrong mark ∙ rw (d, m, unmarked, e, limited)

-- ---- every record of a table
pub all_next : (k : ℕ) (t : ℕ → Bool) → all (k + 1) t ≡ all k t && t k
unfolding all
all_next k t = rw add-one

-- one more place of a row of zeros gathered, after what was done before it
pub zero_more : (done : Bool) (any k d : ℕ) (row : List ℕ) → k < length row → eqb any 0 ≡ done && all k (λ j. eqb (get_or row j 0) 0)
    → eqb (bit_or any (get_or row k d)) 0 ≡ done && all (k + 1) (λ j. eqb (get_or row j 0) 0)
zero_more done any k d row h e =
    or_none any (get_or row k d) ∙ rw (e, read_at row k d 0 h, all_next) (regrouped done (all k (λ j. eqb (get_or row j 0) 0)) (eqb (get_or row k 0) 0))
  where
    regrouped : (a b c : Bool) → (a && b) && c ≡ a && (b && c)
    regrouped true b c = refl
    regrouped false b c = refl

pub zero_rows : (row other : List ℕ) → all 16 (λ j. eqb (get_or row j 0) 0) && all 16 (λ j. eqb (get_or other j 0) 0) ≡ row_fits row 0 0 && row_fits other 0 0
unfolding row_fits all
zero_rows row other = refl

-- the test of one record, as a loop over them takes it
pub ends_table : (n k : ℕ) (t : ℕ → Bool) (r : Bool) → k < n → r ≡ t k → not r ≡ true → false ≡ all n t
ends_table n k t r h e f = sym (all_fail n t k h (failed r (t k) e f))

pub goes_on : (k : ℕ) (t : ℕ → Bool) (r : Bool) → all k t ≡ true → r ≡ t k → not r ≡ false → all (k + 1) t ≡ true
goes_on k t r h e f = all_next k t ∙ both (all k t) (t k) h (passed r (t k) e f)

-- the first n of a row that fits are processes
pub row_below : (row : List ℕ) (n c : ℕ) → row_fits row n c ≡ true → n ≤ 16 → c ≤ 16 → RowFits row n
unfolding row_fits
row_below row n c e h l = record { count = h; below = below }
  where
    below : (k : ℕ) → k < n → get_or row k 0 < 16
    below k m = let t = rw (lt-ltb k n m) at (all_at 16 _ e k (omega arith)) in omega (arith, ltb-true (get_or row k 0) c t)

-- a record tested up to a count, as it is read
pub read_fits : {A : Type 0} (f : A → ℕ → Bool) (l : List A) (k : ℕ) (d e : A) (r : Bool) (m end c n : ℕ) → k < length l
    → r ≡ f (get_or l k d) m → m ≡ up_to k end n → end ≡ c → r ≡ f (get_or l k e) (up_to k c n)
read_fits f l k d e r m end c n h t u w = t ∙ ap (λ x. f x m) (read_at l k d e h) ∙ ap (f (get_or l k e)) (u ∙ ap (λ (j : ℕ). up_to k j n) w)
