-- What the walk computes: whether two sets meet, a table written row by row, the first time round, and the way written one by one.
use mathlib.Core.Path.{◌≡◌, refl, sym, ap, ap₂, ◌∙◌}
use mathlib.Core.Logic.{◌≢◌}
use mathlib.Core.Bool.{Bool, true, false, not, ◌&&◌, and-false}
use mathlib.Core.List.{List, [], ◌∷◌, ◌++◌, append-nil}
use Prim.Native.Nat.{ℕ, zero, suc, ◌+◌, ◌-◌, ◌^◌, ◌≤◌, ◌<◌}
use native.Mathlib.Omega.{arith}
use native.Mathlib.Decide.{ℕ_discrete}
use native.Mathlib.Numerals.{add-one}
use lib.Dec.{eqb, ltb}
use lib.Bits.{bit_and}
use lib.ListN.{length, get_or, set, replicate, length-append}
use lib.Seq.{set_at, append_snoc}
use borrow.Author.Tests.{eqb-false, eq-eqb, ne_eqb, lt-ltb, not-true}
use Rattle.rules.specs.Tables.{pick, rows}
use Rattle.rules.specs.Bits.{taken, with_bit, lowest_taken}
use Rattle.rules.specs.Lists.{ring_of}
use Rattle.rules.proofs.Bits.{taken_zero, taken_and, taken_above, taken_below, taken_with, below_from, set_ext_all, lowest-taken, lowest_taken_below, lowest_taken_some}
use Rattle.rules.proofs.Tables.{same_test, both_right, true_not_false, rows_at, rows_last, rows_length}
use Rattle.search.specs.Numbers.{first, any, set_of}
use Rattle.search.specs.Waiting.{arc}
use Rattle.search.specs.Ways.{comes, comers, next, way, round}
use Rattle.search.proofs.Numbers.{first_passes, first_is, first_none, first_some, any_is, is_any, first_ext, any_ext, taken_set, taken_inside, set_below, set_same}
use Rattle.search.proofs.Ways.{next_inside, next_comes, way_length}

-- ---- two sets, the second of numbers below 16
module _ (s r : ℕ) (h : r < 65536) where
  meet_below : bit_and s r < 2 ^ 16
  meet_below = below_from 16 (bit_and s r) (λ k l. taken_and s r k ∙ rw (taken_above r k 16 h l) (and-false (taken s k)))

  -- they have one in common
  abbrev common : ℕ → Bool
  common q = taken s q && taken r q

  pub meet_any : not (eqb (bit_and s r) 0) ≡ any 16 (λ q. taken s q && taken r q)
  meet_any = same_test _ _ (λ e. in_both (eqb-false (bit_and s r) 0 (not-true (eqb (bit_and s r) 0) e))) (λ e. ap not (ne_eqb (bit_and s r) 0 (not_none e)))
    where
      in_both : bit_and s r ≢ 0 → any 16 common ≡ true
      in_both n =
          let k = lowest_taken (bit_and s r) in
          let t : common k ≡ true = sym (taken_and s r k) ∙ lowest-taken (bit_and s r) (lowest_taken_below (bit_and s r) (omega (arith, meet_below)) n) in
          is_any 16 common k (taken_below r k 16 h (both_right (taken s k) _ t)) t

      not_none : any 16 common ≡ true → bit_and s r ≢ 0
      not_none e z =
          let k = first 16 common in
          let t : taken (bit_and s r) k ≡ true = taken_and s r k ∙ first_passes 16 common (any_is 16 common e) in
          true_not_false (sym t ∙ ap (λ (x : ℕ). taken x k) z ∙ taken_zero k)

  -- the lowest that they have in common
  pub meet_lowest : any 16 (λ q. taken s q && taken r q) ≡ true → lowest_taken (bit_and s r) ≡ first 16 (λ q. taken s q && taken r q)
  meet_lowest e =
      let k = lowest_taken (bit_and s r) in
      let f : first 16 common < 16 = any_is 16 common e in
      let le : k ≤ first 16 common = lowest_taken_some (bit_and s r) (first 16 common) (omega arith) (taken_and s r (first 16 common) ∙ first_passes 16 common f) in
      let l : common k ≡ true = sym (taken_and s r k) ∙ lowest-taken (bit_and s r) (omega arith) in
      omega (arith, first_some 16 common k (omega arith) l)

-- ---- a table, written row by row
module _ (n : ℕ) (f : ℕ → ℕ) where
  abbrev pub begun : ℕ → List ℕ
  begun i = rows i f ++ replicate (n - i) 0

  pub begun_none : begun 0 ≡ replicate n 0
  unfolding rows
  begun_none = let z : n - 0 ≡ n = omega arith in rw z

  pub begun_more : (i : ℕ) → i < n → set (begun i) i (f i) ≡ begun (suc i)
  begun_more i h =
      let z : n - i ≡ suc (n - suc i) = omega arith in
      rw (z, rows_last i f) (set_at (rows i f) 0 (replicate (n - suc i) 0) (f i) i (rows_length i f) ∙ sym (append_snoc (rows i f) (f i) (replicate (n - suc i) 0)))

  pub begun_all : begun n ≡ rows n f
  begun_all = let z : n - n ≡ 0 = omega arith in rw z (append-nil (rows n f))

-- ---- who comes to p
module _ (w : ℕ → ℕ → Bool) (p : ℕ) where
  pub comers_at : (k : ℕ) → k < 17 → get_or (comers w p) k 0 ≡ set_of 16 (comes w p k)
  unfolding comers
  comers_at k h = rows_at 17 (λ k. set_of 16 (comes w p k)) k 0 h

  pub comers_first : p < 16 → with_bit 0 p ≡ set_of 16 (comes w p 0)
  unfolding comes
  comers_first h = set_ext_all (with_bit 0 p) (set_of 16 (comes w p 0)) (λ k. taken_with 0 p k ∙ rw (taken_zero k) (one k ∙ sym (taken_set 16 (comes w p 0) k)))
    where
      one : (k : ℕ) → pick (eqb k p) true false ≡ ltb k 16 && eqb k p
      one k = elim (ℕ_discrete k p) [
        | yes z ↦ rw (eq-eqb k p z, lt-ltb k 16 (omega arith))
        | no z ↦ rw (ne_eqb k p z) (sym (and-false (ltb k 16)))
      ]

pub comers_next : (sets : List ℕ) (p k s : ℕ) → s ≡ set_of 16 (comes (arc sets) p k) → set_of 16 (λ x. any 16 (λ q. arc sets x q && taken s q)) ≡ set_of 16 (comes (arc sets) p (suc k))
unfolding comes
comers_next sets p k s e = set_same 16 _ _ (λ x h. any_ext 16 _ _ (λ q l. ap (λ (b : Bool). arc sets x q && b) (ap (λ (n : ℕ). taken n q) e ∙ taken_inside 16 (comes (arc sets) p k) q l)))

pub next_lowest : (sets : List ℕ) (p k x : ℕ) → k < 17 → comes (arc sets) p (suc k) x ≡ true
    → lowest_taken (bit_and (get_or sets x 0) (get_or (comers (arc sets) p) k 0)) ≡ next (arc sets) p k x
unfolding comes next
next_lowest sets p k x h e =
    let s = get_or sets x 0 in
    let r = set_of 16 (comes (arc sets) p k) in
    let same : (q : ℕ) → q < 16 → taken s q && taken r q ≡ taken s q && comes (arc sets) p k q = λ q l. ap (λ (b : Bool). taken s q && b) (taken_inside 16 (comes (arc sets) p k) q l) in
    rw (comers_at (arc sets) p k h) (meet_lowest s r (set_below 16 (comes (arc sets) p k)) (any_ext 16 _ _ same ∙ e) ∙ first_ext 16 _ _ same)

-- ---- the first time round; t k is that p comes round in k waits
module _ (t : ℕ → Bool) where
  pub round_here : (k : ℕ) → 1 ≤ k → k < 17 → ((j : ℕ) → suc j < k → t (suc j) ≡ false) → t k ≡ true → k ≡ suc (first 16 (λ j. t (suc j)))
  round_here zero l h f e = absurd (omega arith)
  round_here (suc k) l h f e = ap suc (sym (first_is 16 (λ j. t (suc j)) k (omega arith) (λ j g. f j (omega arith)) e))

  pub round_none : (k : ℕ) → 17 ≤ k → ((j : ℕ) → suc j < k → t (suc j) ≡ false) → 17 ≡ suc (first 16 (λ j. t (suc j)))
  round_none k h f = omega (arith, first_none 16 (λ j. t (suc j)) (λ j g. f j (omega arith)))

  pub round_on : (k : ℕ) → ((j : ℕ) → suc j < k → t (suc j) ≡ false) → t k ≡ false → (j : ℕ) → suc j < k + 1 → t (suc j) ≡ false
  round_on k f e j h = elim (ℕ_discrete (suc j) k) [ yes z ↦ rw z e | no z ↦ f j (omega arith) ]

-- and t is read off the table
pub round_told : (w : ℕ → ℕ → Bool) (p : ℕ) (table : List ℕ) (n : ℕ) → p < 16 → table ≡ comers w p → n ≡ suc (first 16 (λ k. taken (get_or table (suc k) 0) p)) → n ≡ round w p
unfolding round
round_told w p table n h e f =
    f ∙ ap suc (first_ext 16 _ _ (λ k l. ap (λ (s : ℕ). taken s p) (ap (λ (t : List ℕ). get_or t (suc k) 0) e ∙ comers_at w p (suc k) (omega arith)) ∙ taken_inside 16 (comes w p (suc k)) p h))

-- ---- the way, written one by one: i are written, and x is next, with so many waits left to p
pub record Walked (w : ℕ → ℕ → Bool) (p n : ℕ) (ps : List ℕ) (i left x : ℕ) : Type 0 where
  pub done : List ℕ
  pub long : length done ≡ i
  pub written : ps ≡ done ++ replicate (16 - i) 0
  pub rest : done ++ way w p left x ≡ way w p n p
  pub sum : i + left ≡ n
  pub on : comes w p left x ≡ true
  pub small : x < 16

module _ (w : ℕ → ℕ → Bool) (p n : ℕ) where
  pub walked_none : p < 16 → comes w p n p ≡ true → Walked w p n (replicate 16 0) 0 n p
  walked_none h e = record { done = []; long = refl; written = refl; rest = refl; sum = omega arith; on = e; small = h }

  one_more : (ps : List ℕ) (i left x y : ℕ) → i < 16 → Walked w p n ps i (suc left) x → y ≡ next w p left x → Walked w p n (set ps i x) (suc i) left y
  unfolding way
  one_more ps i left x y h v e =
      let z : 16 - i ≡ suc (16 - suc i) = omega arith in
      record {
        done = v.done ++ x ∷ [];
        long = omega (arith, length-append v.done (x ∷ []), v.long);
        written = ap (λ (l : List ℕ). set l i x) v.written ∙ rw z (set_at v.done 0 (replicate (16 - suc i) 0) x i v.long ∙ sym (append_snoc v.done x (replicate (16 - suc i) 0)));
        rest = append_snoc v.done x (way w p left y) ∙ rw e v.rest;
        sum = omega (arith, v.sum);
        on = rw e (next_comes w p left x v.on);
        small = rw e (next_inside w p left x v.on);
      }

  pub walked_more : (ps : List ℕ) (i left m x y : ℕ) → i < 16 → left ≡ suc m → Walked w p n ps i left x → y ≡ next w p m x → Walked w p n (set ps i x) (i + 1) m y
  walked_more ps i left m x y h z v e = rw add-one (one_more ps i m x y h (rw z at v) e)

  pub walked_all : (ps : List ℕ) (i left x : ℕ) → left ≡ 0 → Walked w p n ps i left x → record { processes = ps; count = n } ≡ ring_of (way w p n p)
  unfolding way
  walked_all ps i left x z u =
      let v : Walked w p n ps i 0 x = rw z at u in
      let d : v.done ≡ way w p n p = sym (append-nil v.done) ∙ v.rest in
      let m : n ≡ length (way w p n p) = sym (way_length w p n p) in
      let j : i ≡ length (way w p n p) = omega (arith, v.sum) in
      let e : ps ≡ way w p n p ++ replicate (16 - length (way w p n p)) 0 = v.written ∙ ap₂ (λ (l : List ℕ) (k : ℕ). l ++ replicate (16 - k) 0) d j in
      λ i. record { processes = e i; count = m i }
