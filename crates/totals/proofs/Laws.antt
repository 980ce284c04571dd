-- Totals: one more, none more, and tables of totals of which one place is written. Assumes nothing.
use Rattle.std.proofs.Common.{◌≡◌, refl, sym, ap, ◌∙◌, ◌≢◌, Bool, true, false, ◌&&◌, List, [], ℕ, zero, suc, ◌+◌, ◌-◌, ◌≤◌, ◌<◌, arith, add-one, eqb, ltb, length, get_or, set, length-set, ext_get_or, get_or-set_same, get_or-set_other, eq-eqb, ne_eqb, ltb-true, ltb-false, lt-ltb, le-ltb}
use native.Mathlib.Decide.{ℕ_discrete}
use Rattle.std.proofs.lemmas.List.{get_or_default}
use Rattle.rules.specs.declared.Answer.TheVariants.{Done}
use Rattle.rules.proofs.Numbers.{answer_back}
use Rattle.rules.specs.declared.Ring.{Ring}
use Rattle.rules.specs.Tables.{pick, rows, sum, count_of}
use Rattle.rules.proofs.Tables.{by_test, rows_length, rows_at, rows_ext, rows_self}
use Rattle.rules.specs.Lists.{no_ring}
use Rattle.rules.specs.Answers.{number, done, answer_of}
use Rattle.rules.specs.Board.{counts, tally_of, rings_of_length}
use Rattle.text.specs.Text.{at_most}
use Rattle.text.proofs.Text.{at_most_below, at_most_top}
use Rattle.totals.specs.declared.Came.{Came}
use Rattle.totals.specs.declared.Totals.{Totals}
use Rattle.totals.specs.Totals.{most, more, plus, noted}

-- ---- one total
pub more_room : (t n : ℕ) → n ≤ most - t → t + n ≡ more t n
more_room t n h = rw (le-ltb (most - t) n h)

pub more_full : (t n : ℕ) → most - t < n → most ≡ more t n
more_full t n h = rw (lt-ltb (most - t) n h)

pub none_more : (t : ℕ) → t ≡ more t 0
none_more t = let e : t ≡ t + 0 = omega arith in e ∙ more_room t 0 (omega arith)

full_stays : (n : ℕ) → most ≡ more most n
full_stays zero = none_more most
full_stays (suc n) = more_full most (suc n) (omega arith)

pub more_twice : (t m n : ℕ) → more (more t m) n ≡ more t (m + n)
more_twice t m n = by_test (ltb (most - t) m)
    (λ z. let h : most - t < m = ltb-true (most - t) m z in
    ap (λ (k : ℕ). more k n) (sym (more_full t m h)) ∙ sym (full_stays n) ∙ more_full t (m + n) (omega (arith, h)))
    (λ z. let h : m ≤ most - t = ltb-false (most - t) m z in
    ap (λ (k : ℕ). more k n) (sym (more_room t m h)) ∙ rest h)
  where
    rest : m ≤ most - t → more (t + m) n ≡ more t (m + n)
    rest h = by_test (ltb (most - (t + m)) n)
        (λ z. let g : most - (t + m) < n = ltb-true (most - (t + m)) n z in
        sym (more_full (t + m) n g) ∙ more_full t (m + n) (omega (arith, g)))
        (λ z. let g : n ≤ most - (t + m) = ltb-false (most - (t + m)) n z in
        let e : t + m + n ≡ t + (m + n) = omega arith in
        sym (more_room (t + m) n g) ∙ e ∙ more_room t (m + n) (omega (arith, g, h)))

-- a total that is right stays right
pub more_at_most : (n m : ℕ) → more (at_most most n) m ≡ at_most most (n + m)
more_at_most n m = by_test (ltb n most)
    (λ z. let h : n < most = ltb-true n most z in ap (λ (k : ℕ). more k m) (sym (at_most_below most n h)) ∙ below h)
    (λ z. let h : most ≤ n = ltb-false n most z in
    ap (λ (k : ℕ). more k m) (sym (at_most_top most n h)) ∙ sym (full_stays m) ∙ at_most_top most (n + m) (omega (arith, h)))
  where
    below : n < most → more n m ≡ at_most most (n + m)
    below h = by_test (ltb (n + m) most)
        (λ z. let g : n + m < most = ltb-true (n + m) most z in sym (more_room n m (omega (arith, g))) ∙ at_most_below most (n + m) g)
        (λ z. let g : most ≤ n + m = ltb-false (n + m) most z in full g ∙ at_most_top most (n + m) g)
      where
        full : most ≤ n + m → more n m ≡ most
        full g = by_test (ltb (most - n) m)
            (λ z. rw z)
            (λ z. let l : m ≤ most - n = ltb-false (most - n) m z in
            let e : n + m ≡ most = omega (arith, l, g, h) in sym (more_room n m l) ∙ e)

-- ---- a table of totals
module _ {A : Type 0} where
  -- one place of it is written
  pub rows_set : (n : ℕ) (f g : ℕ → A) (i : ℕ) → i < n → ((k : ℕ) → k < n → k ≢ i → f k ≡ g k) → set (rows n f) i (g i) ≡ rows n g
  rows_set n f g i h e = ext_get_or (g i) (set (rows n f) i (g i)) (rows n g)
      (length-set (rows n f) i (g i) ∙ rows_length n f ∙ sym (rows_length n g))
      (λ k z. let l : k < n = omega (arith, z, length-set (rows n f) i (g i), rows_length n f) in
      at k l (ℕ_discrete k i))
    where
      at : (k : ℕ) → k < n → Dec (k ≡ i) → get_or (set (rows n f) i (g i)) k (g i) ≡ get_or (rows n g) k (g i)
      at k l (yes z) = rw z (get_or-set_same (rows n f) i (g i) (g i) (omega (arith, h, rows_length n f)) ∙ sym (rows_at n g i (g i) h))
      at k l (no z) = get_or-set_other (rows n f) i k (g i) (g i) z ∙ rows_at n f k (g i) l ∙ e k l z ∙ sym (rows_at n g k (g i) l)

pub table_length : (t : List ℕ) (f : ℕ → ℕ) → t ≡ rows 17 f → length t ≡ 17
table_length t f e = ap length e ∙ rows_length 17 f

pub table_self : (t : List ℕ) → length t ≡ 17 → t ≡ rows 17 (λ k. get_or t k 0)
table_self t e = sym (rows_self t 0) ∙ ap (λ (n : ℕ). rows n (λ k. get_or t k 0)) e

-- one more at place i
abbrev pub at : ℕ → ℕ → ℕ
at i k = pick (eqb k i) 1 0

pub one_more_set : (t : List ℕ) (i x : ℕ) → length t ≡ 17 → i < 17 → x ≡ more (get_or t i 0) 1 → set t i x ≡ rows 17 (λ k. more (get_or t k 0) (at i k))
one_more_set t i x e h z =
    let f : ℕ → ℕ = λ k. get_or t k 0 in
    let one : x ≡ more (f i) (at i i) = z ∙ ap (λ (b : Bool). more (f i) (pick b 1 0)) (sym (eq-eqb i i refl)) in
    ap (λ (l : List ℕ). set l i x) (table_self t e)
    ∙ ap (set (rows 17 f) i) one
    ∙ rows_set 17 f (λ k. more (f k) (at i k)) i h (λ k l n. none_more (f k) ∙ ap (λ (b : Bool). more (f k) (pick b 1 0)) (sym (ne_eqb k i n)))

pub none_more_at : (t : List ℕ) → length t ≡ 17 → t ≡ rows 17 (λ k. more (get_or t k 0) 0)
none_more_at t e = table_self t e ∙ rows_ext 17 _ _ (λ k l. none_more (get_or t k 0))

-- a place that the table has not
pub past_more_at : (t : List ℕ) (i : ℕ) → length t ≡ 17 → 17 ≤ i → t ≡ rows 17 (λ k. more (get_or t k 0) (at i k))
past_more_at t i e h = none_more_at t e ∙ rows_ext 17 _ _ (λ k l. ap (λ (b : Bool). more (get_or t k 0) (pick b 1 0)) (sym (ne_eqb k i (λ z. omega (arith, l, h, z)))))

-- ---- recorded rings by their length
-- a place of a board's table of rings, read with an empty record for what is past its end
pub ring_read : (rings : List Ring) (s : ℕ) → length rings ≡ 16 → s < 16 → (get_or rings s (record { processes = []; count = 0 })).count ≡ (get_or rings s no_ring).count
ring_read rings s e h = ap (λ (r : Ring). r.count) (get_or_default rings s (record { processes = []; count = 0 }) no_ring (omega (arith, e, h)))

-- those of length l in the first s places
abbrev pub within : List Ring → ℕ → ℕ → ℕ
within rings s l = count_of s (λ k. counts rings k && eqb l (get_or rings k no_ring).count)

pub none_within : (t : List ℕ) (rings : List Ring) → length t ≡ 17 → t ≡ rows 17 (λ l. more (get_or t l 0) (within rings 0 l))
unfolding sum
none_within t rings e = none_more_at t e

-- the ring at place s counts at its length, or nowhere
module _ (t next : List ℕ) (rings : List Ring) (s : ℕ) (e : next ≡ rows 17 (λ l. more (get_or t l 0) (within rings s l))) where
  pub ring_counts : {i : ℕ} → i ≡ (get_or rings s no_ring).count → counts rings s ≡ true → rows 17 (λ l. more (get_or next l 0) (at i l)) ≡ rows 17 (λ l. more (get_or t l 0) (within rings (s + 1) l))
  unfolding sum
  ring_counts {i} is some =
      rows_ext 17 _ _ (λ l h.
      ap (λ (x : ℕ). more x (at i l)) (ap (λ (x : List ℕ). get_or x l 0) e ∙ rows_at 17 _ l 0 h)
      ∙ more_twice (get_or t l 0) (within rings s l) (at i l)
      ∙ ap (λ (x : ℕ). more (get_or t l 0) (within rings s l + x)) (rw (some, is))
      ∙ ap (λ (x : ℕ). more (get_or t l 0) (within rings x l)) (sym (add-one s)))

  pub no_ring_counts : counts rings s ≡ false → next ≡ rows 17 (λ l. more (get_or t l 0) (within rings (s + 1) l))
  unfolding sum
  no_ring_counts none =
      e ∙ rows_ext 17 _ _ (λ l h. ap (more (get_or t l 0)) (rw none (omega arith)) ∙ ap (λ (x : ℕ). more (get_or t l 0) (within rings x l)) (sym (add-one s)))

-- one more where a number is not zero
pub one_more_some : (t n : ℕ) → 0 < n → more t 1 ≡ more t (pick (ltb 0 n) 1 0)
one_more_some t n h = rw (lt-ltb 0 n h)

pub none_more_none : (t n : ℕ) → n ≤ 0 → t ≡ more t (pick (ltb 0 n) 1 0)
none_more_none t n h = rw (le-ltb 0 n h) (none_more t)

-- ---- all totals
abbrev pub made : ℕ → ℕ → ℕ → List ℕ → ℕ → List ℕ → Totals
made sheets ran refused with ringed rings = record { sheets = sheets; ran = ran; refused = refused; refused_with = with; ringed = ringed; rings = rings }

pub made_alike : {a b c d e f g h : ℕ} {k l m n : List ℕ} → a ≡ b → c ≡ d → e ≡ f → k ≡ l → g ≡ h → m ≡ n → made a c e k g m ≡ made b d f l h n
made_alike p q r s t u i = made (p i) (q i) (r i) (s i) (t i) (u i)

-- a sheet that ran, and one that was refused
pub noted_ran : (t : Totals) (r : Came) → r.answer ≡ Done
    → plus t 1 0 (λ n. 0) (pick (ltb 0 (tally_of r.rings)) 1 0) (rings_of_length r.rings) ≡ noted t r
unfolding noted
noted_ran t r e = rw e (made_alike refl refl refl (rows_ext 17 _ _ (λ n h. ap (more (get_or t.refused_with n 0)) (either_way (eqb n 0)))) refl refl)
  where
    either_way : (b : Bool) → ◌≡◌ {A = ℕ} 0 (pick b 0 0)
    either_way true = refl
    either_way false = refl

pub noted_refused : (t : Totals) (r : Came) → (r.answer ≡ Done → ⊥)
    → plus t 0 1 (λ n. pick (eqb n (number r.answer)) 1 0) 0 (λ l. 0) ≡ noted t r
unfolding noted answer_of
noted_refused t r z =
    let d : done r.answer ≡ false = ne_eqb (number r.answer) 0 (λ y. z (sym (answer_back r.answer) ∙ ap answer_of y)) in
    rw d
