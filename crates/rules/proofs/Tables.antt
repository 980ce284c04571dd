-- Laws of the small tables: rows and their places, what is collected, the first place of a number, membership, tests of every place, and
-- sums with one place changed. Each is an induction on the number of places. Assumes nothing.
use mathlib.Core.Path.{◌≡◌, refl, sym, ap, ap₂, ◌∙◌}
use mathlib.Core.Logic.{◌≢◌, ◌⊎◌, inl, inr, ⊎_elim}
use mathlib.Core.Bool.{Bool, true, false, ◌&&◌}
use mathlib.Core.List.{List, [], ◌∷◌, ◌++◌, map}
use Prim.Native.Nat.{ℕ, zero, suc, ◌+◌, ◌*◌, ◌≤◌, ◌<◌}
use native.Mathlib.Nat.{suc-mul}
use native.Mathlib.Numerals.{add-one}
use native.Mathlib.Omega.{arith}
use native.Mathlib.Decide.{ℕ_discrete, dec_lt}
use lib.Dec.{eqb, ltb}
use lib.ListN.{length, get_or, length-append, get_or-eq_default}
use borrow.Author.Tests.{eqb-true, eq-eqb, ne_eqb, ltb-true, ltb-false}
use Rattle.rules.specs.Tables.{pick, either, rows, collect, place_of, among, nobody, all, sum, count_of}
use Rattle.rules.specs.Waits.{Among, Different}

-- ---- tests
pub by_test : (t : Bool) {P : Type 0} → (t ≡ true → P) → (t ≡ false → P) → P
by_test true f g = f refl
by_test false f g = g refl

pub true_not_false : true ≡ false → ⊥
true_not_false z = let w : ◌≡◌ {A = ℕ} 0 1 = cc in omega arith

-- a test that is not passed is failed, and the other way round
pub not_passed : (t : Bool) → (t ≡ true → ⊥) → t ≡ false
not_passed true f = absurd (f refl)
not_passed false f = refl

pub not_failed : (t : Bool) → (t ≡ false → ⊥) → t ≡ true
not_failed true f = refl
not_failed false f = absurd (f refl)

-- two tests that are passed together are the same
pub same_test : (s t : Bool) → (s ≡ true → t ≡ true) → (t ≡ true → s ≡ true) → s ≡ t
same_test true t f g = sym (f refl)
same_test false true f g = g refl
same_test false false f g = refl

pub both_left : (s t : Bool) → s && t ≡ true → s ≡ true
both_left true t e = refl
both_left false t e = e

pub both_right : (s t : Bool) → s && t ≡ true → t ≡ true
both_right true t e = e
both_right false t e = absurd (true_not_false (sym e))

pub both : (s t : Bool) → s ≡ true → t ≡ true → s && t ≡ true
both true t e f = f
both false t e f = e

pub either_cases : (s t : Bool) → either s t ≡ true → (s ≡ true) ⊎ (t ≡ true)
either_cases true t e = inl refl
either_cases false t e = inr e

pub either_left : (s t : Bool) → s ≡ true → either s t ≡ true
either_left true t e = refl
either_left false t e = absurd (true_not_false (sym e))

pub either_right : (s t : Bool) → t ≡ true → either s t ≡ true
either_right true t e = refl
either_right false t e = e

-- ---- rows
module _ {A : Type 0} where
  -- the first place apart
  pub rows_front : (n : ℕ) (f : ℕ → A) → rows (suc n) f ≡ f 0 ∷ rows n (λ k. f (suc k))
  unfolding rows
  rows_front zero f = refl
  rows_front (suc n) f = ap (λ (l : List A). l ++ f (suc n) ∷ []) (rows_front n f)

  -- the last place apart
  pub rows_last : (n : ℕ) (f : ℕ → A) → rows (suc n) f ≡ rows n f ++ f n ∷ []
  unfolding rows
  rows_last n f = refl

  pub rows_ext : (n : ℕ) (f g : ℕ → A) → ((k : ℕ) → k < n → f k ≡ g k) → rows n f ≡ rows n g
  unfolding rows
  rows_ext zero f g e = refl
  rows_ext (suc n) f g e = ap₂ (λ (l : List A) (x : A). l ++ x ∷ []) (rows_ext n f g (λ k h. e k (omega arith))) (e n (omega arith))

  pub rows_length : (n : ℕ) (f : ℕ → A) → length (rows n f) ≡ n
  unfolding rows
  rows_length zero f = refl
  rows_length (suc n) f = omega (arith, length-append (rows n f) (f n ∷ []), rows_length n f)

  pub rows_at : (n : ℕ) (f : ℕ → A) (k : ℕ) (d : A) → k < n → get_or (rows n f) k d ≡ f k
  rows_at zero f k d h = absurd (omega arith)
  rows_at (suc n) f zero d h = rw rows_front
  rows_at (suc n) f (suc k) d h = rw rows_front (rows_at n (λ k. f (suc k)) k d (omega arith))

  pub rows_past : (n : ℕ) (f : ℕ → A) (k : ℕ) (d : A) → n ≤ k → get_or (rows n f) k d ≡ d
  rows_past n f k d h = get_or-eq_default (rows n f) d {n = k} (omega (arith, rows_length n f))

  -- a list is the rows of its places
  pub rows_of : (l : List A) (d : A) (r : List A) → rows (length l) (λ k. get_or (l ++ r) k d) ≡ l
  rows_of [] d r = unfold rows in refl
  rows_of (x ∷ l) d r = rows_front (length l) _ ∙ ap (λ (t : List A). x ∷ t) (rows_of l d r)

  pub rows_self : (l : List A) (d : A) → rows (length l) (λ k. get_or l k d) ≡ l
  rows_self [] d = unfold rows in refl
  rows_self (x ∷ l) d = rows_front (length l) _ ∙ ap (λ (t : List A). x ∷ t) (rows_self l d)

pub rows_map : {A B : Type 0} (g : A → B) (n : ℕ) (f : ℕ → A) → map g (rows n f) ≡ rows n (λ k. g (f k))
unfolding rows
rows_map g zero f = refl
rows_map {A} {B} g (suc n) f = map_last (rows n f) ∙ ap (λ (l : List B). l ++ g (f n) ∷ []) (rows_map g n f)
  where
    map_last : (l : List A) → map g (l ++ f n ∷ []) ≡ map g l ++ g (f n) ∷ []
    map_last [] = refl
    map_last (x ∷ l) = ap (λ (t : List B). g x ∷ t) (map_last l)

-- ---- membership: the test and the fact
pub among_is : (q : ℕ) (l : List ℕ) → among q l ≡ true → Among q l
unfolding among
among_is q [] e = true_not_false (sym e)
among_is q (x ∷ l) e = by_test (eqb x q) (λ z. inl (eqb-true x q z)) (λ z. inr (among_is q l (rw z at e)))

pub is_among : (q : ℕ) (l : List ℕ) → Among q l → among q l ≡ true
unfolding among
is_among q [] h = absurd h
is_among q (x ∷ l) (inl e) = rw (eq-eqb x q e)
is_among q (x ∷ l) (inr h) = by_test (eqb x q) (λ z. rw z) (λ z. rw z (is_among q l h))

pub not_among : (q : ℕ) (l : List ℕ) → (Among q l → ⊥) → among q l ≡ false
not_among q l f = not_passed (among q l) (λ e. f (among_is q l e))

pub among_not : (q : ℕ) (l : List ℕ) → among q l ≡ false → Among q l → ⊥
among_not q l e h = true_not_false (sym (is_among q l h) ∙ e)

pub among_append : (q : ℕ) (a b : List ℕ) → among q (a ++ b) ≡ either (among q a) (among q b)
unfolding among
among_append q [] b = refl
among_append q (x ∷ a) b = by_test (eqb x q) (λ z. rw z) (λ z. rw z (among_append q a b))

pub among_left : (q : ℕ) (a b : List ℕ) → Among q a → Among q (a ++ b)
among_left q [] b h = absurd h
among_left q (x ∷ a) b (inl e) = inl e
among_left q (x ∷ a) b (inr h) = inr (among_left q a b h)

pub among_right : (q : ℕ) (a b : List ℕ) → Among q b → Among q (a ++ b)
among_right q [] b h = h
among_right q (x ∷ a) b h = inr (among_right q a b h)

pub among_cases : (q : ℕ) (a b : List ℕ) → Among q (a ++ b) → Among q a ⊎ Among q b
among_cases q [] b h = inr h
among_cases q (x ∷ a) b (inl e) = inl (inl e)
among_cases q (x ∷ a) b (inr h) = ⊎_elim (λ z. inl (inr z)) (λ z. inr z) (among_cases q a b h)

-- who stands at a place is among them, and who is among them stands at a place
pub among_at : (l : List ℕ) (k d : ℕ) → k < length l → Among (get_or l k d) l
among_at [] k d h = absurd (omega arith)
among_at (x ∷ l) zero d h = inl refl
among_at (x ∷ l) (suc k) d h = inr (among_at l k d (omega arith))

pub among_place : (q : ℕ) (l : List ℕ) (d : ℕ) → Among q l → (k : ℕ) × (k < length l) × (get_or l k d ≡ q)
among_place q [] d h = absurd h
among_place q (x ∷ l) d (inl e) = (0, omega arith, e)
among_place q (x ∷ l) d (inr h) = let r = among_place q l d h in (suc r.0, omega arith, r.2)

pub among_rows : (q n : ℕ) (f : ℕ → ℕ) (k : ℕ) → k < n → f k ≡ q → Among q (rows n f)
among_rows q zero f k h e = absurd (omega arith)
among_rows q (suc n) f zero h e = rw rows_front (inl e)
among_rows q (suc n) f (suc k) h e = rw rows_front (inr (among_rows q n (λ j. f (suc j)) k (omega arith) e))

pub rows_place : (q n : ℕ) (f : ℕ → ℕ) → Among q (rows n f) → (k : ℕ) × (k < n) × (f k ≡ q)
rows_place q zero f h = absurd (unfold rows in h)
rows_place q (suc n) f h = ⊎_elim (λ e. (0, omega arith, e))
    (λ z. let r = rows_place q n (λ j. f (suc j)) z in (suc r.0, omega arith, r.2)) (rw rows_front at h)

-- different ones, and another behind them
pub different_last : (x : ℕ) (l : List ℕ) → Different l → (Among x l → ⊥) → Different (l ++ x ∷ [])
different_last x [] d f = ((λ z. z), tt)
different_last x (y ∷ l) d f = (
  (λ z. ⊎_elim (λ w. d.0 w) (λ w. ⊎_elim (λ e. f (inl (sym e))) (λ v. absurd v) w) (among_cases y l (x ∷ []) z)),
  different_last x l d.1 (λ z. f (inr z)),
)

-- ---- what is collected
pub collect_front : (t : ℕ → Bool) (f : ℕ → ℕ) (n : ℕ) → collect t f (suc n) ≡ pick (t 0) (f 0 ∷ []) [] ++ collect (λ k. t (suc k)) (λ k. f (suc k)) n
unfolding collect
collect_front t f zero = go (t 0)
  where
    go : (b : Bool) → [] ++ pick b (f 0 ∷ []) [] ≡ pick b (f 0 ∷ []) [] ++ []
    go true = refl
    go false = refl
collect_front t f (suc n) = ap (λ (l : List ℕ). l ++ pick (t (suc n)) (f (suc n) ∷ []) []) (collect_front t f n) ∙ assoc (t 0) _ _
  where
    assoc : (b : Bool) (c d : List ℕ) → (pick b (f 0 ∷ []) [] ++ c) ++ d ≡ pick b (f 0 ∷ []) [] ++ (c ++ d)
    assoc true c d = refl
    assoc false c d = refl

-- the last place apart, by its test
pub collect_last : (t : ℕ → Bool) (f : ℕ → ℕ) (n : ℕ) → collect t f (suc n) ≡ collect t f n ++ pick (t n) (f n ∷ []) []
unfolding collect
collect_last t f n = refl

pub collect_ext : (t u : ℕ → Bool) (f g : ℕ → ℕ) (n : ℕ) → ((k : ℕ) → k < n → t k ≡ u k) → ((k : ℕ) → k < n → f k ≡ g k) → collect t f n ≡ collect u g n
unfolding collect
collect_ext t u f g zero e h = refl
collect_ext t u f g (suc n) e h = rw (e n (omega arith), h n (omega arith), collect_ext t u f g n (λ k l. e k (omega arith)) (λ k l. h k (omega arith)))

pub collect_le : (t : ℕ → Bool) (f : ℕ → ℕ) (n : ℕ) → length (collect t f n) ≤ n
unfolding collect
collect_le t f zero = omega arith
collect_le t f (suc n) = omega (arith, length-append (collect t f n) (pick (t n) (f n ∷ []) []), collect_le t f n, one (t n))
  where
    one : (b : Bool) → length (pick b (f n ∷ []) []) ≤ 1
    one true = omega arith
    one false = omega arith

-- q is collected: it stands at a place that passes the test
pub record Collected (t : ℕ → Bool) (f : ℕ → ℕ) (n q : ℕ) : Type 0 where
  pub place : ℕ
  pub inside : place < n
  pub passes : t place ≡ true
  pub is : f place ≡ q

pub collected : (t : ℕ → Bool) (f : ℕ → ℕ) (n q : ℕ) → Among q (collect t f n) → Collected t f n q
unfolding collect
collected t f zero q h = absurd h
collected t f (suc n) q h = ⊎_elim
    (λ z. let r = collected t f n q z in record { place = r.place; inside = omega (arith, r.inside); passes = r.passes; is = r.is })
    (λ z. by_test (t n) (λ e. here e (rw e at z)) (λ e. absurd (rw e at z)))
    (among_cases q (collect t f n) (pick (t n) (f n ∷ []) []) h)
  where
    here : t n ≡ true → (f n ≡ q) ⊎ ⊥ → Collected t f (suc n) q
    here e (inl z) = record { place = n; inside = omega arith; passes = e; is = z }
    here e (inr z) = absurd z

pub collects : (t : ℕ → Bool) (f : ℕ → ℕ) (n q : ℕ) → Collected t f n q → Among q (collect t f n)
unfolding collect
collects t f zero q r = absurd (omega (arith, r.inside))
collects t f (suc n) q r = elim (ℕ_discrete r.place n) [
  | yes e ↦ among_right q (collect t f n) _ (rw (sym (ap t e) ∙ r.passes) (inl (sym (ap f e) ∙ r.is)))
  | no g ↦ among_left q (collect t f n) _ (collects t f n q (record { place = r.place; inside = omega (arith, r.inside); passes = r.passes; is = r.is }))
]

pub collect_none : (t : ℕ → Bool) (f : ℕ → ℕ) (n : ℕ) → ((k : ℕ) → k < n → t k ≡ false) → collect t f n ≡ []
unfolding collect
collect_none t f zero e = refl
collect_none t f (suc n) e = rw (e n (omega arith), collect_none t f n (λ k h. e k (omega arith)))

pub none_collected : (t : ℕ → Bool) (f : ℕ → ℕ) (n : ℕ) → collect t f n ≡ [] → (k : ℕ) → k < n → t k ≡ false
none_collected t f n e k h = not_passed (t k) (λ z.
    let r : Among (f k) (collect t f n) = collects t f n (f k) (record { place = k; inside = h; passes = z; is = refl }) in rw e at r)

-- nobody is in an empty list alone
pub nobody_is : (l : List ℕ) → nobody l ≡ true → l ≡ []
nobody_is [] e = refl
nobody_is (x ∷ l) e = absurd (true_not_false (sym e))

pub somebody : (l : List ℕ) → nobody l ≡ false → (q : ℕ) × Among q l
somebody [] e = absurd (true_not_false e)
somebody (x ∷ l) e = (x, inl refl)

pub nobody_from : (l : List ℕ) → ((q : ℕ) → Among q l → ⊥) → nobody l ≡ true
nobody_from [] f = refl
nobody_from (x ∷ l) f = absurd (f x (inl refl))

-- ---- the first place of a number
module _ (p : ℕ) where
  pub place_here : (n : ℕ) (f : ℕ → ℕ) → f 0 ≡ p → place_of (suc n) f p ≡ 0
  unfolding place_of
  place_here n f e = rw (eq-eqb (f 0) p e, place_of)

  pub place_next : (n : ℕ) (f : ℕ → ℕ) → f 0 ≢ p → place_of (suc n) f p ≡ suc (place_of n (λ k. f (suc k)) p)
  unfolding place_of
  place_next n f e = rw (ne_eqb (f 0) p e, place_of)

  pub place_le : (n : ℕ) (f : ℕ → ℕ) → place_of n f p ≤ n
  unfolding place_of
  place_le zero f = omega arith
  place_le (suc n) f = elim (ℕ_discrete (f 0) p) [
    | yes e ↦ omega (arith, place_here n f e)
    | no g ↦ omega (arith, place_next n f g, place_le n (λ k. f (suc k)))
  ]

  -- a place inside is a place of p
  pub place_is : (n : ℕ) (f : ℕ → ℕ) → place_of n f p < n → f (place_of n f p) ≡ p
  unfolding place_of
  place_is zero f h = absurd (omega arith)
  place_is (suc n) f h = elim (ℕ_discrete (f 0) p) [
    | yes e ↦ rw (place_here n f e) e
    | no g ↦ rw (place_next n f g) (place_is n (λ k. f (suc k)) (omega (arith, place_next n f g)))
  ]

  -- no earlier place is
  pub place_before : (n : ℕ) (f : ℕ → ℕ) (j : ℕ) → j < place_of n f p → f j ≢ p
  unfolding place_of
  place_before zero f j h = absurd (omega arith)
  place_before (suc n) f j h = elim (ℕ_discrete (f 0) p) [
    | yes e ↦ absurd (omega (arith, place_here n f e))
    | no g ↦ later j g (place_before n (λ k. f (suc k))) (omega (arith, place_next n f g))
  ]
    where
      later : (j : ℕ) → f 0 ≢ p → ((i : ℕ) → i < place_of n (λ k. f (suc k)) p → f (suc i) ≢ p) → j < suc (place_of n (λ k. f (suc k)) p) → f j ≢ p
      later zero g r l = g
      later (suc j) g r l = r j (omega arith)

  pub place_first : (n : ℕ) (f : ℕ → ℕ) (k : ℕ) → k < n → ((j : ℕ) → j < k → f j ≢ p) → f k ≡ p → place_of n f p ≡ k
  place_first zero f k h g e = absurd (omega arith)
  place_first (suc n) f zero h g e = place_here n f e
  place_first (suc n) f (suc k) h g e = place_next n f (g 0 (omega arith)) ∙ ap suc (place_first n (λ j. f (suc j)) k (omega arith) (λ j l. g (suc j) (omega arith)) e)

  -- where p stands nowhere, the place is the number of places
  pub place_none : (n : ℕ) (f : ℕ → ℕ) → ((k : ℕ) → k < n → f k ≢ p) → place_of n f p ≡ n
  unfolding place_of
  place_none zero f g = refl
  place_none (suc n) f g = place_next n f (g 0 (omega arith)) ∙ ap suc (place_none n (λ j. f (suc j)) (λ k l. g (suc k) (omega arith)))

  pub place_some : (n : ℕ) (f : ℕ → ℕ) (k : ℕ) → k < n → f k ≡ p → place_of n f p ≤ k
  place_some n f k h e = elim (dec_lt k (place_of n f p)) [ yes l ↦ absurd (place_before n f k l e) | no g ↦ omega arith ]

  pub place_ext : (n : ℕ) (f g : ℕ → ℕ) → ((k : ℕ) → k < n → f k ≡ g k) → place_of n f p ≡ place_of n g p
  unfolding place_of
  place_ext zero f g e = refl
  place_ext (suc n) f g e = elim (ℕ_discrete (f 0) p) [
    | yes z ↦ place_here n f z ∙ sym (place_here n g (sym (e 0 (omega arith)) ∙ z))
    | no w ↦ place_next n f w ∙ ap suc (place_ext n (λ k. f (suc k)) (λ k. g (suc k)) (λ k h. e (suc k) (omega arith))) ∙ sym (place_next n g (λ z. w (e 0 (omega arith) ∙ z)))
  ]

-- ---- tests of every place
pub all_at : (n : ℕ) (t : ℕ → Bool) → all n t ≡ true → (k : ℕ) → k < n → t k ≡ true
unfolding all
all_at zero t e k h = absurd (omega arith)
all_at (suc n) t e k h = elim (ℕ_discrete k n) [
  | yes z ↦ rw z (both_right (all n t) (t n) e)
  | no g ↦ all_at n t (both_left (all n t) (t n) e) k (omega arith)
]

pub all_from : (n : ℕ) (t : ℕ → Bool) → ((k : ℕ) → k < n → t k ≡ true) → all n t ≡ true
unfolding all
all_from zero t e = refl
all_from (suc n) t e = both (all n t) (t n) (all_from n t (λ k h. e k (omega arith))) (e n (omega arith))

pub all_fails : (n : ℕ) (t : ℕ → Bool) → all n t ≡ false → (k : ℕ) × (k < n) × (t k ≡ false)
unfolding all
all_fails zero t e = absurd (true_not_false e)
all_fails (suc n) t e = by_test (t n)
    (λ z. let r = all_fails n t (go (all n t) (t n) z e) in (r.0, omega arith, r.2))
    (λ z. (n, omega arith, z))
  where
    go : (s t : Bool) → t ≡ true → s && t ≡ false → s ≡ false
    go true t f e = absurd (true_not_false (sym f ∙ e))
    go false t f e = refl

pub all_fail : (n : ℕ) (t : ℕ → Bool) (k : ℕ) → k < n → t k ≡ false → all n t ≡ false
all_fail n t k h e = not_passed (all n t) (λ z. true_not_false (sym (all_at n t z k h) ∙ e))

-- a loop that tests every place: one more is passed, and the loop ends at the last
pub all_next : (k : ℕ) (t : ℕ → Bool) → all k t ≡ true → t k ≡ true → all (k + 1) t ≡ true
unfolding all
all_next k t h e = rw (add-one, h, e)

pub all_end : {k n : ℕ} (t : ℕ → Bool) → all k t ≡ true → k ≤ n → n ≤ k → all n t ≡ true
all_end {k} {n} t h l g = let z : n ≡ k = omega arith in rw z h

pub all_ext : (n : ℕ) (t u : ℕ → Bool) → ((k : ℕ) → k < n → t k ≡ u k) → all n t ≡ all n u
unfolding all
all_ext zero t u e = refl
all_ext (suc n) t u e = rw (e n (omega arith), all_ext n t u (λ k h. e k (omega arith)))

-- ---- sums
pub sum_ext : (n : ℕ) (f g : ℕ → ℕ) → ((k : ℕ) → k < n → f k ≡ g k) → sum n f ≡ sum n g
unfolding sum
sum_ext zero f g e = refl
sum_ext (suc n) f g e = omega (arith, e n (omega arith), sum_ext n f g (λ k h. e k (omega arith)))

-- the first place apart
pub sum_front : (n : ℕ) (f : ℕ → ℕ) → sum (suc n) f ≡ f 0 + sum n (λ k. f (suc k))
unfolding sum
sum_front zero f = omega arith
sum_front (suc n) f = omega (arith, sum_front n f)

-- one value changed: what the sum had of it goes, and the new one comes
pub sum_change : (n : ℕ) (f g : ℕ → ℕ) (i : ℕ) → i < n → ((k : ℕ) → k < n → k ≢ i → g k ≡ f k) → sum n g + f i ≡ sum n f + g i
unfolding sum
sum_change zero f g i h e = absurd (omega arith)
sum_change (suc n) f g i h e = elim (ℕ_discrete i n) [
  | yes z ↦ rw z (omega (arith, sum_ext n g f (λ k l. e k (omega arith) (λ w. omega arith))))
  | no w ↦ omega (arith, e n (omega arith) (λ z. w (sym z)), sum_change n f g i (omega arith) (λ k l. e k (omega arith)))
]

pub sum_zero : (n : ℕ) (f : ℕ → ℕ) → ((k : ℕ) → k < n → f k ≡ 0) → sum n f ≡ 0
unfolding sum
sum_zero zero f e = refl
sum_zero (suc n) f e = omega (arith, e n (omega arith), sum_zero n f (λ k h. e k (omega arith)))

pub sum_le : (n : ℕ) (f g : ℕ → ℕ) → ((k : ℕ) → k < n → f k ≤ g k) → sum n f ≤ sum n g
unfolding sum
sum_le zero f g e = omega arith
sum_le (suc n) f g e = omega (arith, e n (omega arith), sum_le n f g (λ k h. e k (omega arith)))

pub sum_bound : (n : ℕ) (f : ℕ → ℕ) (c : ℕ) → ((k : ℕ) → k < n → f k ≤ c) → sum n f ≤ n * c
unfolding sum
sum_bound zero f c e = omega arith
sum_bound (suc n) f c e = omega (arith, suc-mul n c, e n (omega arith), sum_bound n f c (λ k h. e k (omega arith)))

-- a bound, where one value falls short of it
pub sum_short : (n : ℕ) (f : ℕ → ℕ) (c i : ℕ) → i < n → ((k : ℕ) → k < n → f k ≤ c) → sum n f + c ≤ n * c + f i
unfolding sum
sum_short zero f c i h e = absurd (omega arith)
sum_short (suc n) f c i h e = elim (ℕ_discrete i n) [
  | yes z ↦ rw z (omega (arith, suc-mul n c, sum_bound n f c (λ k h. e k (omega arith))))
  | no w ↦ omega (arith, suc-mul n c, e n (omega arith), sum_short n f c i (omega arith) (λ k h. e k (omega arith)))
]

pub sum_same : (n c : ℕ) → sum n (λ k. c) ≡ n * c
unfolding sum
sum_same zero c = omega arith
sum_same (suc n) c = omega (arith, suc-mul n c, sum_same n c)

-- a sum has each of its values, and each two of them
pub sum_at : (n : ℕ) (f : ℕ → ℕ) (i : ℕ) → i < n → f i ≤ sum n f
unfolding sum
sum_at zero f i h = absurd (omega arith)
sum_at (suc n) f i h = elim (ℕ_discrete i n) [ yes z ↦ rw z (omega arith) | no w ↦ omega (arith, sum_at n f i (omega arith)) ]

pub sum_two : (n : ℕ) (f : ℕ → ℕ) (i j : ℕ) → i < n → j < n → i ≢ j → f i + f j ≤ sum n f
unfolding sum
sum_two zero f i j h l g = absurd (omega arith)
sum_two (suc n) f i j h l g = elim (ℕ_discrete i n) [
  | yes z ↦ rw z (omega (arith, sum_at n f j (omega (arith, g))))
  | no w ↦ elim (ℕ_discrete j n) [
    | yes z ↦ rw z (omega (arith, sum_at n f i (omega arith)))
    | no u ↦ omega (arith, sum_two n f i j (omega arith) (omega arith) g)
  ]
]

pub sum_add : (n : ℕ) (f g : ℕ → ℕ) → sum n (λ k. f k + g k) ≡ sum n f + sum n g
unfolding sum
sum_add zero f g = refl
sum_add (suc n) f g = omega (arith, sum_add n f g)

-- a sum of sums, in either order
pub sum_swap : (n m : ℕ) (f : ℕ → ℕ → ℕ) → sum n (λ i. sum m (λ j. f i j)) ≡ sum m (λ j. sum n (λ i. f i j))
unfolding sum
sum_swap zero m f = sym (sum_zero m (λ j. 0) (λ k h. refl))
sum_swap (suc n) m f = ap (λ (x : ℕ). x + sum m (f n)) (sum_swap n m f) ∙ sym (sum_add m (λ j. sum n (λ i. f i j)) (f n))

-- ---- how many pass a test
abbrev counted : Bool → ℕ
counted b = pick b 1 0

counts : (b : Bool) → b ≡ true → counted b ≡ 1
counts b e = ap counted e

counts_not : (b : Bool) → b ≡ false → counted b ≡ 0
counts_not b e = ap counted e

pub count_ext : (n : ℕ) (t u : ℕ → Bool) → ((k : ℕ) → k < n → t k ≡ u k) → count_of n t ≡ count_of n u
count_ext n t u e = sum_ext n _ _ (λ k h. ap (λ (b : Bool). pick b 1 0) (e k h))

pub count_le : (n : ℕ) (t : ℕ → Bool) → count_of n t ≤ n
count_le n t = omega (arith, sum_bound n (λ k. pick (t k) 1 0) 1 (λ k h. one (t k)))
  where
    one : (b : Bool) → pick b 1 0 ≤ 1
    one true = omega arith
    one false = omega arith

pub count_zero : (n : ℕ) (t : ℕ → Bool) → ((k : ℕ) → k < n → t k ≡ false) → count_of n t ≡ 0
count_zero n t e = sum_zero n _ (λ k h. rw (e k h))

pub count_positive : (n : ℕ) (t : ℕ → Bool) (k : ℕ) → k < n → t k ≡ true → 0 < count_of n t
count_positive n t k h e = omega (arith, counts (t k) e, sum_at n (λ k. pick (t k) 1 0) k h)

pub count_none : (n : ℕ) (t : ℕ → Bool) → count_of n t ≡ 0 → (k : ℕ) → k < n → t k ≡ false
count_none n t e k h = not_passed (t k) (λ z. omega (arith, count_positive n t k h z))

pub count_some : (n : ℕ) (t : ℕ → Bool) → 0 < count_of n t → (k : ℕ) × (k < n) × (t k ≡ true)
unfolding sum
count_some zero t h = absurd (omega arith)
count_some (suc n) t h = by_test (t n)
    (λ z. (n, omega arith, z))
    (λ z. let r = count_some n t (omega (arith, counts_not (t n) z)) in (r.0, omega arith, r.2))

-- where at most one passes, two that pass are the same
pub count_one : (n : ℕ) (t : ℕ → Bool) → count_of n t ≤ 1 → (i j : ℕ) → i < n → j < n → t i ≡ true → t j ≡ true → i ≡ j
count_one n t c i j h l e d = elim (ℕ_discrete i j) [
  | yes z ↦ z
  | no g ↦ absurd (omega (arith, counts (t i) e, counts (t j) d, sum_two n (λ k. pick (t k) 1 0) i j h l g))
]

-- one test changed
pub count_change : (n : ℕ) (t u : ℕ → Bool) (i : ℕ) → i < n → ((k : ℕ) → k < n → k ≢ i → u k ≡ t k) → count_of n u + pick (t i) 1 0 ≡ count_of n t + pick (u i) 1 0
count_change n t u i h e = sum_change n (λ k. pick (t k) 1 0) (λ k. pick (u k) 1 0) i h (λ k l g. ap (λ (b : Bool). pick b 1 0) (e k l g))

-- a number below n is counted once among the numbers below n
pub count_self : (n x : ℕ) → x < n → count_of n (λ q. eqb x q) ≡ 1
unfolding sum
count_self zero x h = absurd (omega arith)
count_self (suc n) x h = elim (ℕ_discrete x n) [
  | yes e ↦ omega (arith, counts (eqb x n) (eq-eqb x n e), count_zero n (λ q. eqb x q) (λ k l. ne_eqb x k (λ z. omega arith)))
  | no f ↦ omega (arith, counts_not (eqb x n) (ne_eqb x n f), count_self n x (omega arith))
]

-- different places of different numbers: no number is counted twice
count_different : (n : ℕ) (f : ℕ → ℕ) (q : ℕ) → ((i j : ℕ) → i < n → j < n → f i ≡ f j → i ≡ j) → count_of n (λ k. eqb (f k) q) ≤ 1
unfolding sum
count_different zero f q a = omega arith
count_different (suc n) f q a = by_test (eqb (f n) q)
    (λ z. omega (
      arith,
      counts (eqb (f n) q) z,
      count_zero n (λ k. eqb (f k) q)
          (λ k l. ne_eqb (f k) q (λ e. omega (arith, a k n (omega arith) (omega arith) (e ∙ sym (eqb-true (f n) q z))))),
    ))
    (λ z. omega (arith, counts_not (eqb (f n) q) z, count_different n f q (λ i j h l. a i j (omega arith) (omega arith))))

-- n different numbers below n are all of them
pub different_numbers : (n : ℕ) (f : ℕ → ℕ) → ((k : ℕ) → k < n → f k < n) → ((i j : ℕ) → i < n → j < n → f i ≡ f j → i ≡ j)
    → (q : ℕ) → q < n → (k : ℕ) × (k < n) × (f k ≡ q)
different_numbers n f b a q h = by_test (ltb 0 (many q))
    (λ z. let r = count_some n (λ k. eqb (f k) q) (ltb-true 0 (many q) z) in (r.0, r.1, eqb-true (f r.0) q r.2))
    (λ z. absurd (omega (arith, total, sum_short n many 1 q h (λ p l. count_different n f p a), ltb-false 0 (many q) z)))
  where
    many : ℕ → ℕ
    many p = count_of n (λ k. eqb (f k) p)

    total : sum n many ≡ n * 1
    total = sym (sum_swap n n (λ k p. pick (eqb (f k) p) 1 0)) ∙ sum_ext n _ (λ k. 1) (λ k l. count_self n (f k) (b k l)) ∙ sum_same n 1
