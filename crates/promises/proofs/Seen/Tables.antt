-- The tables of the rules beside the lists and functions of the model.
use mathlib.Core.Path.{◌≡◌, refl, ap, ap₂, sym, ◌∙◌, fun_ext}
use mathlib.Core.Logic.{inl, inr, ◌≢◌, ite, if_pos, if_neg}
use mathlib.Core.Bool.{Bool, true, false}
use mathlib.Core.Option.{none, some}
use mathlib.Core.List.{List, [], ◌∷◌, ◌++◌}
use Prim.Native.Nat.{ℕ, zero, suc, ◌<◌}
use native.Mathlib.Omega.{arith}
use native.Mathlib.Decide.{ℕ_discrete}
use lib.Dec.{eqb}
use lib.ListN.{length, get_or, set}
use lib.Seq.{get_or-set_same, get_or-set_other}
use borrow.Author.Tests.{eq-eqb, ne_eqb}
use Rattle.rules.specs.Tables.{pick, rows, collect, sum}
use Rattle.rules.specs.Waits.{Among}
use Rattle.rules.proofs.Tables.{rows_front, collect_front}
use Rattle.model.specs.Lists.{Has, is_empty}
use Rattle.model.specs.Tables.{put}
use Rattle.model.specs.Board.{Filled}
use Rattle.model.specs.Totals.{sum_to, sum_line}
use Rattle.model.specs.Book.{Waiter, Line, standing, conflict, only_if, unless_same, In, mode_in, ahead_of}
use Rattle.model.proofs.Tables.{put_same, put_other}

-- ---- tests
pub pick_eq : {A : Type 0} (a b : ℕ) (x y : A) → pick (eqb a b) x y ≡ ite (ℕ_discrete a b) x y
pick_eq a b x y = elim (ℕ_discrete a b) [
  | yes e ↦ rw (eq-eqb a b e) (sym (if_pos (ℕ_discrete a b) e x y))
  | no n ↦ rw (ne_eqb a b n) (sym (if_neg (ℕ_discrete a b) n x y))
]

pub pick_conflict : (m n : Bool) (q : ℕ) → pick (conflict m n) (q ∷ []) [] ≡ only_if (conflict m n) q
pick_conflict true n q = refl
pick_conflict false true q = refl
pick_conflict false false q = refl

unless_yes : {P : Type 0} (d : Dec P) (l : List ℕ) → P → unless_same d l ≡ []
unless_yes (yes z) l e = refl
unless_yes (no f) l e = absurd (f e)

-- ---- a line read off two tables
abbrev pub line : ℕ → (ℕ → ℕ) → (ℕ → Bool) → Line
line n w c = rows n (λ k. standing (w k) (c k))

abbrev pub those : Bool → ℕ → (ℕ → ℕ) → (ℕ → Bool) → List ℕ
those m n w c = collect (λ k. conflict m (c k)) w n

module _ (q : ℕ) where
  -- q stands at place k and at no earlier one: its mode, and those ahead
  pub stand_mode : (n : ℕ) (w : ℕ → ℕ) (c : ℕ → Bool) (k : ℕ) → k < n → ((j : ℕ) → j < k → w j ≢ q) → w k ≡ q → mode_in q (line n w c) ≡ some (c k)
  unfolding mode_in
  stand_mode zero w c k h f e = absurd (omega arith)
  stand_mode (suc n) w c zero h f e = rw (rows_front n (λ k. standing (w k) (c k))) (if_pos (ℕ_discrete (w 0) q) e _ _)
  stand_mode (suc n) w c (suc k) h f e = rw (rows_front n (λ k. standing (w k) (c k)))
      (if_neg (ℕ_discrete (w 0) q) (f 0 (omega arith)) _ _ ∙ stand_mode n (λ j. w (suc j)) (λ j. c (suc j)) k (omega arith) (λ j l. f (suc j) (omega arith)) e)

  -- another stands in front: it is ahead if it conflicts
  one_ahead : (m n : Bool) (x : ℕ) (l k : List ℕ) (d : Dec (x ≡ q)) → x ≢ q → l ≡ k → unless_same d (only_if (conflict m n) x ++ l) ≡ pick (conflict m n) (x ∷ []) [] ++ k
  one_ahead m n x l k (yes z) f e = absurd (f z)
  one_ahead m n x l k (no z) f e = ap₂ (λ (s t : List ℕ). s ++ t) (sym (pick_conflict m n x)) e

  pub stand_ahead : (m : Bool) (n : ℕ) (w : ℕ → ℕ) (c : ℕ → Bool) (k : ℕ) → k < n → ((j : ℕ) → j < k → w j ≢ q) → w k ≡ q → ahead_of q m (line n w c) ≡ those m k w c
  unfolding ahead_of collect
  stand_ahead m zero w c k h f e = absurd (omega arith)
  stand_ahead m (suc n) w c zero h f e = rw (rows_front n (λ k. standing (w k) (c k))) (unless_yes (ℕ_discrete (w 0) q) _ e)
  stand_ahead m (suc n) w c (suc k) h f e = rw (rows_front n (λ k. standing (w k) (c k)), collect_front (λ k. conflict m (c k)) w k)
      (one_ahead m (c 0) (w 0) _ _ (ℕ_discrete (w 0) q) (f 0 (omega arith)) (stand_ahead m n (λ j. w (suc j)) (λ j. c (suc j)) k (omega arith) (λ j l. f (suc j) (omega arith)) e))

  pub away_mode : (n : ℕ) (w : ℕ → ℕ) (c : ℕ → Bool) → ((j : ℕ) → j < n → w j ≢ q) → mode_in q (line n w c) ≡ none
  unfolding mode_in rows
  away_mode zero w c f = refl
  away_mode (suc n) w c f = rw (rows_front n (λ k. standing (w k) (c k))) (if_neg (ℕ_discrete (w 0) q) (f 0 (omega arith)) _ _ ∙ away_mode n (λ j. w (suc j)) (λ j. c (suc j)) (λ j l. f (suc j) (omega arith)))

-- who stands at a place stands in the line
pub in-line : (n : ℕ) (w : ℕ → ℕ) (c : ℕ → Bool) (k : ℕ) → k < n → In (w k) (c k) (rows n (λ k. standing (w k) (c k)))
in-line zero w c k h = absurd (omega arith)
in-line (suc n) w c zero h = rw (rows_front n (λ k. standing (w k) (c k))) (inl (refl, refl))
in-line (suc n) w c (suc k) h = rw (rows_front n (λ k. standing (w k) (c k))) (inr (in-line n (λ k. w (suc k)) (λ k. c (suc k)) k (omega arith)))

-- ---- sums, and numbers of ones in a line
pub sum_view : (n : ℕ) (f g : ℕ → ℕ) → ((k : ℕ) → k < n → f k ≡ g k) → sum n f ≡ sum_to n g
unfolding sum sum_to
sum_view zero f g e = refl
sum_view (suc n) f g e = omega (arith, sum_view n f g (λ k h. e k (omega arith)), e n (omega arith))

pub sum_ones : (l : Line) → sum_line (λ _. 1) l ≡ length l
unfolding sum_line
sum_ones [] = refl
sum_ones (e ∷ l) = omega (arith, sum_ones l)

-- ---- membership
pub has_to : (x : ℕ) (l : List ℕ) → Among x l → Has x l
has_to x [] x'' = elim x'' [ ]
has_to x (y ∷ l) (inl e) = inl e
has_to x (y ∷ l) (inr e) = inr (has_to x l e)

pub has_from : (x : ℕ) (l : List ℕ) → Has x l → Among x l
has_from x [] x'' = elim x'' [ ]
has_from x (y ∷ l) (inl e) = inl e
has_from x (y ∷ l) (inr e) = inr (has_from x l e)

-- ---- a table that is x at p and as before elsewhere
module _ {A : Type 0} where
  pub put_view : (g f : ℕ → A) (p : ℕ) (x : A) → g p ≡ x → ((q : ℕ) → q ≢ p → g q ≡ f q) → g ≡ put f p x
  put_view g f p x e h = fun_ext (λ q. elim (ℕ_discrete q p) [ yes z ↦ ap g z ∙ e ∙ sym (put_same f p q x z) | no n ↦ h q n ∙ sym (put_other f p q x n) ])

  pub put_self : (f : ℕ → A) (p : ℕ) (x : A) → x ≡ f p → put f p x ≡ f
  put_self f p x e = sym (put_view f f p x (sym e) (λ q n. refl))

-- one place of a list of records, written
pub seen_set : {A B : Type 0} (g : A → B) (l : List A) (i : ℕ) (x d : A) → i < length l → (λ q. g (get_or (set l i x) q d)) ≡ put (λ j. g (get_or l j d)) i (g x)
seen_set g l i x d h = put_view _ _ i _ (ap g (get_or-set_same l i x d h)) (λ q n. ap g (get_or-set_other l i q x d n))

-- one place of two lists side by side
pub seen_set_both : {A B C : Type 0} (g : A → B → C) (l : List A) (k : List B) (i : ℕ) (x d : A) (y e : B) → i < length l → i < length k
    → (λ q. g (get_or (set l i x) q d) (get_or (set k i y) q e)) ≡ put (λ j. g (get_or l j d) (get_or k j e)) i (g x y)
seen_set_both g l k i x d y e h h2 = put_view _ _ i _ (ap₂ g (get_or-set_same l i x d h) (get_or-set_same k i y e h2)) (λ q n. ap₂ g (get_or-set_other l i q x d n) (get_or-set_other k i q y e n))

pub empty_view : (n : ℕ) (f : ℕ → Waiter) → eqb n 0 ≡ is_empty (rows n f)
unfolding rows
empty_view zero f = refl
empty_view (suc n) f = ne_eqb (suc n) 0 (omega arith) ∙ sym (ap is_empty (rows_front n f))

-- ---- a ring's place that is filled
pub filled_to : (n : ℕ) (f : ℕ → ℕ) → 0 < n → Filled (rows n f)
filled_to zero f h = absurd (omega arith)
filled_to (suc n) f h = rw (rows_front n f) tt

pub filled_from : (n : ℕ) (f : ℕ → ℕ) → Filled (rows n f) → 0 < n
unfolding rows
filled_from zero f h = absurd h
filled_from (suc n) f h = omega arith
