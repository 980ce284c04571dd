-- Laws of undo: the ring of 65 places stands for a list of desks, newest first. A change goes in front of it and what is past the 64 before
-- it falls off; an undo gives back the desk before the last change. All is arithmetic of places modulo 65. Assumes nothing.
use mathlib.Core.Path.{◌≡◌, refl, sym, ap, ◌∙◌}
use mathlib.Core.Bool.{Bool, true, false}
use mathlib.Core.Logic.{◌≢◌}
use mathlib.Core.List.{List, ◌∷◌}
use Prim.Native.Nat.{ℕ, zero, suc, ◌+◌, ◌-◌, ◌%◌, ◌≤◌, ◌<◌}
use native.Mathlib.Omega.{arith}
use native.Mathlib.Decide.{dec_lt}
use borrow.Author.Tests.{lt-ltb, le-ltb, eq-eqb, ne_eqb}
use lib.Dec.{ltb}
use lib.ListN.{length, get_or, set, take, length-take}
use lib.Seq.{ext_get_or, get_or-set_same, get_or-set_other, get_or-take, set-get_or}
use Rattle.rules.specs.Tables.{pick, rows}
use Rattle.rules.proofs.Tables.{by_test, rows_length, rows_at, rows_front, rows_ext}
use Rattle.undo.specs.declared.Kept.{Kept}
use Rattle.undo.specs.Undo.{place, back, next, one_step_more, before, one_less, history, pushed, popped, changed_by, undone_by}

-- ---- the tests of the functions, one after another
module _ (k : Kept) where
  pub more_not : (changed : Bool) → changed ≡ false → k ≡ one_step_more k changed
  unfolding one_step_more
  more_not changed e = rw e

  pub more_few : (changed : Bool) → changed ≡ true → k.count < 64 → ◌≡◌ {A = Kept} (record { top = k.top % 65 + 1; count = k.count + 1; dropped = k.dropped }) (one_step_more k changed)
  unfolding one_step_more
  more_few changed e h = rw (e, lt-ltb k.count 64 h)

  pub more_full : (changed : Bool) → changed ≡ true → 64 ≤ k.count → ◌≡◌ {A = Kept} (record { top = k.top % 65 + 1; count = 64; dropped = true }) (one_step_more k changed)
  unfolding one_step_more
  more_full changed e h = rw (e, le-ltb k.count 64 h)

  pub less_not : (asked : Bool) → asked ≡ false → k ≡ one_less k asked
  unfolding one_less
  less_not asked e = rw e

  pub less_none : (asked : Bool) → asked ≡ true → k.count ≡ 0 → k ≡ one_less k asked
  unfolding one_less
  less_none asked e h = rw (e, eq-eqb k.count 0 h)

  pub less_one : (asked : Bool) → asked ≡ true → k.count ≢ 0 → ◌≡◌ {A = Kept} (record { top = k.top % 65 + 64; count = k.count - 1; dropped = k.dropped }) (one_less k asked)
  unfolding one_less
  less_one asked e h = rw (e, ne_eqb k.count 0 h)

-- ---- the places after a change and after an undo
next_top : (k : Kept) → (next k).top ≡ k.top % 65 + 1
next_top k = by_test (ltb k.count 64) (λ e. rw e) (λ e. rw e)

next_few : (k : Kept) → k.count < 64 → (next k).count ≡ suc k.count
next_few k h = rw (lt-ltb k.count 64 h) (omega arith)

next_full : (k : Kept) → 64 ≤ k.count → (next k).count ≡ 64
next_full k h = rw (le-ltb k.count 64 h)

before_top : (k : Kept) → 0 < k.count → (before k).top ≡ k.top % 65 + 64
before_top k h = rw (ne_eqb k.count 0 (λ z. omega arith))

before_count : (k : Kept) → 0 < k.count → (before k).count ≡ k.count - 1
before_count k h = rw (ne_eqb k.count 0 (λ z. omega arith))

-- at most 64 changes are kept
pub more_kept : (k : Kept) (changed : Bool) → k.count ≤ 64 → (one_step_more k changed).count ≤ 64
unfolding one_step_more
more_kept k false h = h
more_kept k true h = elim (dec_lt k.count 64) [ yes l ↦ omega (arith, next_few k l) | no f ↦ omega (arith, next_full k (omega (arith, f))) ]

pub less_kept : (k : Kept) (asked : Bool) → k.count ≤ 64 → (one_less k asked).count ≤ 64
unfolding one_less
less_kept k false h = h
less_kept k true h = elim (dec_lt 0 k.count) [ yes l ↦ omega (arith, before_count k l) | no f ↦ rw (eq-eqb k.count 0 (omega (arith, f))) h ]

-- over a line: what it changed, then what it asked to take back
pub line_kept : (k more less : Kept) (changed asked : Bool) → more ≡ one_step_more k changed → less ≡ one_less more asked → k.count ≤ 64 → less.count ≤ 64
line_kept k more less changed asked e f h = rw (f, e) (less_kept (one_step_more k changed) asked (more_kept k changed h))

-- and it is said when one more was dropped
pub dropped_said : (k : Kept) → (one_step_more k true).dropped ≡ pick (ltb k.count 64) k.dropped true
unfolding one_step_more
dropped_said k = by_test (ltb k.count 64) (λ e. rw e) (λ e. rw e)

-- ---- the list that the ring stands for
module _ {A : Type 0} (zeros : A) (past : List A) (k : Kept) where
  history_length : length (history zeros past k) ≡ suc k.count
  unfolding history
  history_length = rows_length (suc k.count) _

  history_at : (i : ℕ) → i ≤ k.count → get_or (history zeros past k) i zeros ≡ get_or past (back k i) zeros
  unfolding history
  history_at i h = rows_at (suc k.count) (λ j. get_or past (back k j) zeros) i zeros (omega arith)

  -- the desk is its first
  pub desk_first : get_or (history zeros past k) 0 zeros ≡ get_or past (place k) zeros
  desk_first = history_at 0 (omega arith) ∙ ap (λ (j : ℕ). get_or past j zeros) (omega arith)

  module _ (full : length past ≡ 65) (kept : k.count ≤ 64) where
    back_same : (j : ℕ) → j < 65 → back (next k) (suc j) ≡ back k j
    back_same j h = omega (arith, next_top k)

    back_other : (j : ℕ) → j < 64 → back (next k) (suc j) ≢ place (next k)
    back_other j h z = omega (arith, next_top k)

    next_le : (next k).count ≤ suc k.count
    next_le = elim (dec_lt k.count 64) [ yes l ↦ omega (arith, next_few k l) | no f ↦ omega (arith, next_full k (omega (arith, f))) ]

    next_most : (next k).count ≤ 64
    next_most = elim (dec_lt k.count 64) [ yes l ↦ omega (arith, next_few k l) | no f ↦ omega (arith, next_full k (omega (arith, f))) ]

    pushed_length : (x : A) → suc (next k).count ≡ length (pushed x (history zeros past k))
    pushed_length x = elim (dec_lt k.count 64) [
      | yes l ↦ omega (arith, next_few k l, length-take 64 (history zeros past k), history_length)
      | no f ↦ omega (arith, next_full k (omega (arith, f)), length-take 64 (history zeros past k), history_length)
    ]

    pushed_at : (x : A) (i : ℕ) → i ≤ (next k).count → get_or (set past (place (next k)) x) (back (next k) i) zeros ≡ get_or (pushed x (history zeros past k)) i zeros
    pushed_at x zero h =
        let here : back (next k) 0 ≡ place (next k) = omega arith in
        ap (λ (j : ℕ). get_or (set past (place (next k)) x) j zeros) here ∙ get_or-set_same past (place (next k)) x zeros (omega arith)
    pushed_at x (suc j) h =
        get_or-set_other past (place (next k)) (back (next k) (suc j)) x zeros (back_other j (omega (arith, next_most)))
        ∙ ap (λ (i : ℕ). get_or past i zeros) (back_same j (omega (arith, next_most)))
        ∙ sym (history_at j (omega (arith, next_le)))
        ∙ sym (get_or-take 64 (history zeros past k) j zeros (omega (arith, next_most)))

-- ---- a change, and an undo
popped_rows : {A : Type 0} (m : ℕ) (f : ℕ → A) → popped (rows (suc (suc m)) f) ≡ rows (suc m) (λ i. f (suc i))
popped_rows m f = rw (rows_front (suc m) f, rows_front m (λ i. f (suc i)))

popped_one : {A : Type 0} (f : ℕ → A) → popped (rows 1 f) ≡ rows 1 f
unfolding rows
popped_one f = refl

module _ {A : Type 0} (zeros : A) (past : List A) (k : Kept) (full : length past ≡ 65) (kept : k.count ≤ 64) where
  next_is : (x : A) → history zeros (set past (place (next k)) x) (next k) ≡ pushed x (history zeros past k)
  next_is x =
      let new : List A = set past (place (next k)) x in
      ext_get_or zeros (history zeros new (next k)) (pushed x (history zeros past k))
      (history_length zeros new (next k) ∙ pushed_length zeros past k full kept x)
      (λ i l. history_at zeros new (next k) i (omega (arith, l, history_length zeros new (next k))) ∙ pushed_at zeros past k full kept x i (omega (arith, l, history_length zeros new (next k))))

  before_some : 0 < k.count → history zeros past (before k) ≡ popped (history zeros past k)
  unfolding history
  before_some l =
      let f : ℕ → A = λ i. get_or past (back k i) zeros in
      let e : k.count ≡ suc (before k).count = omega (arith, before_count k l) in
      rows_ext (suc (before k).count) _ (λ i. f (suc i)) (λ i h. ap (λ (j : ℕ). get_or past j zeros) (omega (arith, before_top k l)))
      ∙ sym (popped_rows (before k).count f)
      ∙ ap (λ (n : ℕ). popped (rows (suc n) f)) (sym e)

  before_none : k.count ≡ 0 → history zeros past (before k) ≡ popped (history zeros past k)
  unfolding history
  before_none z =
      let f : ℕ → A = λ i. get_or past (back k i) zeros in
      let same : before k ≡ k = rw (eq-eqb k.count 0 z) in
      let one : rows (suc k.count) f ≡ rows 1 f = ap (λ (n : ℕ). rows (suc n) f) z in
      ap (λ (j : Kept). history zeros past j) same ∙ one ∙ sym (popped_one f) ∙ ap popped (sym one)

  -- what one more change makes of it; the desk that did not change is written where it stands
  pub more_is : (changed : Bool) (x : A) → (changed ≡ false → x ≡ get_or past (place k) zeros)
      → history zeros (set past (place (one_step_more k changed)) x) (one_step_more k changed) ≡ changed_by changed x (history zeros past k)
  unfolding one_step_more
  more_is true x e = next_is x
  more_is false x e = ap (λ (l : List A). history zeros l k) (ap (set past (place k)) (e refl) ∙ set-get_or past (place k) zeros)

  -- what an undo makes of it
  pub less_is : (asked : Bool) → history zeros past (one_less k asked) ≡ undone_by asked (history zeros past k)
  unfolding one_less
  less_is true = elim (dec_lt 0 k.count) [ yes l ↦ before_some l | no f ↦ before_none (omega (arith, f)) ]
  less_is false = refl

-- an undo of a change gives back the desks before it, of which the oldest may have been dropped
pub undone : {A : Type 0} (x y : A) (h : List A) → popped (pushed x (y ∷ h)) ≡ take 64 (y ∷ h)
undone x y h = refl
