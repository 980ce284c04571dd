-- Laws of an object's book: its holders and its line after a change, and whom a process in the line waits for. The ordered list of those it
-- waits for has exactly the processes that the sentence names: over a board, the relation `Waits`. Assumes nothing.
use mathlib.Core.Path.{◌≡◌, refl, sym, ap, ap₂, ◌∙◌}
use mathlib.Core.Logic.{◌≢◌, ◌⊎◌, inl, inr, ⊎_elim}
use mathlib.Core.Bool.{Bool, true, false, not}
use mathlib.Core.Option.{Option, none, some}
use mathlib.Core.List.{List, [], ◌∷◌, ◌++◌}
use Prim.Native.Nat.{ℕ, zero, suc, ◌+◌, ◌-◌, ◌^◌, ◌≤◌, ◌<◌}
use native.Mathlib.Numerals.{add-one}
use native.Mathlib.Omega.{arith}
use lib.Dec.{eqb, ltb}
use lib.ListN.{length, get_or, drop, length-append, length-set, length-drop}
use lib.Seq.{get_or-set_same, get_or-set_other}
use borrow.Author.Tests.{eqb-false, ne_eqb, lt-ltb, le-ltb, not-true}
use Rattle.rules.specs.declared.Mode.{Mode}
use Rattle.rules.specs.declared.Mode.TheVariants.{Shared, Exclusive}
use Rattle.rules.specs.declared.Object.{Object}
use Rattle.rules.specs.declared.Board.{Board}
use Rattle.rules.specs.Tables.{rows, collect, among, nobody}
use Rattle.rules.specs.Bits.{taken, without_bit, marked}
use Rattle.rules.specs.Book.{is_exclusive, mode_if, conflict, hold_in, against, holder_at, rival, rivals, clear, held, struck, who_at, mode_at, place_in, joined, without_front, bars, ahead, waited_for, front_clear, front_granted, granted_first, settled}
use Rattle.rules.specs.Board.{object_at}
use Rattle.rules.specs.Waits.{Stands, Waits, Among}
use Rattle.rules.specs.Waits as W
use Rattle.rules.proofs.Tables.{by_test, true_not_false, both, both_left, both_right, not_passed, among_is, is_among, among_left, among_right, among_cases, collected, collects, collect_none, nobody_is, rows_front, rows_last, rows_ext, place_le, place_is, place_before, place_first, place_none, place_some}
use Rattle.rules.proofs.Bits.{taken_half, marked_same, marked_other, without_same, without_other, taken_above}

-- ---- modes
pub mode-if : (m : Mode) → mode_if (is_exclusive m) ≡ m
mode-if Shared = refl
mode-if Exclusive = refl

pub exclusive_if : (x : Bool) → is_exclusive (mode_if x) ≡ x
exclusive_if true = refl
exclusive_if false = refl

pub conflict_sym : (m n : Mode) → conflict m n ≡ conflict n m
conflict_sym Shared Shared = refl
conflict_sym Shared Exclusive = refl
conflict_sym Exclusive Shared = refl
conflict_sym Exclusive Exclusive = refl

-- ---- holds
-- what two sets note of a number, by the sets
module _ (s x k : ℕ) where
  pub hold_exclusive : taken x k ≡ true → hold_in s x k ≡ some Exclusive
  unfolding hold_in
  hold_exclusive e = rw e

  pub hold_shared : taken x k ≡ false → taken s k ≡ true → hold_in s x k ≡ some Shared
  unfolding hold_in
  hold_shared e f = rw (e, f)

  pub hold_none : taken x k ≡ false → taken s k ≡ false → hold_in s x k ≡ none
  unfolding hold_in
  hold_none e f = rw (e, f)

  pub no_hold : hold_in s x k ≡ none → (taken x k ≡ false) × (taken s k ≡ false)
  no_hold e = (
    not_passed (taken x k) (λ z. let w : none ≡ some Exclusive = sym e ∙ hold_exclusive z in some_not_none w),
    not_passed (taken s k) (λ z. by_test (taken x k)
        (λ y. let w : none ≡ some Exclusive = sym e ∙ hold_exclusive y in some_not_none w)
        (λ y. let w : none ≡ some Shared = sym e ∙ hold_shared y z in some_not_none w)),
  )
    where
      some_not_none : {m : Mode} → none ≡ some m → ⊥
      some_not_none z = let w : ◌≡◌ {A = ℕ} 0 1 = cc in omega arith

  pub hold_same : (s' x' : ℕ) → taken s' k ≡ taken s k → taken x' k ≡ taken x k → hold_in s' x' k ≡ hold_in s x k
  unfolding hold_in
  hold_same s' x' e f = rw (e, f)

  -- no number at or above c is noted in sets of numbers below c
  pub hold_above : (c : ℕ) → s < 2 ^ c → x < 2 ^ c → c ≤ k → hold_in s x k ≡ none
  hold_above c h l g = hold_none (taken_above x k c l g) (taken_above s k c h g)

-- a hold noted, and a hold dropped: of the same number and of another
pub noted_same : (s x k : ℕ) (m : Mode) → hold_in (marked s k (not (is_exclusive m))) (marked x k (is_exclusive m)) k ≡ some m
noted_same s x k Shared = hold_shared _ _ k (marked_same x k false) (marked_same s k true)
noted_same s x k Exclusive = hold_exclusive _ _ k (marked_same x k true)

pub noted_other : (s x k : ℕ) (m : Mode) (j : ℕ) → j ≢ k → hold_in (marked s k (not (is_exclusive m))) (marked x k (is_exclusive m)) j ≡ hold_in s x j
noted_other s x k m j f = hold_same s x j _ _ (marked_other s k (not (is_exclusive m)) j f) (marked_other x k (is_exclusive m) j f)

pub dropped_same : (s x k : ℕ) → hold_in (without_bit s k) (without_bit x k) k ≡ none
dropped_same s x k = hold_none _ _ k (without_same x k) (without_same s k)

pub dropped_other : (s x k j : ℕ) → j ≢ k → hold_in (without_bit s k) (without_bit x k) j ≡ hold_in s x j
dropped_other s x k j f = hold_same s x j _ _ (without_other s k j f) (without_other x k j f)

-- the holders after a process becomes one, and after one is struck
pub held_same : (o : Object) (p : ℕ) (m : Mode) → holder_at (held o p m) p ≡ some m
held_same o p m = noted_same o.shared o.exclusive p m

pub held_other : (o : Object) (p : ℕ) (m : Mode) (q : ℕ) → q ≢ p → holder_at (held o p m) q ≡ holder_at o q
held_other o p m q f = noted_other o.shared o.exclusive p m q f

pub struck_same : (o : Object) (p : ℕ) → holder_at (struck o p) p ≡ none
struck_same o p = dropped_same o.shared o.exclusive p

pub struck_other : (o : Object) (p q : ℕ) → q ≢ p → holder_at (struck o p) q ≡ holder_at o q
struck_other o p q f = dropped_other o.shared o.exclusive p q f

-- ---- the line, as a list of processes and modes, the front first
abbrev pub line_of : Object → List (ℕ × Mode)
line_of o = rows o.line_count (λ k. (who_at o k, mode_at o k))

module _ (o : Object) (p : ℕ) (m : Mode) where
  -- a full line does not grow
  pub joined_full : 16 ≤ o.line_count → joined o p m ≡ o
  unfolding joined
  joined_full h = rw (le-ltb o.line_count 16 h)

  pub joined_holder : (q : ℕ) → holder_at (joined o p m) q ≡ holder_at o q
  unfolding joined
  joined_holder q = by_test (ltb o.line_count 16) (λ e. rw e) (λ e. rw e)

  module _ (room : o.line_count < 16) where
    pub joined_count : (joined o p m).line_count ≡ suc o.line_count
    unfolding joined
    joined_count = rw (lt-ltb o.line_count 16 room) (add-one o.line_count)

    pub joined_who : length o.line ≡ 16 → who_at (joined o p m) o.line_count ≡ p
    unfolding joined
    joined_who l = rw (lt-ltb o.line_count 16 room) (get_or-set_same o.line o.line_count p 0 (omega arith))

    pub joined_mode : mode_at (joined o p m) o.line_count ≡ m
    unfolding joined
    joined_mode = rw (lt-ltb o.line_count 16 room, marked_same) (mode-if m)

    pub joined_who_other : (k : ℕ) → k ≢ o.line_count → who_at (joined o p m) k ≡ who_at o k
    unfolding joined
    joined_who_other k f = rw (lt-ltb o.line_count 16 room) (get_or-set_other o.line o.line_count k p 0 f)

    pub joined_mode_other : (k : ℕ) → k ≢ o.line_count → mode_at (joined o p m) k ≡ mode_at o k
    unfolding joined
    joined_mode_other k f = rw (lt-ltb o.line_count 16 room) (ap mode_if (marked_other o.line_exclusive o.line_count (is_exclusive m) k f))

    -- one joins behind those in the line
    pub joined_line : length o.line ≡ 16 → line_of (joined o p m) ≡ line_of o ++ (p, m) ∷ []
    joined_line l = rw joined_count (rows_last o.line_count _ ∙ ap₂ (λ (t : List (ℕ × Mode)) (x : ℕ × Mode). t ++ x ∷ [])
        (rows_ext o.line_count _ _ (λ k h. ap₂ (λ (q : ℕ) (n : Mode). (q, n)) (joined_who_other k (λ z. omega arith)) (joined_mode_other k (λ z. omega arith))))
        (ap₂ (λ (q : ℕ) (n : Mode). (q, n)) (joined_who l) joined_mode))

  pub joined_size : length (joined o p m).line ≡ length o.line
  unfolding joined
  joined_size = by_test (ltb o.line_count 16) (λ e. rw e (length-set o.line o.line_count p)) (λ e. rw e)

-- the front leaves: each place is that of the one behind it
last_zero : (l : List ℕ) (k : ℕ) → get_or (l ++ 0 ∷ []) k 0 ≡ get_or l k 0
last_zero [] zero = refl
last_zero [] (suc k) = refl
last_zero (x ∷ l) zero = refl
last_zero (x ∷ l) (suc k) = last_zero l k

shifted : (l : List ℕ) (k : ℕ) → get_or (drop 1 l ++ 0 ∷ []) k 0 ≡ get_or l (suc k) 0
shifted [] zero = refl
shifted [] (suc k) = refl
shifted (x ∷ l) k = last_zero l k

pub front_left_who : (o : Object) (k : ℕ) → who_at (without_front o) k ≡ who_at o (suc k)
front_left_who o k = shifted o.line k

pub front_left_mode : (o : Object) (k : ℕ) → mode_at (without_front o) k ≡ mode_at o (suc k)
front_left_mode o k = ap mode_if (taken_half o.line_exclusive k)

pub front_left_size : (o : Object) → length o.line ≡ 16 → length (without_front o).line ≡ 16
front_left_size o e = omega (arith, length-append (drop 1 o.line) (0 ∷ []), length-drop 1 o.line)

pub front_left_line : (o : Object) (n : ℕ) → o.line_count ≡ suc n → line_of o ≡ (who_at o 0, mode_at o 0) ∷ line_of (without_front o)
front_left_line o n e =
    let back : suc n - 1 ≡ n = omega arith in
    rw (e, back) (rows_front n _ ∙ ap (λ (t : List (ℕ × Mode)). (who_at o 0, mode_at o 0) ∷ t)
    (rows_ext n _ _ (λ k h. ap₂ (λ (q : ℕ) (m : Mode). (q, m)) (sym (front_left_who o k)) (sym (front_left_mode o k)))))

-- the place of a process in the line: it stands there, at no earlier place, and in no place where that is the line's length
module _ (o : Object) (p : ℕ) where
  pub place_in_le : place_in o p ≤ o.line_count
  unfolding place_in
  place_in_le = place_le p o.line_count (who_at o)

  pub place_in_is : place_in o p < o.line_count → who_at o (place_in o p) ≡ p
  unfolding place_in
  place_in_is h = place_is p o.line_count (who_at o) h

  pub place_in_before : (j : ℕ) → j < place_in o p → who_at o j ≢ p
  unfolding place_in
  place_in_before j h = place_before p o.line_count (who_at o) j h

  pub place_in_first : (k : ℕ) → k < o.line_count → ((j : ℕ) → j < k → who_at o j ≢ p) → who_at o k ≡ p → place_in o p ≡ k
  unfolding place_in
  place_in_first k h f e = place_first p o.line_count (who_at o) k h f e

  pub place_in_none : ((k : ℕ) → k < o.line_count → who_at o k ≢ p) → place_in o p ≡ o.line_count
  unfolding place_in
  place_in_none f = place_none p o.line_count (who_at o) f

  pub place_in_some : (k : ℕ) → k < o.line_count → who_at o k ≡ p → place_in o p ≤ k
  unfolding place_in
  place_in_some k h e = place_some p o.line_count (who_at o) k h e

-- ---- whom a process waits for
-- the sentence, of one object: "each other process that holds the object in conflict with it, and .. each process ahead of it in that line
-- whose mode conflicts"
pub data Awaited (o : Object) (p : ℕ) (m : Mode) (k q : ℕ) : Type 0 where
  holding : (n : Mode) → q < 16 → q ≢ p → holder_at o q ≡ some n → conflict m n ≡ true → Awaited o p m k q
  standing : (j : ℕ) → j < k → q ≢ p → who_at o j ≡ q → conflict m (mode_at o j) ≡ true → Awaited o p m k q

other_is : (q p : ℕ) → not (eqb q p) ≡ true → q ≢ p
other_is q p e = eqb-false q p (not-true (eqb q p) e)

is_other : (q p : ℕ) → q ≢ p → not (eqb q p) ≡ true
is_other q p f = ap not (ne_eqb q p f)

against_is : (m : Mode) (h : Option Mode) → against m h ≡ true → (n : Mode) × (h ≡ some n) × (conflict m n ≡ true)
against_is m none e = absurd (true_not_false (sym e))
against_is m (some n) e = (n, refl, e)

-- a rival holds in conflict
pub rival_is : (o : Object) (p : ℕ) (m : Mode) (q : ℕ) → rival o p m q ≡ true → (q ≢ p) × ((n : Mode) × (holder_at o q ≡ some n) × (conflict m n ≡ true))
unfolding rival
rival_is o p m q e = (other_is q p (both_left (not (eqb q p)) _ e), against_is m (holder_at o q) (both_right (not (eqb q p)) _ e))

pub is_rival : (o : Object) (p : ℕ) (m : Mode) (q : ℕ) (n : Mode) → q ≢ p → holder_at o q ≡ some n → conflict m n ≡ true → rival o p m q ≡ true
unfolding rival
is_rival o p m q n f e c = both (not (eqb q p)) _ (is_other q p f) (ap (against m) e ∙ c)

-- no holder conflicts exactly where every hold of another is shared with it
pub clear_is : (o : Object) (p : ℕ) (m : Mode) → clear o p m ≡ true → (q : ℕ) (n : Mode) → q < 16 → q ≢ p → holder_at o q ≡ some n → conflict m n ≡ false
unfolding clear rivals
clear_is o p m e q n h f d = not_passed (conflict m n) (λ c.
    let r : Among q (collect (rival o p m) (λ i. i) 16) = collects (rival o p m) (λ i. i) 16 q (record { place = q; inside = h; passes = is_rival o p m q n f d c; is = refl }) in
    rw (nobody_is (collect (rival o p m) (λ i. i) 16) e) at r)

pub is-clear : (o : Object) (p : ℕ) (m : Mode) → ((q : ℕ) (n : Mode) → q < 16 → q ≢ p → holder_at o q ≡ some n → conflict m n ≡ false) → clear o p m ≡ true
unfolding clear rivals
is-clear o p m f = ap nobody (collect_none (rival o p m) (λ i. i) 16 (λ q h. not_passed (rival o p m q) (λ e.
    let r = rival_is o p m q e in true_not_false (sym r.1.2 ∙ f q r.1.0 h r.0 r.1.1))))

module _ (o : Object) (p : ℕ) (m : Mode) (k q : ℕ) where
  -- the list names only those of the sentence
  pub awaited : Among q (waited_for o p m k) → Awaited o p m k q
  unfolding waited_for rivals ahead
  awaited h = ⊎_elim
      (λ z. let r = collected (rival o p m) (λ i. i) 16 q z in of_holder r.place r.inside r.passes r.is)
      (λ z. let r = collected (bars o p m) (who_at o) k q z in of_line r.place r.inside r.passes r.is)
      (among_cases q (rivals o p m) (ahead o p m k) h)
    where
      of_holder : (i : ℕ) → i < 16 → rival o p m i ≡ true → i ≡ q → Awaited o p m k q
      of_holder i h e z = let r = rival_is o p m q (ap (rival o p m) (sym z) ∙ e) in holding r.1.0 (omega arith) r.0 r.1.1 r.1.2

      of_line : (j : ℕ) → j < k → bars o p m j ≡ true → who_at o j ≡ q → Awaited o p m k q
      of_line j h e z = standing j h (λ w. other_is (who_at o j) p (both_left (not (eqb (who_at o j) p)) _ e) (z ∙ w)) z (both_right (not (eqb (who_at o j) p)) _ e)

  -- and all of them
  pub is_awaited : Awaited o p m k q → Among q (waited_for o p m k)
  unfolding waited_for rivals ahead
  is_awaited (holding n h f e c) =
      among_left q (rivals o p m) _ (collects (rival o p m) (λ i. i) 16 q (record { place = q; inside = h; passes = is_rival o p m q n f e c; is = refl }))
  is_awaited (standing j h f e c) =
      among_right q (rivals o p m) _ (collects (bars o p m) (who_at o) k q (record { place = j; inside = h; passes = both (not (eqb (who_at o j) p)) _ (is_other (who_at o j) p (λ z. f (sym e ∙ z))) c; is = e }))

  pub waited-for : among q (waited_for o p m k) ≡ true → Awaited o p m k q
  waited-for e = awaited (among_is q (waited_for o p m k) e)

  pub is_waited_for : Awaited o p m k q → among q (waited_for o p m k) ≡ true
  is_waited_for a = is_among q (waited_for o p m k) (is_awaited a)

-- over a board: p waits for q exactly where it stands in some line and q is in its list there
pub record Listed (b : Board) (p q : ℕ) : Type 0 where
  pub object : ℕ
  pub place : ℕ
  pub mode : Mode
  pub stands : Stands b object place p mode
  pub among : Among q (waited_for (object_at b object) p mode place)

pub listed_waits : (b : Board) (p q : ℕ) → Listed b p q → Waits b p q
listed_waits b p q l = go (awaited (object_at b l.object) p l.mode l.place q l.among)
  where
    go : Awaited (object_at b l.object) p l.mode l.place q → Waits b p q
    go (holding n h f e c) = W.holder l.object l.place l.mode n (λ z. f (sym z)) l.stands e c
    go (standing j h f e c) = W.ahead l.object l.place j l.mode (mode_at (object_at b l.object) j) (λ z. f (sym z)) l.stands h
        (record { inside = omega (arith, l.stands.inside); who = e; mode = refl }) c

pub waits_listed : (b : Board) (p q : ℕ) → q < 16 → Waits b p q → Listed b p q
waits_listed b p q h (W.holder o k m n f s e c) =
    record { object = o; place = k; mode = m; stands = s; among = is_awaited (object_at b o) p m k q (holding n h (λ z. f (sym z)) e c) }
waits_listed b p q h (W.ahead o k j m n f s l t c) =
    record { object = o; place = k; mode = m; stands = s; among = is_awaited (object_at b o) p m k q (standing j l (λ z. f (sym z)) t.who (ap (conflict m) t.mode ∙ c)) }

-- ---- a release: the front is granted while it conflicts with no holder
-- one turn, by the test of the front
settled_more : (n : ℕ) (o : Object) → front_clear o ≡ true → settled (suc n) o ≡ granted_first (who_at o 0, mode_at o 0) (settled n (front_granted o))
unfolding settled
settled_more n o e = rw (settled, e)

settled_stops : (n : ℕ) (o : Object) → front_clear o ≡ false → settled (suc n) o ≡ record { object = o; grants = [] }
unfolding settled
settled_stops n o e = rw (settled, e)

-- those granted are the first of the line, in their order, and the others stay in the line
pub settled_line : (n : ℕ) (o : Object) → o.line_count ≡ n → line_of o ≡ (settled n o).grants ++ line_of (settled n o).object
unfolding settled
settled_line zero o e = refl
settled_line (suc n) o e = by_test (front_clear o)
    (λ z. rw (settled_more n o z) (front_left_line o n e ∙ ap (λ (t : List (ℕ × Mode)). (who_at o 0, mode_at o 0) ∷ t) (settled_line n (front_granted o) (omega arith))))
    (λ z. rw (settled_stops n o z))

pub settled_count : (n : ℕ) (o : Object) → o.line_count ≡ n → length (settled n o).grants + (settled n o).object.line_count ≡ n
unfolding settled
settled_count zero o e = omega arith
settled_count (suc n) o e = by_test (front_clear o)
    (λ z. rw (settled_more n o z) (omega (arith, settled_count n (front_granted o) (omega arith))))
    (λ z. rw (settled_stops n o z) (omega arith))

-- it ends with nobody in the line, or with a front that conflicts
pub settled_ends : (n : ℕ) (o : Object) → o.line_count ≡ n → ((settled n o).object.line_count ≡ 0) ⊎ (front_clear (settled n o).object ≡ false)
unfolding settled
settled_ends zero o e = inl e
settled_ends (suc n) o e = by_test (front_clear o)
    (λ z. rw (settled_more n o z) (settled_ends n (front_granted o) (omega arith)))
    (λ z. rw (settled_stops n o z) (inr z))

-- what one grant to a front keeps, all keep
module _ (P : Object → Type 0) (keeps : (o : Object) → P o → 0 < o.line_count → front_clear o ≡ true → P (front_granted o)) where
  pub settled_keeps : (n : ℕ) (o : Object) → o.line_count ≡ n → P o → P (settled n o).object
  unfolding settled
  settled_keeps zero o e h = h
  settled_keeps (suc n) o e h = by_test (front_clear o)
      (λ z. rw (settled_more n o z) (settled_keeps n (front_granted o) (omega arith) (keeps o h (omega arith) z)))
      (λ z. rw (settled_stops n o z) h)
