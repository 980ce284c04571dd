-- Noting those who stand finds out whether one stands twice: `different` and `standing` of the rules, by one set. Assumes nothing.
use mathlib.Core.Path.{◌≡◌, refl, sym, ap, subst, ◌∙◌}
use mathlib.Core.Bool.{Bool, true, false, ◌&&◌}
use mathlib.Core.List.{List}
use Prim.Native.Nat.{ℕ, zero, suc, ◌+◌, ◌≤◌, ◌<◌}
use native.Mathlib.Nat.{add-zero, zero-add}
use native.Mathlib.Decide.{ℕ_discrete}
use native.Mathlib.Omega.{arith}
use native.Mathlib.Numerals.{add-one}
use lib.Dec.{eqb, ltb, leb}
use lib.ListN.{length, get_or, take}
use Rattle.std.proofs.lemmas.List.{get_or-take}
use Rattle.std.specs.Prelude.{Option, Some, None, is_some, IfSome, option_and_then}
use borrow.Author.Tests.{eq-eqb, ne_eqb, eqb-true, lt-ltb, lt-leb, ltb-true, ltb-false, le-leb, leb-true}
use Rattle.rules.specs.declared.Mode.{Mode}
use Rattle.rules.specs.declared.Kind.{Kind}
use Rattle.rules.specs.declared.Kind.TheVariants.{Free, Request, Grant, Release, ListToHome, ListToObject}
use Rattle.rules.specs.declared.Entries.{Entries}
use Rattle.rules.specs.declared.Flight.{Flight}
use Rattle.rules.specs.declared.Object.{Object}
use Rattle.rules.specs.declared.Board.{Board}
use Rattle.rules.specs.Tables.{pick, place_of, all, sum, count_of}
use Rattle.rules.specs.Bits.{taken, with_bit}
use Rattle.rules.specs.Book.{who_at}
use Rattle.rules.specs.Board.{no_flight, no_object, kind_at, list_at, in_flight, is_message}
use Rattle.rules.specs.Shape.{different, request_of, standing, row_fits, object_fits, message_fits, kind_fits, count_fits, counts_fit, holds_fit, same, up_to}
use Rattle.rules.proofs.Bits.{taken_with, taken_zero}
use Rattle.rules.proofs.Tables.{true_not_false, all_fail, same_test, both_left, both_right, place_first, all_at, all_from, all_ext, count_zero, count_one, by_test, not_passed}
use Rattle.shape.specs.Stand.{RowFits, AskerFits, kind_in, book_in, AskersFit, LinesFit, noted, each_noted, noted_row, noted_kind, noted_requests, noted_lines}
use Rattle.sums.proofs.Sums.{read_at}
use Rattle.shape.proofs.Tests.{row_below, up_to_le}

-- ---- what has been noted, of processes that stand so many times each
pub record Knows (noted : Option ℕ) (times : ℕ → ℕ) : Type 0 where
  pub who : IfSome noted (λ s. (p : ℕ) → p < 16 → taken s p ≡ ltb 0 (times p))
  pub once : is_some noted ≡ all 16 (λ p. leb (times p) 1)

-- the times, written another way
again : (s : Option ℕ) (times more : ℕ → ℕ) → ((p : ℕ) → times p ≡ more p) → Knows s times → Knows s more
again s times more e k = subst (Knows s) (λ i p. e p i) k

none_more : (s : Option ℕ) (times : ℕ → ℕ) → Knows s times → Knows s (λ p. times p + 0)
none_more s times k = again s _ _ (λ p. sym (add-zero (times p))) k

knows_nobody : Knows (Some 0) (λ p. 0)
unfolding all
knows_nobody = record { who = λ p h. taken_zero p; once = refl }

-- ---- one more
module _ (s : ℕ) (times : ℕ → ℕ) (q : ℕ) (h : q < 16) (k : Knows (Some s) times) where
  one_more : ℕ → ℕ
  one_more p = times p + pick (eqb q p) 1 0

  noted_who : (p : ℕ) → p < 16 → taken (with_bit s q) p ≡ ltb 0 (one_more p)
  unfolding one_more
  noted_who p l = taken_with s q p ∙ elim (ℕ_discrete p q) [
    | yes z ↦ rw (eq-eqb p q z, eq-eqb q p (sym z)) (sym (lt-ltb 0 (times p + 1) (omega arith)))
    | no n ↦ rw (ne_eqb p q n, ne_eqb q p (λ z. n (sym z)), add-zero) (k.who p l)
  ]

  still_once : taken s q ≡ false → all 16 (λ p. leb (one_more p) 1) ≡ true
  unfolding one_more
  still_once e = all_from 16 _ (λ p l. place p l (leb-true (times p) 1 (all_at 16 _ (sym k.once) p l)))
    where
      place : (p : ℕ) → p < 16 → times p ≤ 1 → leb (times p + pick (eqb q p) 1 0) 1 ≡ true
      place p l m = elim (ℕ_discrete q p) [
        | yes z ↦ rw (eq-eqb q p z) (le-leb (times p + 1) 1 (omega (arith, ap times z, ltb-false 0 (times q) (sym (k.who q h) ∙ e))))
        | no n ↦ rw (ne_eqb q p n, add-zero) (le-leb (times p) 1 m)
      ]

  twice : taken s q ≡ true → all 16 (λ p. leb (one_more p) 1) ≡ false
  unfolding one_more
  twice e = all_fail 16 _ q h (rw (eq-eqb q q refl) (lt-leb (times q + 1) 1 (omega (arith, ltb-true 0 (times q) (sym (k.who q h) ∙ e)))))

  knows_noted : Knows (noted s q) (λ p. times p + pick (eqb q p) 1 0)
  unfolding one_more
  knows_noted = by_test (taken s q) (λ e. rw e (record { who = tt; once = sym (twice e) })) (λ e. rw e (record { who = noted_who; once = sym (still_once e) }))

-- ---- what is noted after what was
chained : (s : Option ℕ) (note : ℕ → Option ℕ) (times more : ℕ → ℕ) → ((p : ℕ) → times p ≤ more p) → ((t : ℕ) → Knows (Some t) times → Knows (note t) more)
    → Knows s times → Knows (option_and_then note s) more
chained (Some t) note times more m g k = g t k
chained None note times more m g k = record {
  who = tt;
  once = sym (not_passed _ (λ e. true_not_false (sym (k.once ∙ all_from 16 _ (λ p l. le-leb (times p) 1 (omega (arith, m p, leb-true (more p) 1 (all_at 16 _ e p l))))))));
}

-- at one place after another, where so many stand before each
each_knows : (note : ℕ → ℕ → Option ℕ) (s : ℕ) (times : ℕ → ℕ → ℕ) (n : ℕ) → ((k p : ℕ) → times k p ≤ times (suc k) p)
    → ((k : ℕ) → k < n → (t : ℕ) → Knows (Some t) (times k) → Knows (note k t) (times (suc k))) → Knows (Some s) (times 0) → Knows (each_noted note s n) (times n)
unfolding each_noted
each_knows note s times zero m g k = k
each_knows note s times (suc n) m g k = chained _ _ _ _ (m n) (g n (omega arith)) (each_knows note s times n m (λ j l. g j (omega arith)) k)

-- ---- a row, the requests, the lines
knows_row : (s : ℕ) (times : ℕ → ℕ) (row : List ℕ) (n : ℕ) → ((k : ℕ) → k < n → get_or row k 0 < 16) → Knows (Some s) times
    → Knows (noted_row s row n) (λ p. times p + count_of n (λ k. eqb (get_or row k 0) p))
unfolding sum
knows_row s times row n h k =
    each_knows _ s (λ j p. times p + count_of j (λ i. eqb (get_or row i 0) p)) n (λ j p. omega arith)
    (λ j l t known. again _ _ _ (λ p. omega arith) (knows_noted t _ (get_or row j 0) (h j l) known)) (none_more _ _ k)

knows_kind : (s : ℕ) (times : ℕ → ℕ) (kind : Kind) → AskerFits kind → Knows (Some s) times → Knows (noted_kind s kind) (λ p. times p + pick (request_of p kind) 1 0)
knows_kind s times Free h k = none_more _ times k
knows_kind s times (Request q o m) h k = knows_noted s times q h k
knows_kind s times (Grant q o m) h k = none_more _ times k
knows_kind s times (Release q o) h k = none_more _ times k
knows_kind s times ListToHome h k = none_more _ times k
knows_kind s times (ListToObject o) h k = none_more _ times k

knows_requests : (flights : List Flight) (n : ℕ) → ((k : ℕ) → k < n → AskerFits (kind_in flights k)) → Knows (noted_requests flights n) (λ p. count_of n (λ k. request_of p (kind_in flights k)))
unfolding sum
knows_requests flights n h =
    each_knows _ 0 (λ j p. count_of j (λ i. request_of p (kind_in flights i))) n (λ j p. omega arith)
    (λ j l t known. knows_kind t _ (kind_in flights j) (h j l) known) knows_nobody

-- how often p stands in the line of object o
in_line : List Object → ℕ → ℕ → ℕ
in_line books p o = count_of (book_in books o).line_count (λ k. eqb (who_at (book_in books o) k) p)

knows_lines : (s : ℕ) (times : ℕ → ℕ) (books : List Object) (n : ℕ) → ((o : ℕ) → o < n → RowFits (book_in books o).line (book_in books o).line_count) → Knows (Some s) times
    → Knows (noted_lines s books n) (λ p. times p + sum n (in_line books p))
unfolding sum in_line
knows_lines s times books n h k =
    each_knows _ s (λ j p. times p + sum j (in_line books p)) n (λ j p. omega arith)
    (λ j l t known. again _ _ _ (λ p. omega arith) (knows_row t _ _ _ (h j l).below known)) (none_more _ _ k)

-- "no process stands twice over all lines and request messages taken together"
pub once_each : (b : Board) → AskersFit b.flights → LinesFit b.objects
    → is_some (option_and_then (λ s. noted_lines s b.objects 16) (noted_requests b.flights 64)) ≡ all 16 (λ p. leb (standing b p) 1)
unfolding standing in_line
once_each b h g =
    (chained (noted_requests b.flights 64) (λ s. noted_lines s b.objects 16) _ _ (λ p. omega arith) (λ s k. knows_lines s _ b.objects 16 g k) (knows_requests b.flights 64 h)).once

-- ---- different numbers
-- one place at most passes where any two that pass are the same
count_single : (n : ℕ) (t : ℕ → Bool) → ((i j : ℕ) → i < n → j < n → t i ≡ true → t j ≡ true → i ≡ j) → count_of n t ≤ 1
unfolding sum
count_single zero t h = omega arith
count_single (suc n) t h = by_test (t n) last (earlier (count_single n t (λ i j k l. h i j (omega arith) (omega arith))))
  where
    last : t n ≡ true → count_of n t + pick (t n) 1 0 ≤ 1
    last e =
        let z : count_of n t ≡ 0 = count_zero n t (λ k l. not_passed (t k) (λ f. let w = h k n (omega arith) (omega arith) f e in absurd (omega arith))) in
        rw (e, z) (omega arith)

    earlier : count_of n t ≤ 1 → t n ≡ false → count_of n t + pick (t n) 1 0 ≤ 1
    earlier m e = rw (e, add-zero) m

-- where the first n of a row are processes, they are different when no process stands twice among them
module _ (row : List ℕ) (n : ℕ) (h : (k : ℕ) → k < n → get_or row k 0 < 16) where
  there : different row n ≡ true → all 16 (λ p. leb (count_of n (λ k. eqb (get_or row k 0) p)) 1) ≡ true
  unfolding different
  there e = all_from 16 _ (λ p l. le-leb _ 1 (count_single n _ (λ i j a b x y. same_place p i j a b (eqb-true _ _ x) (eqb-true _ _ y))))
    where
      same_place : (p i j : ℕ) → i < n → j < n → get_or row i 0 ≡ p → get_or row j 0 ≡ p → i ≡ j
      same_place p i j a b x y =
          let first : (k : ℕ) → k < n → place_of n (λ m. get_or row m 0) (get_or row k 0) ≡ k = λ k c. eqb-true _ k (all_at n _ e k c) in
          sym (first i a) ∙ ap (place_of n (λ m. get_or row m 0)) (x ∙ sym y) ∙ first j b

  back : all 16 (λ p. leb (count_of n (λ k. eqb (get_or row k 0) p)) 1) ≡ true → different row n ≡ true
  unfolding different
  back e = all_from n _ (λ k l. eq-eqb _ k (place_first _ n (λ m. get_or row m 0) k l (λ j c x. earlier j k c l x) refl))
    where
      earlier : (j k : ℕ) → j < k → k < n → get_or row j 0 ≡ get_or row k 0 → ⊥
      earlier j k c l x =
          let p = get_or row k 0 in
          let one = leb-true (count_of n (λ m. eqb (get_or row m 0) p)) 1 (all_at 16 _ e p (h k l)) in
          let z : j ≡ k = count_one n (λ m. eqb (get_or row m 0) p) one j k (omega arith) l (eq-eqb (get_or row j 0) p x) (eq-eqb p p refl) in
          omega arith

  pub different_noted : is_some (noted_row 0 row n) ≡ different row n
  different_noted = (knows_row 0 (λ p. 0) row n h knows_nobody).once ∙ all_ext 16 _ _ (λ p l. ap (λ (m : ℕ). leb m 1) (zero-add (count_of n (λ k. eqb (get_or row k 0) p)))) ∙ same_test _ _ back there

-- ---- what the tests before have shown
middle : (a b c d : Bool) → a && (b && (c && d)) ≡ true → (b ≡ true) × (c ≡ true)
middle a b c d e = let r = both_right a (b && (c && d)) e in (both_left b (c && d) r, both_left c d (both_right b (c && d) r))

count_top : (n top : ℕ) → count_fits n top ≡ true → n ≤ top
count_top n top e = leb-true n top (both_right (ltb 0 n) (leb n top) e)

pub processes_at_most : (b : Board) → counts_fit b ≡ true → b.process_count ≤ 16
unfolding counts_fit
processes_at_most b e = count_top _ 16 (middle (count_fits b.nodes 8) (count_fits b.process_count 16) (count_fits b.object_count 16) _ e).0

pub objects_at_most : (b : Board) → counts_fit b ≡ true → b.object_count ≤ 16
unfolding counts_fit
objects_at_most b e = count_top _ 16 (middle (count_fits b.nodes 8) (count_fits b.process_count 16) (count_fits b.object_count 16) _ e).1

asker_fits : (kind : Kind) (l : Entries) (pc oc : ℕ) → kind_fits kind l pc oc ≡ true → pc ≤ 16 → AskerFits kind
asker_fits Free l pc oc e h = tt
asker_fits (Request p o m) l pc oc e h = omega (arith, ltb-true p pc (both_left _ _ e))
asker_fits (Grant p o m) l pc oc e h = tt
asker_fits (Release p o) l pc oc e h = tt
asker_fits ListToHome l pc oc e h = tt
asker_fits (ListToObject o) l pc oc e h = tt

pub askers_fit : (b : Board) → b.process_count ≤ 16 → all 64 (message_fits b) ≡ true → AskersFit b.flights
unfolding message_fits
askers_fit b h ms n l =
    let kind = kind_at b n in
    let fits = kind_fits kind (list_at b n) b.process_count b.object_count in
    asker_fits kind (list_at b n) _ _ (both_right (same (in_flight b n) (is_message kind)) fits (all_at 64 _ ms n l)) h

pub lines_fit : (books : List Object) (pc oc : ℕ) → pc ≤ 16 → all 16 (λ o. object_fits (book_in books o) (up_to o oc pc)) ≡ true → LinesFit books
unfolding object_fits
lines_fit books pc oc h os o l =
    let x = book_in books o in
    let c = up_to o oc pc in
    let parts = middle (holds_fit x.shared x.exclusive c) (leb x.line_count 16) (row_fits x.line x.line_count c) _ (all_at 16 _ os o l) in
    row_below x.line x.line_count c parts.1 (leb-true _ 16 parts.0) (up_to_le o oc pc h)

-- a request's process, and a line, as they are read
pub asker_at : (kind : Kind) (p o : ℕ) (m : Mode) → AskerFits kind → kind ≡ Request p o m → p < 16
asker_at kind p o m h e = rw e at h

pub line_at : (books : List Object) (o : ℕ) (d : Object) → o < length books → RowFits (book_in books o).line (book_in books o).line_count
    → RowFits (get_or books o d).line (get_or books o d).line_count
line_at books o d h r = rw (read_at books o d no_object h) r

-- ---- one more place, as a loop notes it
module _ (note : ℕ → ℕ → Option ℕ) (s k t : ℕ) (e : each_noted note s k ≡ Some t) where
  pub each_more : (u : ℕ) → note k t ≡ Some u → each_noted note s (k + 1) ≡ Some u
  unfolding each_noted
  each_more u f = rw (add-one, e) f

  -- once there is none, there is none
  pub each_stops : (n : ℕ) → k < n → note k t ≡ None → each_noted note s n ≡ None
  unfolding each_noted
  each_stops zero h f = absurd (omega arith)
  each_stops (suc n) h f = elim (ℕ_discrete k n) [
    | yes z ↦ rw (← z, e) f
    | no m ↦ rw (each_stops n (omega arith) f)
  ]

-- what stands at a place, as it is read
pub place_read : (row : List ℕ) (n k d t : ℕ) (r : Option ℕ) → k < length (take n row) → k < n → r ≡ noted t (get_or (take n row) k d) → noted t (get_or row k 0) ≡ r
place_read row n k d t r h l e = sym (e ∙ ap (noted t) (read_at (take n row) k d 0 h ∙ get_or-take n row k 0 l))

pub request_read : (flights : List Flight) (k t : ℕ) (d : Flight) (r : Option ℕ) → k < length flights → r ≡ noted_kind t (get_or flights k d).kind → noted_kind t (kind_in flights k) ≡ r
request_read flights k t d r h e = sym (e ∙ ap (λ (x : Flight). noted_kind t x.kind) (read_at flights k d no_flight h))

pub line_read : (books : List Object) (o t : ℕ) (d : Object) (r : Option ℕ) → o < length books → r ≡ noted_row t (get_or books o d).line (get_or books o d).line_count
    → noted_row t (book_in books o).line (book_in books o).line_count ≡ r
line_read books o t d r h e = sym (e ∙ ap (λ (x : Object). noted_row t x.line x.line_count) (read_at books o d no_object h))
