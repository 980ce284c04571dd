-- How a list grows: whom it has then, and that those who are listed already, and those who do not pass, may be left out.
use Rattle.std.proofs.Common.{◌≡◌, refl, sym, ap, ◌∙◌, Bool, true, false, not, ◌&&◌, List, [], ◌∷◌, ◌++◌, ℕ, zero, suc, ◌≤◌, ◌<◌, arith, add-one, zero-add, eqb, ltb, length, take, get_or}
use Rattle.std.proofs.Math.Decide.{dec_lt, ℕ_discrete}
use Rattle.std.proofs.Math.Seq.{get_or-set_same, get_or-set_other}
use Rattle.std.proofs.lemmas.List.{get_or-take, length-take-le}
use Rattle.std.proofs.lemmas.List.FromFn.{get_or-enumerate_from, length-enumerate_from}
use Rattle.std.specs.List.{list_any, enumerate_from}
use borrow.Author.Tests.{eq-eqb, ne_eqb, eqb-true}
use Rattle.rules.specs.declared.Entries.{Entries}
use Rattle.rules.specs.Tables.{pick, either, rows, all, collect, among}
use Rattle.rules.specs.Lists.{entry_at, listed, longer, add_one, add_all, with_next}
use Rattle.values.proofs.Rows.{any_all}
use Rattle.lists.specs.declared.gather.Rows.{Rows}
use Rattle.lists.specs.Growing.{list_in}
use Rattle.lists.specs.Sets.{Marks}
use Rattle.rules.proofs.Tables.{all_ext, by_test, true_not_false, rows_last, rows_ext, among_append, collect_last}
use Rattle.rules.proofs.Lists.{listed_is, is_listed, entry_grown, add_one_listed, add_one_new, add_one_grown, add_all_grown}

pub eqb_swap : (a b : ℕ) → eqb a b ≡ eqb b a
eqb_swap a b = elim (ℕ_discrete a b) [ yes z ↦ eq-eqb a b z ∙ sym (eq-eqb b a (sym z)) | no z ↦ ne_eqb a b z ∙ sym (ne_eqb b a (λ e. z (sym e))) ]

one_among : (x q : ℕ) → among q (x ∷ []) ≡ eqb x q
unfolding among
one_among x q = self (eqb x q)
  where
    self : (t : Bool) → pick t true false ≡ t
    self true = refl
    self false = refl

-- one more row, and one more of those who pass
pub among_row : (q : ℕ) (f : ℕ → ℕ) (n : ℕ) → among q (rows (suc n) f) ≡ either (among q (rows n f)) (eqb (f n) q)
among_row q f n = rw (rows_last n f, among_append, one_among)

pub among_more : (q : ℕ) (t : ℕ → Bool) (f : ℕ → ℕ) (n : ℕ) → among q (collect t f (suc n)) ≡ either (among q (collect t f n)) (t n && eqb (f n) q)
unfolding among
among_more q t f n = rw (collect_last t f n, among_append) (ap (either (among q (collect t f n))) (last (t n)))
  where
    last : (b : Bool) → among q (pick b (f n ∷ []) []) ≡ b && eqb (f n) q
    last true = one_among (f n) q
    last false = refl

-- q is one of those who pass where some place is q's and passes
some_among : (q : ℕ) (t : ℕ → Bool) (f : ℕ → ℕ) (n : ℕ) → not (all n (λ k. not (eqb (f k) q && t k))) ≡ among q (collect t f n)
unfolding all among collect
some_among q t f zero = refl
some_among q t f (suc n) = last (all n (λ k. not (eqb (f k) q && t k))) (eqb (f n) q) (t n) ∙ ap (λ (b : Bool). either b (t n && eqb (f n) q)) (some_among q t f n) ∙ sym (among_more q t f n)
  where
    last : (a b c : Bool) → not (a && not (b && c)) ≡ either (not a) (c && b)
    last true true true = refl
    last true true false = refl
    last true false true = refl
    last true false false = refl
    last false b c = refl

-- a test of the first n places, each with its number, that finds q where it passes
pub any_among : (q : ℕ) (t : ℕ → Bool) (p : ℕ × ℕ → Bool) (xs : List ℕ) (n : ℕ) → n ≤ length xs → ((k : ℕ) → p (k, get_or xs k 0) ≡ eqb (get_or xs k 0) q && t k)
    → list_any p (enumerate_from 0 (take n xs)) ≡ among q (collect t (λ k. get_or xs k 0) n)
any_among q t p xs n inside same =
    let size : length (enumerate_from 0 (take n xs)) ≡ n = length-enumerate_from 0 (take n xs) ∙ length-take-le n xs inside in
    any_all p (enumerate_from 0 (take n xs)) (0, 0) ∙ rw size (ap not (all_ext n _ (λ k. not (eqb (get_or xs k 0) q && t k)) (λ k h. ap not (place k h))) ∙ some_among q t (λ k. get_or xs k 0) n)
  where
    place : (k : ℕ) → k < n → p (get_or (enumerate_from 0 (take n xs)) k (0, 0)) ≡ eqb (get_or xs k 0) q && t k
    place k h =
        let z : k < length (take n xs) = omega (arith, length-take-le n xs inside) in
        rw (get_or-enumerate_from 0 (take n xs) k (0, 0) z, get_or-take n xs k 0 h) (rw zero-add (same k))

-- ---- one more entry
pub listed_longer : (l : Entries) (q lead k : ℕ) → l.count < length l.who → listed (longer l q lead) k ≡ either (listed l k) (eqb q k)
unfolding listed
listed_longer l q lead k h =
    rw (add-one, among_row, get_or-set_same l.who l.count q 0 h, rows_ext l.count (entry_at (longer l q lead)) (entry_at l) (λ j z. get_or-set_other l.who l.count j q 0 (λ e. absurd (omega arith))))

none_more : (b : Bool) → b ≡ either b false
none_more true = refl
none_more false = refl

-- whom the list has then, where it is not full
pub listed_one : (l : Entries) (lead q k : ℕ) → length l.who ≡ 16 → (add_one l lead q).count < 16 → listed (add_one l lead q) k ≡ either (listed l k) (eqb q k)
listed_one l lead q k s h = by_test (listed l q)
    (λ e. rw (add_one_listed l lead q e) (there e))
    (λ e. elim (dec_lt l.count 16) [
      | yes z ↦ rw (add_one_new l lead q e z) (listed_longer l q lead k (omega arith))
      | no z ↦ absurd (omega (arith, (add_one_grown l lead q).longer))
    ])
  where
    there : listed l q ≡ true → listed l k ≡ either (listed l k) (eqb q k)
    there e = by_test (eqb q k) (λ z. rw (ap (listed l) (sym (eqb-true q k z)) ∙ e)) (λ z. rw z (none_more (listed l k)))

pub listed_all : (l : Entries) (lead : ℕ) (qs : List ℕ) (k : ℕ) → length l.who ≡ 16 → (add_all l lead qs).count < 16 → listed (add_all l lead qs) k ≡ either (listed l k) (among k qs)
unfolding add_all among
listed_all l lead [] k s h = none_more (listed l k)
listed_all l lead (q ∷ qs) k s h =
    listed_all (add_one l lead q) lead qs k ((add_one_grown l lead q).who_size ∙ s) h
    ∙ rw (listed_one l lead q k s (omega (arith, (add_all_grown (add_one l lead q) lead qs).longer))) (three (listed l k) (eqb q k) (among k qs))
  where
    three : (a b c : Bool) → either (either a b) c ≡ either a (pick b true c)
    three true b c = refl
    three false true c = refl
    three false false c = refl

-- one who is listed stays so
stays_listed : (l : Entries) (lead : ℕ) (qs : List ℕ) (k : ℕ) → listed l k ≡ true → listed (add_all l lead qs) k ≡ true
stays_listed l lead qs k e = is_listed (add_all l lead qs) k (entry_grown l lead (add_all l lead qs) k (add_all_grown l lead qs) (listed_is l k e))

-- ---- adding several
pub add_both : (l : Entries) (lead : ℕ) (xs ys : List ℕ) → add_all l lead (xs ++ ys) ≡ add_all (add_all l lead xs) lead ys
unfolding add_all
add_both l lead [] ys = refl
add_both l lead (x ∷ xs) ys = add_both (add_one l lead x) lead xs ys

-- one turn of adding those who pass a test
pub add_more : (t : ℕ → Bool) (f : ℕ → ℕ) (l : Entries) (lead k : ℕ)
    → add_all l lead (collect t f (suc k)) ≡ pick (t k) (add_one (add_all l lead (collect t f k)) lead (f k)) (add_all l lead (collect t f k))
unfolding add_all
add_more t f l lead k =
    ap (add_all l lead) (collect_last t f k) ∙ add_both l lead (collect t f k) (pick (t k) (f k ∷ []) []) ∙ last (t k) (add_all l lead (collect t f k))
  where
    last : (b : Bool) (x : Entries) → add_all x lead (pick b (f k ∷ []) []) ≡ pick b (add_one x lead (f k)) x
    last true x = refl
    last false x = refl

-- those who are listed already may be left out
pub add_new : (t u : ℕ → Bool) (f : ℕ → ℕ) (l : Entries) (lead n : ℕ)
    → ((k : ℕ) → k < n → u k ≡ true → t k ≡ true) → ((k : ℕ) → k < n → t k ≡ true → u k ≡ false → listed l (f k) ≡ true)
    → add_all l lead (collect t f n) ≡ add_all l lead (collect u f n)
unfolding collect
add_new t u f l lead zero p q = refl
add_new t u f l lead (suc n) p q =
    let ih : add_all l lead (collect t f n) ≡ add_all l lead (collect u f n) = add_new t u f l lead n (λ k h. p k (omega arith)) (λ k h. q k (omega arith)) in
    add_more t f l lead n ∙ rw ih (turn (t n) (u n) refl refl) ∙ sym (add_more u f l lead n)
  where
    turn : (a b : Bool) → t n ≡ a → u n ≡ b → (let x = add_all l lead (collect u f n) in pick a (add_one x lead (f n)) x ≡ pick b (add_one x lead (f n)) x)
    turn true true y z = refl
    turn false false y z = refl
    turn false true y z = absurd (true_not_false (sym (p n (omega arith) z) ∙ y))
    turn true false y z = add_one_listed (add_all l lead (collect u f n)) lead (f n) (stays_listed l lead (collect u f n) (f n) (q n (omega arith) y z))

-- those who do not pass may be passed over
pub add_none : (t : ℕ → Bool) (f : ℕ → ℕ) (l : Entries) (lead i n : ℕ) → i ≤ n → ((k : ℕ) → i ≤ k → k < n → t k ≡ false)
    → add_all l lead (collect t f n) ≡ add_all l lead (collect t f i)
add_none t f l lead i zero h p = ap (λ (x : ℕ). add_all l lead (collect t f x)) (omega arith)
add_none t f l lead i (suc n) h p = elim (ℕ_discrete i (suc n)) [
  | yes z ↦ ap (λ (x : ℕ). add_all l lead (collect t f x)) (sym z)
  | no z ↦ add_more t f l lead n ∙ rw (p n (omega arith) (omega arith)) (add_none t f l lead i n (omega arith) (λ k a b. p k a (omega arith)))
]

-- ---- which entry is asked next plays no part
pub marks_next : (l : Entries) (n : ℕ) {s : ℕ} → Marks l s → Marks (with_next l n) s
unfolding listed
marks_next l n m = record { has = m.has }

one_next : (l : Entries) (lead q n : ℕ) → add_one (with_next l n) lead q ≡ with_next (add_one l lead q) n
unfolding add_one listed
one_next l lead q n = same (listed l q) (ltb l.count 16)
  where
    same : (a b : Bool) → pick a (with_next l n) (pick b (longer (with_next l n) q lead) (with_next l n)) ≡ with_next (pick a l (pick b (longer l q lead) l)) n
    same true b = refl
    same false true = refl
    same false false = refl

all_next : (l : Entries) (lead : ℕ) (qs : List ℕ) (n m : ℕ) → with_next (add_all (with_next l n) lead qs) m ≡ add_all (with_next l m) lead qs
unfolding add_all
all_next l lead [] n m = refl
all_next l lead (q ∷ qs) n m =
    ap (λ (x : Entries). with_next (add_all x lead qs) m) (one_next l lead q n)
    ∙ all_next (add_one l lead q) lead qs n m
    ∙ ap (λ (x : Entries). add_all x lead qs) (sym (one_next l lead q m))

-- the record that is made of full rows
pub of_rows : (l : Entries) (lead : ℕ) (qs : List ℕ) (rows : Rows) (count : ℕ) → list_in rows count ≡ add_all (with_next l 0) lead qs → with_next (list_in rows count) l.next ≡ add_all l lead qs
of_rows l lead qs rows count e = ap (λ (x : Entries). with_next x l.next) e ∙ all_next l lead qs 0 l.next
