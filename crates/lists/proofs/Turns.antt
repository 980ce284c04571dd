-- The loops that gather: what adding has done after some turns, and what one more turn does.
use Rattle.std.proofs.Common.{◌≡◌, refl, sym, ap, ◌∙◌, Bool, true, false, not, ◌&&◌, List, ℕ, suc, ◌+◌, ◌≤◌, ◌<◌, ◌^◌, arith, add-one, eqb, leb, length, take, get_or}
use Rattle.std.proofs.Math.Decide.{dec_lt, ℕ_discrete}
use Rattle.std.proofs.lemmas.List.{get_or-take, length-take}
use mathlib.Core.Logic.{◌≢◌}
use lib.Pow.{pow_pos}
use borrow.Author.Tests.{eq-eqb, ne_eqb, le-leb, lt-leb, leb-true}
use Rattle.rules.specs.declared.Entries.{Entries}
use Rattle.rules.specs.declared.Mode.{Mode}
use Rattle.rules.specs.declared.Object.{Object}
use Rattle.rules.specs.Book.{conflict, mode_at, who_at, bars}
use Rattle.rules.specs.Ranges.{LineRanged}
use Rattle.rules.specs.Tables.{pick, either, rows, collect, among}
use Rattle.rules.specs.Bits.{taken, with_bit, without_bit, lowest_taken}
use Rattle.rules.specs.Lists.{listed, add_one, add_all}
use Rattle.rules.proofs.Bits.{taken_with, taken_without, without_same, without_other, taken_le, taken_zero, taken_below, lowest-taken, lowest_taken_before, lowest_taken_below}
use Rattle.rules.proofs.Tables.{true_not_false, both_left, both_right}
use Rattle.rules.proofs.Lists.{add_one_listed, add_one_full, add_one_new, add_one_grown}
use Rattle.lists.specs.Sets.{Marks, Fresh}
use Rattle.lists.proofs.Gathering.{eqb_swap, among_row, listed_longer, listed_one, add_more, add_none}

swap : (x y : Bool) → pick x true y ≡ either y x
swap true true = refl
swap true false = refl
swap false true = refl
swap false false = refl

-- ---- marking those who are listed
pub mark_row : (s : ℕ) (f : ℕ → ℕ) (n : ℕ) → ((k : ℕ) → taken s k ≡ among k (rows n f)) → (k : ℕ) → taken (with_bit s (f n)) k ≡ among k (rows (suc n) f)
mark_row s f n h k = taken_with s (f n) k ∙ rw (h k, eqb_swap k (f n)) (swap (eqb (f n) k) (among k (rows n f))) ∙ sym (among_row k f n)

-- an element of a list's front
pub front_at : (l : List ℕ) (n i : ℕ) → i < length (take n l) → get_or (take n l) i 0 ≡ get_or l i 0
front_at l n i h = get_or-take n l i 0 (omega (arith, length-take {A = ℕ} n l))

-- process q stands at place i and passes
pub record Passes (t : ℕ → Bool) (f : ℕ → ℕ) (i q : ℕ) : Type 0 where
  pub is : q ≡ f i
  pub passes : t i ≡ true
  pub small : q < 64

-- whether the one at a place of a line's front is in the way of p, as it is asked of that place
module _ (o : Object) (p : ℕ) (m : Mode) (n i : ℕ) (h : i < length (take n o.line)) {b : Bool} (is-b : b ≡ (not (eqb (get_or (take n o.line) i 0) p) && conflict m (mode_at o i))) where
  pub barred_not : b ≡ false → bars o p m i ≡ false
  barred_not e = rw (front_at o.line n i h) at (sym is-b ∙ e)

  pub barred_passes : LineRanged o → b ≡ true → Passes (bars o p m) (who_at o) i (get_or (take n o.line) i 0)
  barred_passes ranged e =
      let at = front_at o.line n i h in
      record { is = at; passes = rw at at (sym is-b ∙ e); small = rw at (omega (arith, ranged.who i)) }

-- what adding has done after i places, and whom it has marked
pub record Gathered (t : ℕ → Bool) (f : ℕ → ℕ) (start : Entries) (lead : ℕ) (l : Entries) (seen i : ℕ) : Type 0 where
  pub is : l ≡ add_all start lead (collect t f i)
  pub size : length l.who ≡ 16
  pub marks : l.count < 16 → Marks l seen

module _ (t : ℕ → Bool) (f : ℕ → ℕ) (start : Entries) (lead : ℕ) where
  pub gathered_none : (seen : ℕ) → length start.who ≡ 16 → (start.count < 16 → Marks start seen) → Gathered t f start lead start seen 0
  unfolding collect add_all
  gathered_none seen s m = record { is = refl; size = s; marks = m }

  module _ (l : Entries) (seen i : ℕ) (a : Gathered t f start lead l seen i) where
    pub gathered_fails : t i ≡ false → Gathered t f start lead l seen (i + 1)
    gathered_fails e = record { is = a.is ∙ sym (rw add-one (add_more t f start lead i ∙ rw e)); size = a.size; marks = a.marks }

    module _ (q : ℕ) (here : Passes t f i q) where
      one_more : add_one l lead q ≡ add_all start lead (collect t f (i + 1))
      one_more = rw here.is (ap (λ (x : Entries). add_one x lead (f i)) a.is ∙ sym (rw add-one (add_more t f start lead i ∙ rw here.passes)))

      -- one who is marked is not added
      pub gathered_marked : taken seen q ≡ true → Gathered t f start lead l seen (i + 1)
      gathered_marked z = record { is = sym same ∙ one_more; size = a.size; marks = a.marks }
        where
          same : add_one l lead q ≡ l
          same = elim (dec_lt l.count 16) [
            | yes y ↦ add_one_listed l lead q (sym ((a.marks y).has q here.small) ∙ z)
            | no y ↦ add_one_full l lead q (omega arith)
          ]

      -- one who is not is not listed, where the list is not full, and is added
      pub gathered_unlisted : taken seen q ≡ false → l.count < 16 → listed l q ≡ false
      gathered_unlisted z h = sym ((a.marks h).has q here.small) ∙ z

      pub gathered_one : (x : Entries) (marks : ℕ) → x ≡ add_one l lead q → marks ≡ with_bit seen q → Gathered t f start lead x marks (i + 1)
      gathered_one x marks grown is-marks = record {
        is = grown ∙ one_more;
        size = ap (λ (y : Entries). length y.who) grown ∙ (add_one_grown l lead q).who_size ∙ a.size;
        marks = λ y. record { has = λ k u. rw (is-marks, grown) (marked k u (rw grown at y)) };
      }
        where
          marked : (k : ℕ) → k < 64 → (add_one l lead q).count < 16 → taken (with_bit seen q) k ≡ listed (add_one l lead q) k
          marked k u y =
              taken_with seen q k ∙ rw ((a.marks (omega (arith, (add_one_grown l lead q).longer))).has k u, eqb_swap k q) (swap (eqb q k) (listed l k))
              ∙ sym (listed_one l lead q k a.size y)

-- ---- adding the numbers of a set, the lowest first
without_less : (n k : ℕ) → taken n k ≡ true → without_bit n k < n
unfolding without_bit
without_less n k e = rw e (omega (arith, taken_le n k e, pow_pos k))

-- the lowest number of a set that has one, and the set without it
module _ (left : ℕ) (fits : left < 2 ^ 64) (some : left ≢ 0) {q : ℕ} (is-q : q ≡ lowest_taken left) where
  pub lowest_below : q < 64
  lowest_below = rw is-q (lowest_taken_below left fits some)

  pub lowest_out : {less : ℕ} → less ≡ without_bit left q → less < left
  lowest_out e = rw (e, is-q) (without_less left (lowest_taken left) (lowest-taken left (rw is-q at lowest_below)))

-- what adding has done, and what is left of the set
pub record Taking (start : Entries) (lead fresh : ℕ) (l : Entries) (left : ℕ) : Type 0 where
  pub from : ℕ
  pub inside : from ≤ 16
  pub is : l ≡ add_all start lead (collect (taken fresh) (λ q. q) from)
  pub size : length l.who ≡ 16
  pub rest : (k : ℕ) → taken left k ≡ leb from k && taken fresh k
  pub unlisted : (k : ℕ) → taken left k ≡ true → listed l k ≡ false

module _ (start : Entries) (lead fresh : ℕ) (h : Fresh start fresh) where
  pub taking_none : length start.who ≡ 16 → Taking start lead fresh start fresh
  unfolding collect add_all
  taking_none s = record { from = 0; inside = omega arith; is = refl; size = s; rest = λ k. rw (le-leb 0 k (omega arith)); unlisted = h.unlisted }

  module _ (l : Entries) (left : ℕ) (a : Taking start lead fresh l left) where
    gone : (k : ℕ) → a.from ≤ k → taken left k ≡ false → taken fresh k ≡ false
    gone k z e = rw (le-leb a.from k z) at (sym (a.rest k)) ∙ e

    pub taking_all : left ≡ 0 → l ≡ add_all start lead (collect (taken fresh) (λ q. q) 16)
    taking_all z = a.is ∙ sym (add_none (taken fresh) (λ q. q) start lead a.from 16 a.inside (λ k u v. gone k u (rw z (taken_zero k))))

    module _ (q : ℕ) (is-q : q ≡ lowest_taken left) (there : q < 64) where
      here : taken left q ≡ true
      here = rw is-q (lowest-taken left (rw is-q at there))

      before : (k : ℕ) → k < q → taken left k ≡ false
      before k z = lowest_taken_before left k (rw is-q at z)

      from_le : a.from ≤ q
      from_le = leb-true a.from q (both_left (leb a.from q) (taken fresh q) (sym (a.rest q) ∙ here))

      fresh_has : taken fresh q ≡ true
      fresh_has = both_right (leb a.from q) (taken fresh q) (sym (a.rest q) ∙ here)

      grows : add_one l lead q ≡ add_all start lead (collect (taken fresh) (λ k. k) (suc q))
      grows =
          ap (λ (x : Entries). add_one x lead q) (a.is ∙ sym (add_none (taken fresh) (λ k. k) start lead a.from q from_le (λ k u v. gone k u (before k v))))
          ∙ sym (add_more (taken fresh) (λ k. k) start lead q ∙ rw fresh_has)

      left_over : (k : ℕ) → taken (without_bit left q) k ≡ leb (suc q) k && taken fresh k
      left_over k = taken_without left q k ∙ elim (ℕ_discrete k q) [
        | yes z ↦ rw (eq-eqb k q z, lt-leb (suc q) k (omega arith))
        | no z ↦ rw (ne_eqb k q z) (elim (dec_lt k q) [
          | yes y ↦ rw (before k y, lt-leb (suc q) k (omega arith))
          | no y ↦ rw (le-leb (suc q) k (omega arith)) (a.rest k ∙ rw (le-leb a.from k (omega (arith, from_le))))
        ])
      ]

      still : (k : ℕ) → taken (without_bit left q) k ≡ true → listed (add_one l lead q) k ≡ false
      still k e =
          let z : taken left k ≡ true = stood e in
          elim (dec_lt l.count 16) [
            | yes y ↦ rw (add_one_new l lead q (a.unlisted q here) y) (listed_longer l q lead k (omega (arith, a.size)) ∙ rw (a.unlisted k z, ne_eqb q k (λ w. other e (sym w))))
            | no y ↦ rw (add_one_full l lead q (omega arith)) (a.unlisted k z)
          ]
        where
          other : taken (without_bit left q) k ≡ true → k ≢ q
          other e w = true_not_false (sym e ∙ ap (taken (without_bit left q)) w ∙ without_same left q)

          stood : taken (without_bit left q) k ≡ true → taken left k ≡ true
          stood e = sym (without_other left q k (other e)) ∙ e

      pub taking_unlisted : listed l q ≡ false
      taking_unlisted = a.unlisted q here

      pub taking_one : (x : Entries) (less : ℕ) → x ≡ add_one l lead q → less ≡ without_bit left q → Taking start lead fresh x less
      taking_one x less grown is-less = record {
        from = suc q;
        inside = omega (arith, taken_below fresh q 16 h.below fresh_has);
        is = grown ∙ grows;
        size = ap (λ (y : Entries). length y.who) grown ∙ (add_one_grown l lead q).who_size ∙ a.size;
        rest = λ k. rw is-less (left_over k);
        unlisted = λ k e. rw grown (still k (rw is-less at e));
      }
