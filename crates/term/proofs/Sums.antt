-- Laws of the totals: sheets counted one by one come to the totals of their list, and the totals add up. Assumes nothing.
use Rattle.std.proofs.Common.{◌≡◌, refl, sym, ap, ◌∙◌, Bool, true, false, List, [], ◌∷◌, ◌++◌, append-nil, ℕ, ◌+◌, ◌≤◌, ◌<◌, arith, eqb, ltb, length, get_or, replicate, le-ltb, ltb-false}
use native.Mathlib.Decide.{dec_lt}
use lib.ListN.{length-replicate}
use lib.Seq.{append_snoc}
use Rattle.rules.specs.declared.Answer.{Answer}
use Rattle.rules.specs.declared.Answer.TheVariants.{Done}
use Rattle.rules.specs.Tables.{pick, rows, sum}
use Rattle.rules.specs.Board.{tally_of}
use Rattle.rules.specs.Answers.{number, done, first_of}
use Rattle.rules.specs.Sheet.{after_homes, command_count, reader_tests, reader_answer, commands_part, sheet_answer, run_sheet}
use Rattle.rules.proofs.Tables.{by_test, rows_at, rows_ext, sum_ext, sum_zero, sum_add}
use Rattle.text.specs.Text.{at_most}
use Rattle.text.proofs.Text.{at_most_below, at_most_top}
use Rattle.sheet.proofs.Runs.{tests_passed}
use Rattle.totals.specs.declared.Came.{Came}
use Rattle.totals.specs.declared.Totals.{Totals}
use Rattle.totals.specs.Stream.{Sheet, whole, long, cut}
use Rattle.totals.specs.Totals.{came, one_ran, one_refused, one_refused_with, one_ringed, rings_in, most, more, noted, total, totals_of}
use Rattle.totals.proofs.Laws.{more_at_most}
use Rattle.term.specs.Feed.{counted}
use Rattle.term.specs.Term.{ByNumber, AddUp}

-- ---- sheets counted one by one
unfoldable pub count_all : Totals → List Sheet → Totals
count_all t [] = t
count_all t (s ∷ l) = count_all (counted t s) l

total_last : (weight : Came → ℕ) (l : List Sheet) (s : Sheet) → total weight (l ++ s ∷ []) ≡ total weight l + weight (came s)
unfolding total
total_last weight [] s = omega arith
total_last weight (x ∷ l) s = omega (arith, total_last weight l s)

-- a total of one sheet more
more_last : (weight : Came → ℕ) (l : List Sheet) (s : Sheet) → more (at_most most (total weight l)) (weight (came s)) ≡ at_most most (total weight (l ++ s ∷ []))
more_last weight l s = more_at_most (total weight l) (weight (came s)) ∙ ap (at_most most) (sym (total_last weight l s))

-- a table of totals of one sheet more
rows_last : (weight : ℕ → Came → ℕ) (l : List Sheet) (s : Sheet)
    → rows 17 (λ n. more (get_or (rows 17 (λ k. at_most most (total (weight k) l))) n 0) (weight n (came s))) ≡ rows 17 (λ n. at_most most (total (weight n) (l ++ s ∷ [])))
rows_last weight l s = rows_ext 17 _ _ (λ n h. ap (λ (x : ℕ). more x (weight n (came s))) (rows_at 17 (λ k. at_most most (total (weight k) l)) n 0 h) ∙ more_last (weight n) l s)

counted_last : (l : List Sheet) (s : Sheet) → counted (totals_of l) s ≡ totals_of (l ++ s ∷ [])
unfolding noted totals_of
counted_last l s i = record {
  sheets = more_last (λ r. 1) l s i;
  ran = more_last one_ran l s i;
  refused = more_last one_refused l s i;
  refused_with = rows_last one_refused_with l s i;
  ringed = more_last one_ringed l s i;
  rings = rows_last rings_in l s i;
}

pub counted_all : (a l : List Sheet) → count_all (totals_of a) l ≡ totals_of (a ++ l)
unfolding count_all
counted_all a [] = ap totals_of (sym (append-nil a))
counted_all a (s ∷ l) = ap (λ (t : Totals). count_all t l) (counted_last a s) ∙ counted_all (a ++ s ∷ []) l ∙ ap totals_of (append_snoc a s l)

-- ---- the numbers that a sheet is refused with
-- a refusal counts under one of these numbers and under no other, and what is done under none
abbrev Numbered : Answer → Type 0
Numbered a = let with : ℕ → ℕ = λ n. pick (eqb n (number a)) (pick (done a) 0 1) 0 in
    (with 2 + with 12 + with 13 + with 14 + with 15 + with 16 ≡ pick (done a) 0 1) × (sum 17 with ≡ pick (done a) 0 1)

abbrev AllOf : (Answer → Type 0) → List (Bool × Answer) → Type 0
AllOf P [] = Unit {0}
AllOf P (t ∷ ts) = P t.1 × AllOf P ts

chosen : (P : Answer → Type 0) (b : Bool) (x y : Answer) → P x → P y → P (pick b x y)
chosen P true x y p q = p
chosen P false x y p q = q

first_of_all : (P : Answer → Type 0) (ts : List (Bool × Answer)) → P Done → AllOf P ts → P (first_of ts)
unfolding first_of
first_of_all P [] d a = d
first_of_all P (t ∷ ts) d a = chosen P t.0 t.1 (first_of ts) a.0 (first_of_all P ts d a.1)

module _ (s : List ℕ) where
  reader_numbered : Numbered (reader_answer s)
  unfolding reader_answer sum
  reader_numbered =
      first_of_all Numbered (reader_tests s) (refl, refl) ((refl, refl), ((refl, refl), ((refl, refl), ((refl, refl), ((refl, refl), ((refl, refl), ((refl, refl), ((refl, refl), ((refl, refl), ((refl, refl), tt))))))))))

  -- in a room for 4,096 answers no sheet is refused for the room
  module _ (room : List ℕ) (size : 4096 ≤ length room) where
    room_enough : done (reader_answer s) ≡ true → ltb (length room) (command_count (commands_part s)) ≡ false
    unfolding commands_part
    room_enough good = rw good (le-ltb (length room) (command_count (after_homes s)) (omega (arith, size, ltb-false 4096 (command_count (after_homes s)) (tests_passed s good).few)))

    sheet_numbered : Numbered (sheet_answer s room)
    unfolding sheet_answer first_of sum
    sheet_numbered = by_test (done (reader_answer s))
        (λ good. rw (good, room_enough good) (refl, refl))
        (λ bad. rw bad reader_numbered)

    run_numbered : Numbered (run_sheet s room).ran.answer
    unfolding run_sheet sum
    run_numbered = by_test (done (sheet_answer s room))
        (λ good. rw good (refl, refl))
        (λ bad. rw bad sheet_numbered)

ran_numbered : (s : Sheet) → Numbered (came s).answer
unfolding came sum
ran_numbered (whole s) = run_numbered s (replicate 4096 0) (omega (arith, length-replicate {A = ℕ} 4096 0))
ran_numbered long = (refl, refl)
ran_numbered cut = (refl, refl)

-- ---- the totals of a list add up
ran_or_refused : (l : List Sheet) → total one_ran l + total one_refused l ≡ length l
unfolding total
ran_or_refused [] = refl
ran_or_refused (s ∷ l) = by_test (done (came s).answer)
    (λ e. rw e (omega (arith, ran_or_refused l)))
    (λ e. rw e (omega (arith, ran_or_refused l)))

all_sheets : (l : List Sheet) → total (λ r. 1) l ≡ length l
unfolding total
all_sheets [] = refl
all_sheets (s ∷ l) = omega (arith, all_sheets l)

refused_by_number : (l : List Sheet) → let with : ℕ → ℕ = λ n. total (one_refused_with n) l in with 2 + with 12 + with 13 + with 14 + with 15 + with 16 ≡ total one_refused l
unfolding total
refused_by_number [] = refl
refused_by_number (s ∷ l) = omega (arith, (ran_numbered s).0, refused_by_number l)

-- weights that come to the same on every sheet, in total
pub total_ext : (f g : Came → ℕ) → ((s : Sheet) → f (came s) ≡ g (came s)) → (l : List Sheet) → total f l ≡ total g l
unfolding total
total_ext f g e [] = refl
total_ext f g e (s ∷ l) = omega (arith, e s, total_ext f g e l)

-- a total of sums is the sum of the totals
pub total_sum : (n : ℕ) (weight : ℕ → Came → ℕ) (l : List Sheet) → sum n (λ k. total (weight k) l) ≡ total (λ r. sum n (λ k. weight k r)) l
unfolding total
total_sum n weight [] = sum_zero n (λ k. 0) (λ k _. refl)
total_sum n weight (s ∷ l) = sum_add n (λ k. weight k (came s)) (λ k. total (weight k) l) ∙ ap (λ (m : ℕ). sum n (λ k. weight k (came s)) + m) (total_sum n weight l)

refused_anywhere : (l : List Sheet) → sum 17 (λ n. total (one_refused_with n) l) ≡ total one_refused l
refused_anywhere l = total_sum 17 one_refused_with l ∙ total_ext (λ r. sum 17 (λ n. one_refused_with n r)) one_refused (λ s. (ran_numbered s).1) l

-- a weight that is never above another, in total
total_le : (f g : Came → ℕ) → ((r : Came) → f r ≤ g r) → (l : List Sheet) → total f l ≤ total g l
unfolding total
total_le f g h [] = omega arith
total_le f g h (s ∷ l) = omega (arith, h (came s), total_le f g h l)

pick_le : (b : Bool) (n : ℕ) → pick b n 0 ≤ n
pick_le true n = omega arith
pick_le false n = omega arith

pick_both : (b : Bool) (n m : ℕ) → n ≤ m → pick b n 0 ≤ pick b m 0
pick_both true n m h = h
pick_both false n m h = omega arith

ringed_at_most : (l : List Sheet) → total one_ringed l ≤ total one_ran l
ringed_at_most l = total_le one_ringed one_ran (λ r. pick_both (done r.answer) _ 1 (pick_le (ltb 0 (tally_of r.rings)) 1)) l

with_at_most : (n : ℕ) (l : List Sheet) → total (one_refused_with n) l ≤ total one_refused l
with_at_most n l = total_le (one_refused_with n) one_refused (λ r. pick_le (eqb n (number r.answer)) (one_refused r)) l

-- ---- and so do those that a chart shows, of as many sheets as it can count
at_most_all : (top n : ℕ) → n ≤ top → at_most top n ≡ n
at_most_all top n h = elim (dec_lt n top) [ yes l ↦ sym (at_most_below top n l) | no f ↦ sym (at_most_top top n (omega (arith, f))) ∙ omega (arith, f) ]

module _ (l : List Sheet) (few : length l ≤ most) where
  shown : (weight : Came → ℕ) → total weight l ≤ length l → at_most most (total weight l) ≡ total weight l
  shown weight h = at_most_all most (total weight l) (omega (arith, h, few))

  sheets_shown : (totals_of l).sheets ≡ length l
  unfolding totals_of
  sheets_shown = shown (λ r. 1) (omega (arith, all_sheets l)) ∙ all_sheets l

  ran_shown : (totals_of l).ran ≡ total one_ran l
  unfolding totals_of
  ran_shown = shown one_ran (omega (arith, ran_or_refused l))

  refused_shown : (totals_of l).refused ≡ total one_refused l
  unfolding totals_of
  refused_shown = shown one_refused (omega (arith, ran_or_refused l))

  with_shown : (n : ℕ) → n < 17 → get_or (totals_of l).refused_with n 0 ≡ total (one_refused_with n) l
  unfolding totals_of
  with_shown n h = rows_at 17 _ n 0 h ∙ shown (one_refused_with n) (omega (arith, with_at_most n l, ran_or_refused l))

  ringed_shown : (totals_of l).ringed ≡ total one_ringed l
  unfolding totals_of
  ringed_shown = shown one_ringed (omega (arith, ringed_at_most l, ran_or_refused l))

  numbers_shown : ByNumber (totals_of l)
  numbers_shown = (
    omega (arith, refused_by_number l, refused_shown, with_shown 2 (omega arith), with_shown 12 (omega arith), with_shown 13 (omega arith), with_shown 14 (omega arith), with_shown 15 (omega arith), with_shown 16 (omega arith)),
    sum_ext 17 _ _ with_shown ∙ refused_anywhere l ∙ sym refused_shown,
  )

pub add_up : AddUp
add_up l few = (
  omega (arith, ran_or_refused l, sheets_shown l few, ran_shown l few, refused_shown l few),
  numbers_shown l few,
  omega (arith, ringed_at_most l, ran_shown l few, ringed_shown l few),
)
