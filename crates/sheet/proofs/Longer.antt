-- An input longer than any sheet: what is kept of it is refused as the whole is. Assumes nothing.
use Rattle.std.proofs.Common.{◌≡◌, refl, sym, ap, ◌∙◌, Bool, false, List, ℕ, zero, suc, ◌+◌, ◌-◌, ◌*◌, ◌/◌, ◌%◌, ◌≤◌, arith, eqb, ltb, length, take, drop, length-drop, get_or-take, take_all, length-take-le, lt-ltb, le-ltb, ltb-false, eq-eqb, ne_eqb}
use native.Mathlib.Decide.{dec_lt, ℕ_discrete}
use borrow.Author.Tests.{eqb-false}
use Rattle.rules.specs.declared.Answer.{Answer}
use Rattle.rules.specs.declared.Answer.TheVariants.{OddByte, TooManyCommands}
use Rattle.rules.specs.Tables.{pick}
use Rattle.rules.specs.Answers.{done, first_of}
use Rattle.rules.specs.Commands.{zero_board}
use Rattle.rules.specs.Sheet.{field, processes_of, objects_of, homes_end, commands_start, homes_from, reader_answer, refused_run, run_sheet}
use Rattle.rules.proofs.Tables.{not_passed, rows_ext}
use Rattle.rules.proofs.Sheet.{field_below}
use Rattle.reader.specs.declared.Found.{Found}
use Rattle.reader.specs.Found.{found_in}
use Rattle.sheet.specs.Refusals.{part_tests, sheet_tests}
use Rattle.sheet.specs.Kept.{kept_of}
use Rattle.sheet.proofs.Order.{early_start, from_start}
use Rattle.sheet.proofs.Runs.{tests_passed, refuses}

-- what was found, with another word on the commands
abbrev again : Found → Bool → Found
again h t = record {
  form = h.form;
  nodes = h.nodes;
  processes = h.processes;
  objects = h.objects;
  spare = h.spare;
  process_home = h.process_home;
  object_home = h.object_home;
  homes_spare = h.homes_spare;
  start = h.start;
  commands_spare = t;
}

-- ---- the first k bytes alone
module _ (w : List ℕ) (k : ℕ) where
  field_front : (at n : ℕ) → at + n ≤ 8 * k → field (take k w) at n ≡ field w at n
  unfolding field
  field_front at zero h = refl
  field_front at (suc n) h = rw (field_front at n (omega arith), get_or-take k w ((at + n) / 8) 0 (omega arith))

  homes_front : (at n : ℕ) → at + 48 ≤ 8 * k → homes_from (take k w) at n ≡ homes_from w at n
  unfolding homes_from
  homes_front at n h = rows_ext 16 _ _ (λ j l. ap (λ (x : ℕ). pick (ltb j n) x 0) (field_front (at + 3 * j) 3 (omega arith)))

  -- what is found there is what is found in the whole, but for the commands
  head_front : 15 ≤ k → found_in (take k w) ≡ again (found_in w) (found_in (take k w)).commands_spare
  head_front h = rw (
    field_front 0 4 (omega arith),
    field_front 4 3 (omega arith),
    field_front 7 4 (omega arith),
    field_front 11 4 (omega arith),
    field_front 15 1 (omega arith),
    homes_front 16 (processes_of w) (omega arith),
    homes_front (16 + 3 * processes_of w) (objects_of w) (omega (arith, field_below w 7 4)),
    field_front (homes_end w) (8 * commands_start w - homes_end w) (omega (arith, field_below w 7 4, field_below w 11 4)),
  )

-- ---- a part that is too long for 4,096 commands
long_part : (l : ℕ) (t : Bool) → 8193 ≤ l → first_of (part_tests l t) ≡ pick (eqb (l % 2) 1) OddByte TooManyCommands
unfolding first_of
long_part l t h = elim (ℕ_discrete (l % 2) 1) [
  | yes e ↦ rw (eq-eqb (l % 2) 1 e)
  | no f ↦ rw (ne_eqb (l % 2) 1 f, lt-ltb 4096 (l / 2) (omega (arith, f)))
]

-- ---- the tests of two inputs that agree before the commands
heads_same : (l m : ℕ) (h : Found) (t : Bool) → ltb l 2 ≡ ltb m 2 → ltb l h.start ≡ ltb m h.start
    → first_of (part_tests (l - h.start) t) ≡ first_of (part_tests (m - h.start) h.commands_spare) → first_of (sheet_tests l (again h t)) ≡ first_of (sheet_tests m h)
unfolding first_of
heads_same l m h t e f g = rw (e, f, g)

-- ---- a long input, and what is kept of it
module _ (w : List ℕ) (long : 8207 ≤ length w) where
  abbrev kept : List ℕ
  kept = take (kept_of (length w)) w

  kept_is : kept_of (length w) ≡ 8208 - length w % 2
  kept_is = rw (le-ltb (length w) 8207 long)

  kept_length : length kept ≡ 8208 - length w % 2
  kept_length = length-take-le (kept_of (length w)) w (omega (arith, kept_is)) ∙ kept_is

  abbrev word : Bool
  word = (found_in kept).commands_spare

  same_head : found_in kept ≡ again (found_in w) word
  same_head = head_front w (kept_of (length w)) (omega (arith, kept_is))

  abbrev start : ℕ
  start = commands_start w

  same_part : first_of (part_tests (length kept - start) word) ≡ first_of (part_tests (length w - start) (found_in w).commands_spare)
  same_part =
      let small : start ≤ 14 = early_start w refl in
      let even : (length kept - start) % 2 ≡ (length w - start) % 2 = omega (arith, kept_length) in
      long_part (length kept - start) word (omega (arith, kept_length)) ∙ ap (λ (x : ℕ). pick (eqb x 1) OddByte TooManyCommands) even ∙ sym (long_part (length w - start) (found_in w).commands_spare (omega arith))

  same_answer : reader_answer kept ≡ reader_answer w
  same_answer =
      let small : start ≤ 14 = early_start w refl in
      sym (from_start kept (sym same_head))
      ∙ heads_same (length kept) (length w) (found_in w) word
      (le-ltb (length kept) 2 (omega (arith, kept_length)) ∙ sym (le-ltb (length w) 2 (omega arith)))
      (le-ltb (length kept) start (omega (arith, kept_length)) ∙ sym (le-ltb (length w) start (omega arith))) same_part
      ∙ from_start w refl

  -- it is refused
  not_done : done (reader_answer w) ≡ false
  not_done = not_passed (done (reader_answer w)) (λ good.
      let p = tests_passed w good in
      let small : start ≤ 14 = early_start w refl in
      let whole : (length (drop start w) % 2 ≡ 1 → ⊥) = eqb-false (length (drop start w) % 2) 1 p.even in
      let few : length (drop start w) / 2 ≤ 4096 = ltb-false 4096 (length (drop start w) / 2) p.few in
      omega (arith, whole, length-drop start w))

-- what is kept of an input runs as the whole does
pub kept_runs : (w room : List ℕ) → run_sheet (take (kept_of (length w)) w) room ≡ run_sheet w room
kept_runs w room = elim (dec_lt (length w) 8207) [
  | yes h ↦ rw (lt-ltb (length w) 8207 h, take_all (length w) w (omega arith))
  | no f ↦ let l : 8207 ≤ length w = omega (arith, f) in
      sym (refuses (kept w l) room (ap done (same_answer w l) ∙ not_done w l)) ∙ ap (λ (a : Answer). refused_run a zero_board room) (same_answer w l) ∙ refuses w room (not_done w l)
]
