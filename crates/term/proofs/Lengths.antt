-- The lengths 2 to 16 are all: the records of the board that a sheet ends on are in shape, as no command on its opening puts one out of
-- it, and a recorded ring in shape has one of these lengths. Assumes nothing.
use Rattle.std.proofs.Common.{◌≡◌, refl, sym, ◌∙◌, true, List, ℕ, ◌+◌, replicate}
use Rattle.rules.specs.Tables.{sum}
use Rattle.rules.specs.Board.{tally}
use Rattle.rules.specs.Answers.{done, first_of}
use Rattle.rules.specs.Sheet.{nodes_of, processes_of, objects_of, process_homes, object_homes, Run, command_count, commands_part, reader_answer, sheet_answer, opening_of, run_sheet}
use Rattle.rules.proofs.Tables.{by_test, true_not_false}
use Rattle.laws.proofs.Tables.{by_pick}
use Rattle.laws.proofs.Opening.{opening_sized, opening_shaped}
use Rattle.laws.proofs.Records.{Sound}
use Rattle.laws.proofs.Rings.{ring_lengths}
use Rattle.laws.proofs.Kept.{after_sound}
use Rattle.sheet.proofs.Runs.{opens, tests_passed}
use Rattle.totals.specs.Stream.{Sheet, whole, long, cut}
use Rattle.totals.specs.Totals.{came, rings_in}
use Rattle.term.specs.Term.{all_rings, ByLength}
use Rattle.term.proofs.Sums.{total_ext, total_sum}

-- ---- the board that a sheet ends on
module _ (s : List ℕ) where
  opening_sound : done (reader_answer s) ≡ true → Sound (opening_of s)
  opening_sound good =
      let t = tests_passed s good in
      record {
        sized = opening_sized (nodes_of s) (processes_of s) (objects_of s) (process_homes s) (object_homes s);
        records = (opening_shaped (nodes_of s) (processes_of s) (objects_of s) (process_homes s) (object_homes s) (opens s t.processes t.objects)).records;
      }

  reader_good : (room : List ℕ) → done (sheet_answer s room) ≡ true → done (reader_answer s) ≡ true
  unfolding sheet_answer first_of
  reader_good room e = by_test (done (reader_answer s)) (λ z. z) (λ z. rw z at e)

  run_sound : (room : List ℕ) → done (run_sheet s room).ran.answer ≡ true → Sound (run_sheet s room).ran.board
  unfolding run_sheet
  run_sound room = by_pick (λ (r : Run). done r.ran.answer ≡ true → Sound r.ran.board) (done (sheet_answer s room))
      (λ e _. after_sound (opening_of s) (opening_sound (reader_good room e)) (commands_part s) (command_count (commands_part s)))
      (λ e z. absurd (true_not_false (sym z ∙ e)))

-- ---- its rings by length
ran_lengths : (s : Sheet) → sum 15 (λ k. rings_in (2 + k) (came s)) ≡ all_rings (came s)
unfolding came tally sum
ran_lengths (whole s) =
    let r = (run_sheet s (replicate 4096 0)).ran in
    by_test (done r.answer)
    (λ e. rw e (ring_lengths r.board (run_sound s (replicate 4096 0) e).records))
    (λ e. rw e)
ran_lengths long = refl
ran_lengths cut = refl

pub by_length : ByLength
by_length l = total_sum 15 (λ k. rings_in (2 + k)) l ∙ total_ext (λ r. sum 15 (λ k. rings_in (2 + k) r)) all_rings ran_lengths l
