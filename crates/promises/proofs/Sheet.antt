-- Many commands in one call: on a reached board each is a call of its own, since no board on the way is out of shape. So a run ends on a
-- later board, and a sheet that ran on a reached one, within the limits of what is printed.
use mathlib.Core.Path.{◌≡◌, refl, ap, sym, ◌∙◌, subst}
use mathlib.Core.Bool.{true, false}
use mathlib.Core.List.{List}
use Prim.Native.Nat.{ℕ, zero, suc, ◌≤◌, ◌<◌}
use native.Mathlib.Omega.{arith}
use borrow.Author.Tests.{lt-ltb, le-leb, ltb-false}
use Rattle.rules.specs.declared.Board.{Board}
use Rattle.rules.specs.declared.Answer.TheVariants.{Done, HomeOutside, SheetCut, WrongForm, SpareBit, OddByte, TooManyCommands}
use Rattle.rules.specs.declared.Stepped.{Stepped}
use Rattle.rules.specs.Answers.{done, first_of}
use Rattle.rules.specs.Commands.{outside, home_outside, opening}
use Rattle.rules.specs.Sheet.{nodes_of, processes_of, objects_of, process_homes, object_homes, command_at, command_count, commands_part, after_homes, board_after, Run, run, run_tests, reader_answer, sheet_answer, opening_of, run_sheet}
use Rattle.rules.specs.Waits.{Reached, opens, Later, now, does}
use Rattle.rules.proofs.Tables.{by_test, true_not_false}
use Rattle.rules.proofs.Sheet.{field_below}
use Rattle.laws.proofs.Tables.{by_pick}
use Rattle.laws.proofs.Ranges.{passed}
use Rattle.promises.specs.Demand.{WithinLimits}
use Rattle.promises.proofs.Reached.{Sound, sound, step_turn, later_seen, later_reached}

-- ---- commands one after another
module _ (b : Board) (k : Sound b) (s : List ℕ) where
  after_later : (i : ℕ) → Later b (board_after b s i)
  unfolding board_after
  after_later zero = now
  after_later (suc i) =
      let l = after_later i in
      subst (λ (x : Stepped). Later b x.board) (step_turn (board_after b s i) (later_seen k l).0 (command_at s i)) (does l (command_at s i))

  pub run_later : (room : List ℕ) → Later b (run b s room).ran.board
  unfolding run
  run_later room = by_pick (λ (r : Run). Later b r.ran.board) (done (first_of (run_tests b s room))) (λ _. after_later (command_count s)) (λ _. now)

-- ---- the opening of a sheet that the reader takes
not_outside : (n top : ℕ) → 0 < n → n ≤ top → outside n top ≡ false
not_outside n top l h = rw (lt-ltb 0 n l, le-leb n top h)

module _ (s : List ℕ) where
  opens_done : home_outside (nodes_of s) (processes_of s) (process_homes s) ≡ false → home_outside (nodes_of s) (objects_of s) (object_homes s) ≡ false
      → (opening (nodes_of s) (processes_of s) (objects_of s) (process_homes s) (object_homes s)).answer ≡ Done
  unfolding opening first_of
  opens_done hp ho = rw (
    not_outside (nodes_of s) 8 (omega arith) (omega (arith, field_below s 4 3)),
    not_outside (processes_of s) 16 (omega arith) (omega (arith, field_below s 7 4)),
    not_outside (objects_of s) 16 (omega arith) (omega (arith, field_below s 11 4)),
    hp,
    ho,
  )

  opening_reached : done (reader_answer s) ≡ true → Reached (opening_of s)
  unfolding reader_answer
  opening_reached e =
      let a1 = passed _ SheetCut _ refl e in
      let a2 = passed _ WrongForm _ refl a1.1 in
      let a3 = passed _ SpareBit _ refl a2.1 in
      let a4 = passed _ SheetCut _ refl a3.1 in
      let a5 = passed _ HomeOutside _ refl a4.1 in
      let a6 = passed _ HomeOutside _ refl a5.1 in
      opens (nodes_of s) (processes_of s) (objects_of s) (process_homes s) (object_homes s) (opens_done a5.0 a6.0)

  reader_done : (room : List ℕ) → done (sheet_answer s room) ≡ true → done (reader_answer s) ≡ true
  unfolding sheet_answer first_of
  reader_done room e = by_test (done (reader_answer s)) (λ z. z) (λ z. rw z at e)

  pub sheet_reached : (room : List ℕ) → (run_sheet s room).ran.answer ≡ Done → Reached (run_sheet s room).ran.board
  unfolding run_sheet
  sheet_reached room = by_pick (λ (r : Run). r.ran.answer ≡ Done → Reached r.ran.board) (done (sheet_answer s room))
      (λ e _. let r = opening_reached (reader_done room e) in later_reached r (after_later (opening_of s) (sound r) (commands_part s) (command_count (commands_part s))))
      (λ e z. absurd (true_not_false (sym (ap done z) ∙ e)))

  -- ---- within the limits
  part_is : done (reader_answer s) ≡ true → commands_part s ≡ after_homes s
  unfolding commands_part
  part_is e = rw e

  few : done (reader_answer s) ≡ true → command_count (after_homes s) ≤ 4096
  unfolding reader_answer
  few e =
      let a1 = passed _ SheetCut _ refl e in
      let a2 = passed _ WrongForm _ refl a1.1 in
      let a3 = passed _ SpareBit _ refl a2.1 in
      let a4 = passed _ SheetCut _ refl a3.1 in
      let a5 = passed _ HomeOutside _ refl a4.1 in
      let a6 = passed _ HomeOutside _ refl a5.1 in
      let a7 = passed _ SpareBit _ refl a6.1 in
      let a8 = passed _ OddByte _ refl a7.1 in
      let a9 = passed _ TooManyCommands _ refl a8.1 in
      ltb-false 4096 (command_count (after_homes s)) a9.0

  part_few : done (reader_answer s) ≡ true → command_count (commands_part s) ≤ 4096
  part_few e = rw (part_is e) (few e)

  commands_few : (room : List ℕ) → (run_sheet s room).ran.answer ≡ Done → (run_sheet s room).ran.commands ≤ 4096
  unfolding run_sheet
  commands_few room = by_pick (λ (r : Run). r.ran.answer ≡ Done → r.ran.commands ≤ 4096) (done (sheet_answer s room))
      (λ e _. part_few (reader_done room e)) (λ e z. absurd (true_not_false (sym (ap done z) ∙ e)))

  pub sheet_within : (room : List ℕ) → (run_sheet s room).ran.answer ≡ Done → WithinLimits (run_sheet s room).ran
  sheet_within room d =
      let shaped = (sound (sheet_reached room d)).good.shaped.records in
      record { commands = commands_few room d; objects = shaped.table.count_of_objects.1; line = λ o. (shaped.objects o).count; ring = λ q. (shaped.rings q).most }
