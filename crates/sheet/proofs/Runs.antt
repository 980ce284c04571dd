-- A sheet run whole: a refused one hands back its answer and the board of zeros, and a good one is its commands run on its opening.
-- Assumes nothing.
use Rattle.std.proofs.Common.{◌≡◌, refl, sym, ap, ◌∙◌, true, false, List, [], ℕ, ◌%◌, ◌≤◌, ◌<◌, arith, eqb, ltb, length, lt-ltb, le-leb}
use Rattle.rules.specs.declared.Answer.{Answer}
use Rattle.rules.specs.declared.Answer.TheVariants.{Done, HomeOutside, SheetCut, WrongForm, SpareBit, OddByte, TooManyCommands}
use Rattle.rules.specs.declared.Ran.{Ran}
use Rattle.rules.specs.Answers.{done, first_of}
use Rattle.rules.specs.Commands.{zero_board, outside, home_outside, opening}
use Rattle.rules.specs.Sheet.{Run, nodes_of, processes_of, objects_of, process_homes, object_homes, command_count, after_homes, reader_answer, commands_part, refused_run, sheet_answer, run_opening, run_sheet}
use Rattle.rules.proofs.Sheet.{field_below}
use Rattle.laws.proofs.Ranges.{passed}
use Rattle.reader.specs.declared.Found.{Found}
use Rattle.reader.specs.Found.{found_in}

-- ---- the counts and the homes of a good sheet are those of an opening
inside : (n top : ℕ) → 0 < n → n ≤ top → outside n top ≡ false
inside n top h l = rw (lt-ltb 0 n h, le-leb n top l)

module _ (s : List ℕ) where
  pub opens : home_outside (nodes_of s) (processes_of s) (process_homes s) ≡ false → home_outside (nodes_of s) (objects_of s) (object_homes s) ≡ false
      → (opening (nodes_of s) (processes_of s) (objects_of s) (process_homes s) (object_homes s)).answer ≡ Done
  unfolding opening first_of
  opens e f = rw (inside (nodes_of s) 8 (omega arith) (omega (arith, field_below s 4 3)), inside (processes_of s) 16 (omega arith) (omega (arith, field_below s 7 4)), inside (objects_of s) 16 (omega arith) (omega (arith, field_below s 11 4)), e, f)

  -- no test of the reader holds: those of the homes, of an odd byte and of too many commands are cited
  pub record Passed : Type 0 where
    pub processes : home_outside (nodes_of s) (processes_of s) (process_homes s) ≡ false
    pub objects : home_outside (nodes_of s) (objects_of s) (object_homes s) ≡ false
    pub even : eqb (length (after_homes s) % 2) 1 ≡ false
    pub few : ltb 4096 (command_count (after_homes s)) ≡ false

  module _ (good : done (reader_answer s) ≡ true) where
    pub tests_passed : Passed
    unfolding reader_answer
    tests_passed =
        let t1 = passed _ SheetCut _ refl good in
        let t2 = passed _ WrongForm _ refl t1.1 in
        let t3 = passed _ SpareBit _ refl t2.1 in
        let t4 = passed _ SheetCut _ refl t3.1 in
        let t5 = passed _ HomeOutside _ refl t4.1 in
        let t6 = passed _ HomeOutside _ refl t5.1 in
        let t7 = passed _ SpareBit _ refl t6.1 in
        let t8 = passed _ OddByte _ refl t7.1 in
        let t9 = passed _ TooManyCommands _ refl t8.1 in
        record { processes = t5.0; objects = t6.0; even = t8.0; few = t9.0 }

    part_is : commands_part s ≡ after_homes s
    unfolding commands_part
    part_is = rw good

    part_even : eqb (length (commands_part s) % 2) 1 ≡ false
    part_even = rw part_is tests_passed.even

    -- the bench runs the commands on the opening, and asks for the room
    runs : (room : List ℕ) → run_opening (nodes_of s) (processes_of s) (objects_of s) (process_homes s) (object_homes s) (commands_part s) room ≡ run_sheet s room
    unfolding run_opening run_sheet sheet_answer first_of
    runs room = rw (opens tests_passed.processes tests_passed.objects, part_even, good)

  pub refuses : (room : List ℕ) → done (reader_answer s) ≡ false → refused_run (reader_answer s) zero_board room ≡ run_sheet s room
  unfolding run_sheet sheet_answer first_of
  refuses room e = rw (e, e)

-- ---- what the program has: what the sheet was found to hold, or its refusal
abbrev Runs : List ℕ → List ℕ → Ran → List ℕ → Type 0
Runs s room r after = (r ≡ (run_sheet s room).ran) × (after ≡ (run_sheet s room).room)

module _ (s room : List ℕ) where
  pub run_refused : {a : Answer} → a ≡ reader_answer s → done a ≡ false → {r : Ran} → r ≡ (refused_run a zero_board []).ran → Runs s room r room
  run_refused {a} same bad e =
      let g : refused_run a zero_board room ≡ run_sheet s room = ap (λ (x : Answer). refused_run x zero_board room) same ∙ refuses s room (sym (ap done same) ∙ bad) in
      (e ∙ ap (λ (x : Run). x.ran) g, ap (λ (x : Run). x.room) g)

  pub run_good : {h : Found} → h ≡ found_in s → reader_answer s ≡ Done → {part : List ℕ} → part ≡ commands_part s → {r : Ran} {after : List ℕ}
      → (r ≡ (run_opening h.nodes h.processes h.objects h.process_home h.object_home part room).ran) × (after ≡ (run_opening h.nodes h.processes h.objects h.process_home h.object_home part room).room) → Runs s room r after
  run_good {h} read good {part} p x =
      let g : run_opening h.nodes h.processes h.objects h.process_home h.object_home part room ≡ run_sheet s room = rw (read, p) (runs s (ap done good) room) in
      (x.0 ∙ ap (λ (y : Run). y.ran) g, x.1 ∙ ap (λ (y : Run). y.room) g)
