-- The reader's tests, over the length of a sheet and what the pass over it found.
use Rattle.std.specs.Prelude.{ℕ, ◌≡◌, ◌-◌, ◌/◌, ◌%◌, Bool, false, not, List, [], ◌∷◌, eqb, ltb, Result, MatchResult}
use Rattle.rules.specs.declared.Answer.{Answer}
use Rattle.rules.specs.declared.Answer.TheVariants.{Done, HomeOutside, SheetCut, WrongForm, SpareBit, OddByte, TooManyCommands}
use Rattle.rules.specs.Answers.{done, first_of}
use Rattle.rules.specs.Commands.{home_outside}
use Rattle.reader.specs.declared.Found.{Found}

-- the tests were made in order: none held, or the first that held gave the refusal
abbrev pub Tells : {A : Type 0} → Result A Answer → List (Bool × Answer) → Type 0
Tells r tests = MatchResult r (λ _. first_of tests ≡ Done) (λ a. (a ≡ first_of tests) × (done a ≡ false))

-- "15, 16, 14 (commands)": of l bytes of commands, where a spare bit is set in one of them or in none
abbrev pub part_tests : ℕ → Bool → List (Bool × Answer)
part_tests l spare = (eqb (l % 2) 1, OddByte) ∷ (ltb 4096 (l / 2), TooManyCommands) ∷ (spare, SpareBit) ∷ []

-- the tests in order, of a sheet of l bytes
abbrev pub sheet_tests : ℕ → Found → List (Bool × Answer)
sheet_tests l h = (ltb l 2, SheetCut)
    ∷ (not (eqb h.form 1), WrongForm)
    ∷ (not (eqb h.spare 0), SpareBit)
    ∷ (ltb l h.start, SheetCut)
    ∷ (home_outside h.nodes h.processes h.process_home, HomeOutside)
    ∷ (home_outside h.nodes h.objects h.object_home, HomeOutside)
    ∷ (not (eqb h.homes_spare 0), SpareBit) ∷ part_tests (l - h.start) h.commands_spare
