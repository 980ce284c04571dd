-- The tests of a request and of a release that the home of the process can make alone: all but the mode, which a packed command
-- cannot have wrong, and the load, which is the board's.
use Rattle.std.specs.Prelude.{ℕ, Bool, not, List, [], ◌∷◌, leb, Option, Some, None}
use Rattle.rules.specs.declared.Process.{Process}
use Rattle.rules.specs.declared.Answer.{Answer}
use Rattle.rules.specs.declared.Answer.TheVariants.{NoProcess, NoObject, ProcessWaits, HasReleased, HoldsAlready, HoldsNot}
use Rattle.rules.specs.Tables.{pick}
use Rattle.rules.specs.Home.{is_waiting, holding}

-- "Request: 3, 4, 5, 6, 7, 8, 10", without 5 and 10
abbrev pub home_request_tests : ℕ → ℕ → ℕ → ℕ → Process → List (Bool × Answer)
home_request_tests p o processes objects book = (leb processes p, NoProcess)
    ∷ (leb objects o, NoObject)
    ∷ (is_waiting book.wait, ProcessWaits)
    ∷ (book.released, HasReleased)
    ∷ (holding book o, HoldsAlready) ∷ []

-- "Release: 3, 4, 6, 9, 10", without 10
abbrev pub home_release_tests : ℕ → ℕ → ℕ → ℕ → Process → List (Bool × Answer)
home_release_tests p o processes objects book = (leb processes p, NoProcess)
    ∷ (leb objects o, NoObject)
    ∷ (is_waiting book.wait, ProcessWaits)
    ∷ (not (holding book o), HoldsNot) ∷ []

-- what a request and a release are refused for alike: "3, 4, 6"
abbrev pub common_tests : ℕ → ℕ → ℕ → ℕ → Process → List (Bool × Answer)
common_tests p o processes objects book = (leb processes p, NoProcess) ∷ (leb objects o, NoObject) ∷ (is_waiting book.wait, ProcessWaits) ∷ []

-- the first test that holds gives the refusal; where none does, there is none
abbrev pub refusal_of : List (Bool × Answer) → Option Answer
refusal_of [] = None
refusal_of (t ∷ ts) = pick t.0 (Some t.1) (refusal_of ts)
