-- Whether many commands can be run.
use Rattle.std.specs.Prelude.{◌≡◌, ◌≤◌, true, false, ℕ, List, length, Result, MatchResult}
use Rattle.rules.specs.declared.Answer.{Answer}
use Rattle.rules.specs.Answers.{done, first_of}
use Rattle.rules.specs.Sheet.{command_count, room_tests}

-- so many, and the room has a byte for each; or the answer of the first test that refuses
abbrev pub Fits : List ℕ → List ℕ → Result ℕ Answer → Type 0
Fits s room r = MatchResult r (λ n. (n ≡ command_count s) × (n ≤ length room) × (done (first_of (room_tests s room)) ≡ true)) (λ a. (first_of (room_tests s room) ≡ a) × (done a ≡ false))
