-- What a request and a release have in common, by the kind of a packed command: 0 shared request, 1 exclusive request, 2 release.
use Rattle.std.specs.Prelude.{ℕ, ◌+◌, ◌*◌, ◌/◌, ◌%◌, eqb, ltb}
use Rattle.rules.specs.declared.Process.{Process}
use Rattle.rules.specs.declared.Kind.{Kind}
use Rattle.rules.specs.declared.Kind.TheVariants.{Request, Release}
use Rattle.rules.specs.Tables.{pick}
use Rattle.rules.specs.declared.Answer.{Answer}
use Rattle.rules.specs.declared.Answer.TheVariants.{Done, LoadTooHigh}
use Rattle.rules.specs.Answers.{done, first_of}
use Rattle.rules.specs.Home.{asking, dropping}
use Rattle.rules.specs.Commands.{mode_of}
use Rattle.processes.specs.Tests.{home_request_tests, home_release_tests}

-- the first refusal, without that of the load
unfoldable pub book_answer : ℕ → ℕ → ℕ → ℕ → ℕ → Process → Answer
book_answer kind p o processes objects book = first_of (pick (eqb kind 2) (home_release_tests p o processes objects book) (home_request_tests p o processes objects book))

-- the highest load at which the command is taken
abbrev pub top_load : ℕ → ℕ
top_load kind = pick (eqb kind 2) 63 62

-- the load is the last test, after the answer before it
abbrev pub load_tested : Answer → ℕ → ℕ → Answer
load_tested answer most load = pick (done answer) (pick (ltb most load) LoadTooHigh Done) answer

-- the answer, from the command's two bytes, the counts, the book and the load
abbrev pub home_answer : ℕ → ℕ → ℕ → ℕ → Process → ℕ → Answer
home_answer hi lo processes objects book load = load_tested (book_answer (hi / 64) (hi / 4 % 16) (hi % 4 * 4 + lo / 64) processes objects book) (top_load (hi / 64)) load

-- the book of the process then
unfoldable pub book_after : ℕ → Process → ℕ → Process
book_after kind book o = pick (eqb kind 2) (dropping book o) (asking book o (mode_of kind))

-- what its home sends
unfoldable pub kind_sent : ℕ → ℕ → ℕ → Kind
kind_sent kind p o = pick (eqb kind 2) (Release p o) (Request p o (mode_of kind))
