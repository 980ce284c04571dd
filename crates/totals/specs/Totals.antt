-- What a chart counts. A sheet comes to an answer, and to the rings that are recorded on its final board; each total is a sum over the
-- sheets of a stream.
use Rattle.std.specs.Prelude.{ℕ, ◌+◌, ◌-◌, ◌^◌, List, [], ◌∷◌, eqb, ltb, get_or, replicate}
use Rattle.rules.specs.declared.Answer.{Answer}
use Rattle.rules.specs.declared.Answer.TheVariants.{SheetCut, TooManyCommands}
use Rattle.rules.specs.declared.Ran.{Ran}
use Rattle.rules.specs.Tables.{pick, rows}
use Rattle.rules.specs.Answers.{number, done}
use Rattle.rules.specs.Lists.{no_ring}
use Rattle.rules.specs.Board.{tally_of, rings_of_length}
use Rattle.rules.specs.Sheet.{run_sheet}
use Rattle.text.specs.Text.{at_most}
use Rattle.totals.specs.declared.Came.{Came}
use Rattle.totals.specs.declared.Totals.{Totals}
use Rattle.totals.specs.Stream.{Sheet, whole, long, cut}

-- ---- what a sheet comes to: its answer, and the rings that are recorded on its final board
abbrev pub ran_to : Ran → Came
ran_to r = record { answer = r.answer; rings = r.board.rings }

abbrev pub refused_as : Answer → Came
refused_as a = record { answer = a; rings = replicate 16 no_ring }

-- "A longer length is skipped and counted with 16. A stream that ends inside a length or a sheet, of any length, counts that sheet with 12"
unfoldable pub came : Sheet → Came
came (whole s) = ran_to (run_sheet s (replicate 4096 0)).ran
came long = refused_as TooManyCommands
came cut = refused_as SheetCut

-- ---- what a sheet counts for
abbrev pub if_ran : Came → ℕ → ℕ
if_ran r n = pick (done r.answer) n 0

-- "how many sheets ran"
abbrev pub one_ran : Came → ℕ
one_ran r = if_ran r 1

-- "how many were refused"
abbrev pub one_refused : Came → ℕ
one_refused r = pick (done r.answer) 0 1

-- "by number"
abbrev pub one_refused_with : ℕ → Came → ℕ
one_refused_with n r = pick (eqb n (number r.answer)) (one_refused r) 0

-- "how many ended with at least one recorded ring"
abbrev pub one_ringed : Came → ℕ
one_ringed r = if_ran r (pick (ltb 0 (tally_of r.rings)) 1 0)

-- "and recorded rings by length"
abbrev pub rings_in : ℕ → Came → ℕ
rings_in l r = if_ran r (rings_of_length r.rings l)

-- ---- the totals
-- the largest number of 64 bits: a total goes up to it, and stays there
abbrev pub most : ℕ
most = 2 ^ 64 - 1

-- n more, where there is room for so many
abbrev pub more : ℕ → ℕ → ℕ
more total n = pick (ltb (most - total) n) most (total + n)

-- the totals with one sheet more, by what it counts for
abbrev pub plus : Totals → ℕ → ℕ → (ℕ → ℕ) → ℕ → (ℕ → ℕ) → Totals
plus t ran refused with ringed rings = record {
  sheets = more t.sheets 1;
  ran = more t.ran ran;
  refused = more t.refused refused;
  refused_with = rows 17 (λ n. more (get_or t.refused_with n 0) (with n));
  ringed = more t.ringed ringed;
  rings = rows 17 (λ l. more (get_or t.rings l 0) (rings l));
}

unfoldable pub noted : Totals → Came → Totals
noted t r = plus t (one_ran r) (one_refused r) (λ n. one_refused_with n r) (one_ringed r) (λ l. rings_in l r)

-- "each total equals its definition over the list of sheets"
unfoldable pub total : (Came → ℕ) → List Sheet → ℕ
total weight [] = 0
total weight (s ∷ l) = weight (came s) + total weight l

unfoldable pub totals_of : List Sheet → Totals
totals_of l = record {
  sheets = at_most most (total (λ r. 1) l);
  ran = at_most most (total one_ran l);
  refused = at_most most (total one_refused l);
  refused_with = rows 17 (λ n. at_most most (total (one_refused_with n) l));
  ringed = at_most most (total one_ringed l);
  rings = rows 17 (λ k. at_most most (total (rings_in k) l));
}
