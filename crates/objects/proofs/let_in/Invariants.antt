-- `let_in` meets its contract. The loop's invariant: letting in from the book in hand ends as from the first one.
use Rattle.std.proofs.Common.{◌≡◌}
use Rattle.rules.specs.Ranges.{LineRanged}
use Rattle.objects.specs.Fronts.{let_in}
use Rattle.objects.proofs.let_in.Given as goal

abbrev pub invariant-loop-book : goal.invariant-loop-book
invariant-loop-book l = LineRanged l.book × (let_in l.book ≡ let_in l.initial.book)

abbrev pub decreases-loop-book : goal.decreases-loop-book
decreases-loop-book l = l.book.line_count
