-- Every object passed fits. Assumes nothing.
use mathlib.Core.Path.{◌≡◌}
use mathlib.Core.Bool.{true}
use lib.ListN.{get_or}
use Rattle.rules.specs.Tables.{all}
use Rattle.rules.specs.Board.{no_object}
use Rattle.rules.specs.Shape.{object_fits, up_to}
use Rattle.shape.proofs.book.objects_fit.Given as goal

abbrev pub invariant-loop-o : goal.invariant-loop-o
invariant-loop-o l = all l.o (λ q. object_fits (get_or l.fn.books q no_object) (up_to q l.oc l.pc)) ≡ true
