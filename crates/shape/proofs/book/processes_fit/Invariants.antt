-- Every process passed fits. Assumes nothing.
use mathlib.Core.Path.{◌≡◌}
use mathlib.Core.Bool.{true}
use lib.ListN.{get_or}
use Rattle.rules.specs.Tables.{all}
use Rattle.rules.specs.Board.{no_process}
use Rattle.rules.specs.Shape.{process_fits, up_to}
use Rattle.shape.proofs.book.processes_fit.Given as goal

abbrev pub invariant-loop-p : goal.invariant-loop-p
invariant-loop-p l = all l.p (λ q. process_fits (get_or l.fn.books q no_process) (up_to q l.pc l.oc)) ≡ true
