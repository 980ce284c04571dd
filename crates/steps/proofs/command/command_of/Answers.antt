-- `steps::command::command_of` meets its contract, kind by kind. Assumes nothing.
use native.Mathlib.Omega.{arith}
use Rattle.steps.proofs.ByKind.{request, release, delivery}
use Rattle.steps.proofs.command.command_of.Goals as goal

pub returns-in-2 : goal.returns-in-2
returns-in-2 c = release c.args.hi c.args.lo (omega arith) (omega arith) c.in-2.is

pub returns-in-0-to-1 : goal.returns-in-0-to-1
returns-in-0-to-1 c = request c.args.hi c.args.lo (omega arith) (omega arith) (omega arith)

pub returns-in_default : goal.returns-in_default
returns-in_default c = delivery c.args.hi c.args.lo (omega arith) (omega arith) (omega arith) (λ e. omega arith)
