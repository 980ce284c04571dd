-- `drained` meets its contract. The invariant: the desk after as many deliveries as were passed. Assumes nothing.
use Rattle.std.proofs.Common.{◌≡◌}
use Rattle.desk.specs.Desks.{drained_times}
use Rattle.desk.proofs.drained.Given as goal

abbrev pub invariant-loop-i : goal.invariant-loop-i
invariant-loop-i l = l.desk ≡ drained_times l._i l.initial.desk l.command
