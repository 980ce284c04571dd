-- `rivals` meets its contract: an exclusive wish conflicts with every holder, a shared one with the exclusive holders.
use Rattle.std.proofs.Common.{ap}
use Rattle.rules.specs.Book.{is_exclusive}
use Rattle.rules.specs.declared.Mode.{Mode}
use Rattle.objects.proofs.Holds.{exclusive_rivals, shared_rivals}
use Rattle.objects.proofs.rivals.Goals as goal
use Rattle.objects.proofs.rivals.Goals.{in-Shared, in-Exclusive}

pub returns : goal.returns
returns c = let a = c.args in rw c.without.ensures (elim c.match-m.branch [
  | in-Shared w ↦ rw w.against-is (shared_rivals a.o a.p a.m (ap (λ (m : Mode). is_exclusive m) w.in-Shared.is))
  | in-Exclusive w ↦ rw w.against-is (exclusive_rivals a.o a.p a.m (ap (λ (m : Mode). is_exclusive m) w.in-Exclusive.is))
])
