-- `is_clear` meets its contract: no holder conflicts exactly where the set of those who do is empty.
use Rattle.objects.proofs.Holds.{clear_empty}
use Rattle.objects.proofs.is_clear.Goals as goal

pub returns : goal.returns
returns c = let a = c.args in clear_empty a.o a.p a.m c.rivals.result c.rivals.ensures
