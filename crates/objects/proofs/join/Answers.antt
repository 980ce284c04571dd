-- `join` meets its contract: the process takes the first place after the line, where there is one.
use Rattle.std.proofs.Common.{lt-ltb, le-ltb}
use Rattle.rules.specs.Book.{joined}
use Rattle.objects.proofs.join.Goals as goal

pub returns-then-n-ge16 : goal.returns-then-n-ge16
unfolding joined
returns-then-n-ge16 c = rw (le-ltb _ _ c.if-n-ge16.true)

pub returns : goal.returns
unfolding joined
returns c = rw (lt-ltb _ _ c.if-n-ge16.false, c.from.ensures, c.marked.ensures, c.is_exclusive.ensures)
