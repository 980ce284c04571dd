-- `keeping` meets its contract, by whether the old place is filled.
use borrow.Author.Tests.{eq-eqb, ne_eqb}
use Rattle.rules.specs.Lists.{keeping}
use Rattle.lists.proofs.ring.keeping.Goals as goal

pub returns-then-old-eq0 : goal.returns-then-old-eq0
unfolding keeping
returns-then-old-eq0 c = rw (eq-eqb _ _ c.if-old-eq0.true)

pub returns-else-old-eq0 : goal.returns-else-old-eq0
unfolding keeping
returns-else-old-eq0 c = rw (ne_eqb _ _ c.if-old-eq0.false)
