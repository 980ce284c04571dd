-- `is_welcome` meets its contract, by the test of the line and then that of the holders.
use Rattle.std.proofs.Common.{◌∙◌, eq-eqb, ne_eqb}
use Rattle.rules.specs.Book.{welcome}
use Rattle.objects.proofs.is_welcome.Goals as goal

pub returns-then-o-eq0 : goal.returns-then-o-eq0
unfolding welcome
returns-then-o-eq0 c = c.is_clear.ensures ∙ rw (eq-eqb _ _ c.if-o-eq0.true)

pub returns-else-o-eq0 : goal.returns-else-o-eq0
unfolding welcome
returns-else-o-eq0 c = rw (ne_eqb _ _ c.if-o-eq0.false)
