-- `typed::number::digits` meets its contract: the test is that of the definition. Assumes nothing.
use Rattle.std.proofs.Common.{sym}
use Rattle.typed.proofs.Decimals.{digits_behind, digits_all}
use Rattle.typed.proofs.number.digits.Goals as goal

pub returns-in-Some : goal.returns-in-Some
returns-in-Some c = digits_behind _ c.in-Some.first.now _ _ c.in-Some.ensures.cases.0 (rw (← c.to_ascii_lowercase.ensures.value) (sym c.if-eq.ensures))

pub returns-in_default : goal.returns-in_default
returns-in_default c = digits_all _ c.in-Some.first.now c.in-Some.rest.now _ c.in-Some.ensures.cases.0 (rw (← c.to_ascii_lowercase.ensures.value) (sym c.if-eq.ensures))
