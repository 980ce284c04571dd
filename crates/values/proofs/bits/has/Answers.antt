-- `has` meets its contract: shifting right by k leaves digit k lowest.
use Rattle.rules.specs.Bits.{taken, digit}
use Rattle.std.proofs.Common.{rules}
use Rattle.values.proofs.bits.has.Goals as goal

pub returns : goal.returns
unfolding taken digit
returns c = search rules
