-- `report::lines::in_flight` meets its contract: the bits of the word are counted. Assumes nothing.
use Rattle.std.proofs.Common.{◌∙◌, arith}
use lib.Count.{ones-le}
use Rattle.rules.proofs.Bits.{ones_count}
use Rattle.report.proofs.lines.in_flight.Goals as goal

pub returns : goal.returns
returns c = (c.from.ensures ∙ ones_count 64 c.args.occupied (omega arith), omega (arith, c.from.ensures, ones-le 64 c.args.occupied (omega arith)))
