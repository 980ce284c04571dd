-- `lowest` meets its contract: trailing zeros count the numbers before the lowest in the set.
use Rattle.std.proofs.Common.{sym, arith}
use Rattle.rules.proofs.Bits.{lowest_taken_word, lowest_taken_le}
use Rattle.values.proofs.bits.lowest.Goals as goal

pub returns : goal.returns
returns c = (sym (lowest_taken_word c.args.set), omega (arith, lowest_taken_word c.args.set, lowest_taken_le c.args.set))
