-- `lowest_free` meets its contract: the complement's trailing zeros count the numbers before the lowest free one.
use Rattle.std.proofs.Common.{sym, arith}
use Rattle.rules.proofs.Bits.{lowest_free_word, lowest_free_le}
use Rattle.values.proofs.bits.lowest_free.Goals as goal

pub returns : goal.returns
returns c = (sym (lowest_free_word c.args.set c.ranges.set.fits), omega (arith, lowest_free_word c.args.set c.ranges.set.fits, lowest_free_le c.args.set))
