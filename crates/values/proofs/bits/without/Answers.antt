-- `without` meets its contract: `&` with the complement of the set of one number takes that number out.
use Rattle.rules.proofs.Bits.{without_word}
use Rattle.values.proofs.bits.without.Goals as goal

pub returns : goal.returns
returns c = without_word c.args.set c.args.k c.ranges.set.fits c.requires
