-- `with` meets its contract: `|` with the set of one number puts that number in.
use Rattle.rules.proofs.Bits.{with_word}
use Rattle.values.proofs.bits.with.Goals as goal

pub returns : goal.returns
returns c = with_word c.args.set c.args.k c.requires
