-- The places past the homes hold zero.
use Rattle.reader.proofs.Fields.{homes_filled}
use Rattle.std.proofs.Common.{arith}
use Rattle.reader.proofs.row.homes.Goals as goal

pub returns : goal.returns
returns c = homes_filled c.args.s.now c.args.at c.args.n _ (omega arith) c.loop-k.invariant.0 (λ j h. c.loop-k.invariant.1 j (omega arith))
