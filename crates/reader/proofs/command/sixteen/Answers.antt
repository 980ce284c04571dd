-- `reader::command::sixteen` meets its contract: two whole bytes. Assumes nothing.
use Rattle.std.proofs.Common.{arith}
use Rattle.reader.proofs.Fields.{two_bytes}
use Rattle.reader.proofs.command.sixteen.Goals as goal

pub returns : goal.returns
returns c = rw (c.from.ensures, c.from-2.ensures) (two_bytes c.args.s.now c.args.i (omega arith) (omega arith))
