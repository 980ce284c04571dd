-- `input::whole` meets its contract: each piece lengthens what was read by itself, and by what the reader gave. Assumes nothing.
use Rattle.std.proofs.Common.{rules, arith, length-take}
use Rattle.input.proofs.Pieces.{more_known, none_known, as_long}
use Rattle.input.proofs.whole.Goals as goal

pub loop-init : goal.loop-init
loop-init g c = (search rules, search rules, search rules, none_known _ _)

pub loop-preserved : goal.loop-preserved
loop-preserved g c = (
  search rules,
  search rules,
  as_long _ _ _ c.loop.invariant.2 c.keep.ensures,
  more_known _ _ _ _ _ _ _ c.loop.invariant.3 c.keep.ensures (omega (arith, c.in-Ok.ensures.within, length-take c.in-Ok.n c.read_some.new.piece)) c.in-Ok.ensures.bytes,
)
