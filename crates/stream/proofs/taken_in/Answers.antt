-- `stream::taken_in` meets its contract: each piece lengthens what was taken in by itself, and by what the reader gave. Assumes nothing.
use Rattle.std.proofs.Common.{refl, [], rules}
use Rattle.stream.proofs.Pieces.{known_none, known_more, known_taken, known_after}
use Rattle.stream.proofs.taken_in.Goals as goal

pub loop-init : goal.loop-init
loop-init g c = (search rules, known_none _ c.new-chart.ensures c.no_sheet-sheet.ensures)

pub loop-preserved : goal.loop-preserved
loop-preserved g c =
    (search rules, known_more _ _ _ _ c.loop.invariant.1 c.feed-chart.ensures.0 c.feed-chart.ensures.1 c.in-Ok.ensures.bytes)

pub returns-in-Ok-eq0-clause-pieces : goal.returns-in-Ok-eq0-clause-pieces
returns-in-Ok-eq0-clause-pieces g c =
    known_taken _ _ (known_after _ c.read_some.new.piece _ _ _ c.loop.invariant.1 c.in-Ok-eq0.field-0-test c.in-Ok-eq0.ensures.bytes) refl

pub returns-in-Err-clause-pieces : goal.returns-in-Err-clause-pieces
returns-in-Err-clause-pieces g c = known_taken _ _ (known_after 0 [] _ _ _ c.loop.invariant.1 refl c.in-Err.ensures.bytes) refl

pub returns-clause-pieces : goal.returns-clause-pieces
returns-clause-pieces g c = known_taken _ _ c.loop.invariant.1 refl
