-- What is to come is taken in as it was. Assumes nothing.
use Rattle.std.proofs.Common.{◌≡◌, length}
use Rattle.term.specs.Feed.{at, fed}
use Rattle.term.proofs.feed.Given as goal

abbrev pub invariant-loop-rest : goal.invariant-loop-rest
invariant-loop-rest l = fed (at l.initial.totals l.initial.place l.initial.sheet) l.initial.rest ≡ fed (at l.totals l.place l.sheet) l.rest

abbrev pub decreases-loop-rest : goal.decreases-loop-rest
decreases-loop-rest l = length l.rest
