-- The requests passed are noted, in order. Assumes nothing.
use Rattle.std.specs.Prelude.{◌≡◌, Some}
use Rattle.shape.specs.Stand.{noted_requests}
use Rattle.shape.proofs.stand.note_requests.Given as goal

abbrev pub invariant-loop-flight : goal.invariant-loop-flight
invariant-loop-flight l = noted_requests l.fn.flights l.flight-index ≡ Some l.standing
