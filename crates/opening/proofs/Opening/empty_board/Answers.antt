-- `Opening::empty_board` meets its contract: the defaults are the empty records.
use Rattle.values.proofs.Defaults.{process_default, object_default, flight_default, entries_default, ring_default}
use Rattle.opening.proofs.Opened.{empty_of}
use Rattle.opening.proofs.Opening.empty_board.Goals as goal

pub returns : goal.returns
returns c = empty_of _ _ _ _ _ _ _ _ _ _ (process_default c.default.result c.default.ensures) (object_default c.default-2.result c.default-2.ensures) (flight_default c.default-3.result c.default-3.ensures) (entries_default c.default-4.result c.default-4.ensures) (ring_default c.default-5.result c.default-5.ensures)
