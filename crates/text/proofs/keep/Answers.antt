-- `text::keep` meets its contract: where the buffer is full nothing is put, else what it has room for. Assumes nothing.
use Rattle.std.proofs.Common.{rules}
use Rattle.text.proofs.Text.{behind_out, part_put}
use Rattle.text.proofs.keep.Goals as goal

pub returns-then-held : goal.returns-then-held
returns-then-held g c = part_put _ _ _ _ c.told-buffer c.if-held.true c.start-kept.ensures c.copy_from_slice.ensures.after

pub returns-else-held : goal.returns-else-held
returns-else-held g c = behind_out _ _ _ _ (search rules)
