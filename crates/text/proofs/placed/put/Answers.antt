-- `text::placed::put` meets its contract: one byte is put. Assumes nothing.
use Rattle.std.proofs.Common.{refl}
use Rattle.text.proofs.Text.{wrote_one}
use Rattle.text.proofs.placed.put.Goals as goal

pub returns : goal.returns
returns c = (wrote_one, refl)
