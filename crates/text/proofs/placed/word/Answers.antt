-- `text::placed::word` meets its contract: the part of the buffer that is as long as the word is the word. Assumes nothing.
use Rattle.std.proofs.Common.{refl, arith}
use Rattle.text.proofs.Text.{part_written}
use Rattle.text.proofs.placed.word.Goals as goal

pub returns : goal.returns
returns c = (record { text = part_written _ _ c.args.at (omega arith) c.copy_from_slice.ensures.after; place = refl }, refl)
