-- `reader::field::field` meets its contract: of the three bytes from its first bit's byte on, the bits below the field are shifted out
-- and those above it are masked. Assumes nothing.
use Rattle.std.proofs.Common.{◌∙◌, arith}
use Rattle.reader.proofs.Fields.{field_of_bytes}
use Rattle.reader.proofs.field.field.Goals as goal

pub returns : goal.returns
returns c =
    let passed = c.args in
    field_of_bytes passed.s.now passed.at passed.n (omega arith) (omega arith) (omega arith) (omega arith)
    (c.from-high.ensures ∙ c.byte.ensures) (c.from-middle.ensures ∙ c.byte-2.ensures) (c.from-low.ensures ∙ c.byte-3.ensures)
