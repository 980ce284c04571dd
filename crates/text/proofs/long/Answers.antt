-- `text::long` meets its contract: the library writes the definition's digits. Assumes nothing.
use Rattle.std.proofs.Common.{length, ap, ◌∙◌, arith}
use Rattle.text.proofs.Text.{decimal_is}
use Rattle.text.proofs.long.Goals as goal

pub word-requires : goal.word-requires
word-requires c = omega (arith, ap length (c.as_bytes.ensures.value ∙ c.format.ensures.text ∙ decimal_is c.args.n c.ranges.n.fits))

pub returns : goal.returns
returns c =
    let e = c.as_bytes.ensures.value ∙ c.format.ensures.text ∙ decimal_is c.args.n c.ranges.n.fits in
    (cc, omega (arith, ap length e))
