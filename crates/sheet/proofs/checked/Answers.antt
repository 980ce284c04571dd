-- The tests of what was found are the reader's. Assumes nothing.
use Rattle.std.proofs.Common.{sym, ◌∙◌, rules}
use Rattle.sheet.proofs.Order.{from_start}
use Rattle.sheet.proofs.checked.Goals as goal

pub returns-in_err-test_sheet : goal.returns-in_err-test_sheet
returns-in_err-test_sheet c =
    let e = c.in_err-test_sheet.ensures in
    let same = e.0 ∙ from_start c.args.s.now c.read_sheet-found.ensures in
    let no = e.1 in
    search rules

pub returns : goal.returns
returns c = (c.read_sheet-found.ensures, sym (from_start c.args.s.now c.read_sheet-found.ensures) ∙ c.in_ok-test_sheet.ensures)
