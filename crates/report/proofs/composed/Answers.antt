-- `report::composed` meets its contract: what is on the page is what is printed for the sheet. Assumes nothing.
use Rattle.std.proofs.Common.{◌≡◌, ℕ, take, ap, ◌∙◌}
use Rattle.sheet.specs.Kept.{kept_of}
use Rattle.printed.proofs.Lines.{sheet_printed}
use Rattle.report.proofs.composed.Goals as goal

pub returns : goal.returns
returns c =
    let kept : c.start.result.now ≡ take (kept_of c.args.whole) c.args.first.now =
    c.start.ensures ∙ ap (λ (n : ℕ). take n c.args.first.now) c.kept.ensures in
    (c.report.ensures.0 ∙ sheet_printed _ kept c.run-ran.ensures.0 c.run-ran.ensures.1, c.report.ensures.1)
