-- By induction on the place, which falls at each call.
use Rattle.std.proofs.Common.{◌∙◌}
use Rattle.values.proofs.Defaults.{ring_default}
use Rattle.lists.proofs.Rings.{Leads, along_lead, at_start}
use Rattle.lists.proofs.ring.+along_leads.Goals as goal
use Rattle.lists.proofs.ring.+along_leads.Goals.{then-lead-at, else-lead-at}

pub extended-requires : goal.extended-requires
extended-requires t c =
    let w = c.wide-lead in
    let here : Leads c.args.l c.args.at c.if-lead-at.led = elim c.if-lead-at.branch [
      | then-lead-at x ↦ along_lead c.args.l c.args.at c.requires w.result w.ensures.0 _ x.if-lead-at.true (x.led-is ∙ x.along_leads-led.ensures)
      | else-lead-at x ↦ at_start c.args.l c.args.at c.requires w.result w.ensures.0 _ x.if-lead-at.false (x.led-is ∙ ring_default _ x.default-led.ensures)
    ] in
    here.0

pub returns : goal.returns
returns t c =
    let w = c.wide-lead in
    let here : Leads c.args.l c.args.at c.if-lead-at.led = elim c.if-lead-at.branch [
      | then-lead-at x ↦ along_lead c.args.l c.args.at c.requires w.result w.ensures.0 _ x.if-lead-at.true (x.led-is ∙ x.along_leads-led.ensures)
      | else-lead-at x ↦ at_start c.args.l c.args.at c.requires w.result w.ensures.0 _ x.if-lead-at.false (x.led-is ∙ ring_default _ x.default-led.ensures)
    ] in
    c.extended.ensures ∙ here.1
