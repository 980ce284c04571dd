-- A holder who is marked is listed, so leaving it out adds the same.
use Rattle.std.proofs.Common.{sym, ap, ◌∙◌, length}
use Rattle.rules.specs.declared.Entries.{Entries}
use Rattle.rules.specs.Book.{rival, rivals, waited_for}
use Rattle.rules.proofs.Lists.{add_all_grown}
use Rattle.lists.specs.Growing.{list_in}
use Rattle.lists.proofs.Waited.{unmarked_fresh, unmarked_added, unmarked_marks}
use Rattle.lists.proofs.Gathering.{add_both}
use Rattle.lists.proofs.gather.add_waited.Goals as goal

pub add_set-held-requires : goal.add_set-held-requires
add_set-held-requires c =
    let a = c.args in
    (c.requires.0, unmarked_fresh (list_in a.rows.now a.start) a.lead (rival a.at.book a.at.process a.at.mode) a.marks c.rivals.result c.requires.0 c.ranges.marks.fits c.requires.1 c.rivals.ensures)

pub add_ahead-requires : goal.add_ahead-requires
add_ahead-requires c =
    let a = c.args in (
      ap (λ (x : Entries). length x.who) c.add_set-held.ensures ∙ (add_all_grown (list_in a.rows.now a.start) a.lead _).who_size ∙ c.requires.0,
      unmarked_marks (list_in a.rows.now a.start) a.lead (rival a.at.book a.at.process a.at.mode) a.marks c.rivals.result c.requires.0 c.ranges.marks.fits c.requires.1 c.rivals.ensures _ c.add_set-held.ensures,
    )

pub returns : goal.returns
unfolding waited_for rivals
returns c =
    let a = c.args in
    c.add_ahead.ensures ∙ rw (c.add_set-held.ensures, unmarked_added (list_in a.rows.now a.start) a.lead (rival a.at.book a.at.process a.at.mode) a.marks c.rivals.result c.requires.0 c.ranges.marks.fits c.requires.1 c.rivals.ensures) (sym (add_both (list_in a.rows.now a.start) a.lead _ _))
