-- `Opening::answer` meets its contract: the tests in their order.
use Rattle.std.proofs.Common.{rules, sym, ◌∙◌}
use Rattle.rules.specs.Answers.{first_of}
use Rattle.opening.proofs.Homes.{outside_is}
use Rattle.opening.proofs.Opening.answer.Goals as goal
use Rattle.opening.proofs.Opening.answer.Goals.{then-not-count_fits-via-then-not-count_fits, then-not-count_fits-via-else-not-count_fits+then-not-count_fits-2, then-not-count_fits-via-else-not-count_fits+else-not-count_fits-2+then-not-count_fits-3, then-home_outside-via-then-home_outside, then-home_outside-via-else-home_outside+then-home_outside-2}

pub returns-then-not-count_fits : goal.returns-then-not-count_fits
unfolding first_of
returns-then-not-count_fits c = elim c.then-not-count_fits.branch [
  | then-not-count_fits-via-then-not-count_fits w ↦ search rules
  | then-not-count_fits-via-else-not-count_fits+then-not-count_fits-2 w ↦ search rules
  | then-not-count_fits-via-else-not-count_fits+else-not-count_fits-2+then-not-count_fits-3 w ↦ search rules
]

pub returns-then-home_outside : goal.returns-then-home_outside
unfolding first_of
returns-then-home_outside c = rw (sym c.count_fits.ensures ∙ c.if-not-count_fits.false, sym c.count_fits-else-not-count_fits.ensures ∙ c.if-not-count_fits-2.false, sym c.count_fits-else-not-count_fits-2.ensures ∙ c.if-not-count_fits-3.false) (elim c.then-home_outside.branch [
  | then-home_outside-via-then-home_outside w ↦ rw (outside_is c.args.self.now.process_home c.from.ensures c.from-nodes.ensures c.home_outside.ensures ∙ w.if-home_outside.true)
  | then-home_outside-via-else-home_outside+then-home_outside-2 w ↦ rw (outside_is c.args.self.now.process_home c.from.ensures c.from-nodes.ensures c.home_outside.ensures ∙ w.if-home_outside.false, outside_is c.args.self.now.object_home w.from-else-home_outside.ensures c.from-nodes.ensures w.home_outside-else-home_outside.ensures ∙ w.if-home_outside-2.true)
])

pub returns : goal.returns
unfolding first_of
returns c = rw (sym c.count_fits.ensures ∙ c.if-not-count_fits.false, sym c.count_fits-else-not-count_fits.ensures ∙ c.if-not-count_fits-2.false, sym c.count_fits-else-not-count_fits-2.ensures ∙ c.if-not-count_fits-3.false, outside_is c.args.self.now.process_home c.from.ensures c.from-nodes.ensures c.home_outside.ensures ∙ c.if-home_outside.false, outside_is c.args.self.now.object_home c.from-else-home_outside.ensures c.from-nodes.ensures c.home_outside-else-home_outside.ensures ∙ c.if-home_outside-2.false)
