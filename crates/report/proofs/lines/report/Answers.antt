-- `report::lines::report` meets its contract: the lines one after another, or the refusal. Assumes nothing.
use Rattle.std.proofs.Common.{sym, ◌∙◌, rules, eqb-true}
use Rattle.std.proofs.lemmas.Bool.{eqb-false}
use Rattle.printed.proofs.Lines.{done_whole, refused_whole}
use Rattle.report.proofs.lines.report.Goals as goal

pub returns-then-is_done : goal.returns-then-is_done
returns-then-is_done c = (
  done_whole c.args.ran.now c.args.answers.now (eqb-true _ 0 (sym c.is_done.ensures ∙ c.if-is_done.true)) c.clear.ensures c.answer_lines.ensures.text c.object_lines.ensures.text c.ring_lines.ensures.text c.last_line.ensures.text,
  search rules,
)

pub returns-else-is_done : goal.returns-else-is_done
returns-else-is_done c = (
  refused_whole c.args.ran.now c.args.answers.now c.from.ensures (λ z. eqb-false _ 0 (sym c.is_done.ensures ∙ c.if-is_done.false) (sym c.from.ensures ∙ z)) c.clear.ensures c.refused_line.ensures.text,
  search rules,
)
