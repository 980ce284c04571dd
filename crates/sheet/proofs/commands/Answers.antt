-- What is left after the homes of a good sheet, and an empty part of a refused one. Assumes nothing.
use Rattle.std.proofs.Common.{sym, ap, ◌∙◌}
use Rattle.rules.specs.Answers.{done}
use Rattle.sheet.proofs.Parts.{part_of_good, part_of_refused}
use Rattle.sheet.proofs.commands.Goals as goal

pub returns-in-Ok : goal.returns-in-Ok
returns-in-Ok c = part_of_good c.args.s.now c.in-Ok.ensures.0 c.in-Ok.ensures.1 c.rest_from.ensures

pub returns-in-Err : goal.returns-in-Err
returns-in-Err c = part_of_refused c.args.s.now (sym (ap done c.in-Err.ensures.0) ∙ c.in-Err.ensures.1)
