-- `release_answer` meets its contract: the tests in common, then that of a release.
use Rattle.std.proofs.Common.{◌≡◌, ◌∙◌, sym}
use Rattle.rules.specs.declared.Answer.TheVariants.{Done, HoldsNot}
use Rattle.rules.specs.Answers.{first_of}
use Rattle.processes.proofs.Refusals.{release_refused, release_passed, release_rest}
use Rattle.processes.proofs.release_answer.Goals as goal

pub returns-in-Some : goal.returns-in-Some
returns-in-Some c =
    let a = c.args in
    release_refused a.p a.o a.processes a.objects a.book c.in-Some.refusal c.in-Some.ensures

pub returns-then-holds : goal.returns-then-holds
unfolding first_of
returns-then-holds c =
    let a = c.args in
    let e : Done ≡ first_of (release_rest a.p a.o a.processes a.objects a.book) = rw (sym c.holds.ensures ∙ c.if-holds.true) in
    e ∙ release_passed a.p a.o a.processes a.objects a.book (sym c.in_default.is ∙ c.common_refusal.ensures)

pub returns-else-holds : goal.returns-else-holds
unfolding first_of
returns-else-holds c =
    let a = c.args in
    let e : HoldsNot ≡ first_of (release_rest a.p a.o a.processes a.objects a.book) = rw (sym c.holds.ensures ∙ c.if-holds.false) in
    e ∙ release_passed a.p a.o a.processes a.objects a.book (sym c.in_default.is ∙ c.common_refusal.ensures)
