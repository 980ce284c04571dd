-- `request_answer` meets its contract: the tests in common, then those of a request.
use Rattle.std.proofs.Common.{◌≡◌, ◌∙◌, sym}
use Rattle.rules.specs.declared.Answer.TheVariants.{Done, HasReleased, HoldsAlready}
use Rattle.rules.specs.Answers.{first_of}
use Rattle.processes.proofs.Refusals.{request_refused, request_passed, request_rest}
use Rattle.processes.proofs.request_answer.Goals as goal

pub returns-in-Some : goal.returns-in-Some
returns-in-Some c =
    let a = c.args in
    request_refused a.p a.o a.processes a.objects a.book c.in-Some.refusal c.in-Some.ensures

pub returns-then-book : goal.returns-then-book
unfolding first_of
returns-then-book c =
    let a = c.args in
    let e : HasReleased ≡ first_of (request_rest a.p a.o a.processes a.objects a.book) = rw c.if-book.true in
    e ∙ request_passed a.p a.o a.processes a.objects a.book (sym c.in_default.is ∙ c.common_refusal.ensures)

pub returns-then-holds : goal.returns-then-holds
unfolding first_of
returns-then-holds c =
    let a = c.args in
    let e : HoldsAlready ≡ first_of (request_rest a.p a.o a.processes a.objects a.book) = rw (c.if-book.false, sym c.holds.ensures ∙ c.if-holds.true) in
    e ∙ request_passed a.p a.o a.processes a.objects a.book (sym c.in_default.is ∙ c.common_refusal.ensures)

pub returns-else-holds : goal.returns-else-holds
unfolding first_of
returns-else-holds c =
    let a = c.args in
    let e : Done ≡ first_of (request_rest a.p a.o a.processes a.objects a.book) = rw (c.if-book.false, sym c.holds.ensures ∙ c.if-holds.false) in
    e ∙ request_passed a.p a.o a.processes a.objects a.book (sym c.in_default.is ∙ c.common_refusal.ensures)
