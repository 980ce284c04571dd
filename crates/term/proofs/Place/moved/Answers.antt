-- By the place. Assumes nothing.
use Rattle.std.proofs.Common.{ℕ, ◌+◌, length, sym, ap, ◌∙◌, arith, rules}
use Rattle.term.specs.Feed.{onward}
use Rattle.term.proofs.Laws.{moved_between, moved_length, moved_inside, moved_ended, at_most_is}
use Rattle.term.proofs.Place.moved.Goals as goal

pub returns-in-Between : goal.returns-in-Between
returns-in-Between c =
    let a = c.args in
    λ t. moved_between t a.self a.sheet.now a.bytes.now c.in-Between.is (search rules) (search rules)

pub returns-in-Length : goal.returns-in-Length
returns-in-Length c =
    let a = c.args in
    λ t. moved_length t a.self a.sheet.now a.bytes.now c.in-Length.high c.in-Length.is (search rules) (search rules)
    ∙ ap (λ (n : ℕ). onward t 0 n a.sheet.now) (omega (arith, c.from.ensures, c.from-in-Length.ensures))

pub returns-in-Inside : goal.returns-in-Inside
returns-in-Inside c =
    let a = c.args in
    let i = c.in-Inside in
    let held = at_most_is 8207 (i.held + length a.bytes.now) c.min.result (omega arith) in
    λ t. moved_inside t a.self a.sheet.now a.bytes.now i.held i.left i.is (search rules) (search rules)
    ∙ (λ j. onward t (sym held j) (sym c.saturating_sub.ensures j) (sym c.keep.ensures j))

pub returns-in-Ended : goal.returns-in-Ended
returns-in-Ended c =
    let a = c.args in
    λ t. moved_ended t a.self a.sheet.now a.bytes.now c.in-Ended.is
