-- Whether one of the places ahead is the process's, and bars.
use Rattle.std.proofs.Common.{◌≡◌, ◌∙◌, ℕ, rules, eqb, ◌&&◌, not, take, tests, refl, ap, arith}
use Rattle.std.specs.List.{list_any, enumerate_from}
use Rattle.std.proofs.lemmas.Iterator.{YieldsList-from_slice}
use Rattle.std.proofs.lemmas.Iterator.Consumers.{YieldsList-from_enumerate}
use Rattle.std.proofs.lemmas.Iterator.Search.{any_from_yields_List}
use Rattle.rules.specs.Tables.{among, collect}
use Rattle.rules.specs.Book.{conflict, mode_at, who_at, bars, ahead}
use Rattle.lists.proofs.Gathering.{any_among}
use Rattle.lists.proofs.standing.Standing.is_behind.Goals as goal

pub returns : goal.returns
unfolding ahead
returns c =
    let a = c.args.self in
    let s = c.args.s in
    let p = λ (x : ℕ × ℕ). eqb x.1 s && (not (eqb x.1 a.process) && conflict a.mode (mode_at a.book x.0)) in
    let e : c.any.result ≡ list_any p (enumerate_from 0 (take c.wide-ahead.result a.book.line)) = any_from_yields_List p _ _ _ c.any.ensures.ran (YieldsList-from_enumerate (YieldsList-from_slice (take c.wide-ahead.result a.book.line) cc) cc) (λ x b q k. search (rules, tests)) in
    e ∙ any_among s (bars a.book a.process a.mode) p a.book.line c.wide-ahead.result (omega (arith, c.wide-ahead.ensures.0, a.in_range.0.size, a.in_range.2)) (λ k. refl)
    ∙ ap (λ (n : ℕ). among s (collect (bars a.book a.process a.mode) (who_at a.book) n)) c.wide-ahead.ensures.0
