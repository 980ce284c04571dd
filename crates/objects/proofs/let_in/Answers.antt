-- `let_in` meets its contract. The loop's invariant: letting in from the book in hand ends as from the first one.
use Rattle.std.proofs.Common.{◌≡◌, sym, ◌∙◌, true}
use Rattle.objects.specs.Fronts.{front_goes}
use Rattle.objects.proofs.Fronts.{let_in_ends, let_in_goes, granted_line}
use Rattle.objects.proofs.let_in.Goals as goal

pub loop-book-preserved : goal.loop-book-preserved
loop-book-preserved c =
    let goes : front_goes c.loop-book.book ≡ true = sym c.front_goes.ensures ∙ c.loop-book-test.true in
    let v = c.loop-book in
    rw c.front_granted-book.ensures (granted_line v.book v.invariant.0, sym (let_in_goes v.book (goes)) ∙ v.invariant.1)

pub returns : goal.returns
returns c = let v = c.loop-book in sym (let_in_ends v.book (sym c.front_goes.ensures ∙ c.loop-book-test.false)) ∙ v.invariant.1
