-- What is to come is taken in as it was. Assumes nothing.
use Rattle.std.proofs.Common.{ℕ, ◌≡◌, ◌≤◌, [], length, drop_of_length-le, sym, ap, ◌∙◌, rules}
use Rattle.totals.specs.declared.Totals.{Totals}
use Rattle.totals.specs.Stream.{sized}
use Rattle.totals.specs.Totals.{came, noted}
use Rattle.term.specs.declared.Place.TheVariants.{Between}
use Rattle.term.specs.Feed.{Fed, at, fed}
use Rattle.term.proofs.Laws.{settled_whole, settled_not, fed_parts}
use Rattle.term.proofs.feed.Goals as goal

pub loop-rest-preserved-in-Some : goal.loop-rest-preserved-in-Some
loop-rest-preserved-in-Some c =
    let v = c.loop-rest in
    let d = c.moved-place in
    let e = c.in-Some.ensures in
    let counted = c.noted-totals.ensures ∙ ap (noted v.totals) (c.came.ensures ∙ ap (λ (n : ℕ). came (sized n d.new.sheet)) e.1) in
    v.invariant
    ∙ fed_parts (at v.totals v.place v.sheet) _ _ c.split_at.ensures.front c.split_at.ensures.back
    ∙ ap (λ (f : Fed). fed f c.split_at.result.1.now) (d.ensures v.totals ∙ settled_whole v.totals d.result d.new.sheet e.0 ∙ ap (λ (x : Totals). at x Between d.new.sheet) (sym counted))

pub loop-rest-preserved : goal.loop-rest-preserved
loop-rest-preserved c =
    let v = c.loop-rest in
    let d = c.moved-place in
    v.invariant
    ∙ fed_parts (at v.totals v.place v.sheet) _ _ c.split_at.ensures.front c.split_at.ensures.back
    ∙ ap (λ (f : Fed). fed f c.split_at.result.1.now) (d.ensures v.totals ∙ settled_not v.totals d.result d.new.sheet c.in_default.ensures)

pub returns : goal.returns
unfolding fed
returns c =
    let v = c.loop-rest in
    let short : length v.rest.now ≤ 0 = search rules in
    let none : v.rest.now ≡ [] = drop_of_length-le v.rest.now {i = 0} short in
    let e = v.invariant ∙ ap (fed (at v.totals v.place v.sheet)) none in
    (ap (λ (f : Fed). f.chart) (sym e), ap (λ (f : Fed). f.sheet) (sym e))
