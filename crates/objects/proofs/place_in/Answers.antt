-- `place_in` meets its contract: the chain looks for the process as the rules do.
use Rattle.std.proofs.Common.{◌≡◌, ◌∙◌, ap, rules, tests, ℕ, cond, eqb, ltb, length, take, Option, Some, None, arith}
use Rattle.std.specs.List.{position_or_len}
use Rattle.std.specs.Option.{unwrap_or}
use Rattle.std.proofs.lemmas.Iterator.{YieldsList-from_slice}
use Rattle.std.proofs.lemmas.Iterator.Search.{position_from_yields_List}
use Rattle.rules.specs.Tables.{place_of}
use Rattle.rules.specs.Book.{place_in, who_at}
use Rattle.objects.proofs.Places.{position_place}
use Rattle.objects.proofs.place_in.Goals as goal

pub returns : goal.returns
unfolding place_in
returns c =
    let o = c.args.o in
    let p = c.args.p in
    let n = c.from-n.result in
    let row = take n o.line in
    let e : c.position.result ≡ cond (ltb (position_or_len (λ q. eqb q p) row) (length row)) (Some (position_or_len (λ q. eqb q p) row)) None = position_from_yields_List (λ q. eqb q p) _ _ _ c.position.ensures.ran (YieldsList-from_slice row cc) (λ x b q k. search (rules, tests)) in
    c.unwrap_or.ensures ∙ ap (λ (r : Option ℕ). unwrap_or r n) e ∙ position_place p n o.line (omega (arith, c.requires.size, c.requires.count, c.from-n.ensures)) ∙ ap (λ (m : ℕ). place_of m (who_at o) p) c.from-n.ensures
