-- `home_outside` meets its contract: the chain is the rules' test of each home below the count.
use Rattle.std.proofs.Common.{◌≡◌, ◌∙◌, ap, rules, ℕ, not, take, get_or, leb, ltb, tests, arith}
use Rattle.std.specs.List.{list_any}
use Rattle.std.proofs.lemmas.Iterator.{YieldsList-from_slice}
use Rattle.std.proofs.lemmas.Iterator.Search.{any_from_yields_List}
use Rattle.rules.proofs.Tables.{all_ext}
use Rattle.std.proofs.lemmas.Bool.Decides.{nat_tests}
use Rattle.values.proofs.Rows.{any_all_of}
use Rattle.values.proofs.homes.home_outside.Goals as goal

not_leb : (n h : ℕ) → not (leb n h) ≡ ltb h n
not_leb n h = grind (arith, nat_tests)

pub returns : goal.returns
returns c =
    let a = c.args in
    let e : c.any.result ≡ list_any (λ h. leb a.nodes h) (take a.count a.homes) = any_from_yields_List (λ h. leb a.nodes h) _ _ _ c.any.ensures.ran (YieldsList-from_slice (take a.count a.homes) cc) (λ x b q k. search (rules, tests)) in
    e ∙ any_all_of (λ h. leb a.nodes h) a.homes a.count 0 (omega arith) ∙ ap not (all_ext a.count (λ k. not (leb a.nodes (get_or a.homes k 0))) (λ k. ltb (get_or a.homes k 0) a.nodes) (λ k l. not_leb a.nodes (get_or a.homes k 0)))
