-- `waiters` meets its contract. The loop's invariant: the numbers below x are decided.
use borrow.Author.Rules.{rules}
use mathlib.Core.Path.{◌≡◌, refl, sym, ◌∙◌}
use native.Mathlib.Omega.{arith}
use native.Mathlib.Numerals.{add-one}
use lib.ListN.{length, get_or}
use Rattle.sums.proofs.Sums.{read_at, length_mapped}
use Rattle.search.specs.Numbers.{set_of}
use Rattle.search.proofs.Numbers.{set_next}
use Rattle.search.proofs.Walks.{meet_any}
use Rattle.search.proofs.walk.waiters.Goals as goal

pub loop-x-init : goal.loop-x-init
unfolding set_of
loop-x-init c = refl

pub loop-x-preserved : goal.loop-x-preserved
loop-x-preserved c =
    let v = c.loop-x in
    let a = c.args in
    let sizes : length a.sets ≡ 16 = search (rules, length_mapped) in
    c.marked-found.ensures ∙ rw (read_at a.sets v.x _ 0 (omega arith), meet_any (get_or a.sets v.x 0) a.set c.requires, v.invariant, add-one) (sym (set_next v.x _))

pub returns : goal.returns
returns c =
    let v = c.loop-x in
    let sizes : length c.args.sets ≡ 16 = search (rules, length_mapped) in
    let e : v.x ≡ 16 = omega arith in
    rw e at v.invariant
