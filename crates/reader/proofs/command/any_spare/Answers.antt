-- What is gathered is zero where no command has a spare bit set.
use Rattle.std.proofs.Common.{◌≡◌, ◌∙◌, refl, sym, ap, rules, ℕ, List, ◌++◌, ◌∷◌, [], arith}
use Rattle.std.specs.List.{fold, range_with_len}
use Rattle.std.proofs.lemmas.Fn.{fold_over}
use Rattle.std.proofs.lemmas.Iterator.{YieldsList-from_range}
use Rattle.std.proofs.iter.Yields.{nat_range_steps}
use Rattle.std.proofs.lemmas.List.Sums.{fold-append}
use Rattle.reader.proofs.Spared.{gather, gathered}
use Rattle.reader.proofs.command.any_spare.Goals as goal

pub returns : goal.returns
returns c =
    let a = c.args in
    let h = gather a.s.now a.first in
    let one : (ys : List ℕ) (set x b : ℕ) → set ≡ fold h 0 ys → b ≡ h set x → b ≡ fold h 0 (ys ++ x ∷ []) = λ ys set x b e z. z ∙ ap (λ (m : ℕ). h m x) e ∙ sym (fold-append h 0 ys (x ∷ [])) in
    let e : c.fold-set.result ≡ fold h 0 (range_with_len 0 a.n) =
    fold_over nat_range_steps _ _ (λ (ys : List ℕ) (set : ℕ). set ≡ fold h 0 ys) _ (λ ys set x b j e q. (one ys set x b e (search rules), search rules)) (record { start = 0; end = a.n }) (range_with_len 0 a.n) 0 _ (YieldsList-from_range 0 a.n a.n refl (omega arith)).runs refl c.fold-set.ensures.ran in
    rw e (gathered a.s.now a.first a.n)
