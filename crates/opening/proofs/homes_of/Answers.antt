-- `homes_of` meets its contract: the first homes are copied into a row of zeros.
use Rattle.std.proofs.Common.{◌∙◌, ap, arith, List, ℕ, ◌++◌, drop, replicate}
use Rattle.opening.proofs.Homes.{homes_kept}
use Rattle.opening.proofs.homes_of.Goals as goal

pub returns : goal.returns
returns c =
    let n = c.from-n.result in
    ap (λ (s : List ℕ). s ++ drop n (replicate 16 0)) c.copy_from_slice.ensures.after ∙ homes_kept c.args.count c.args.homes n (omega arith) (omega arith)
