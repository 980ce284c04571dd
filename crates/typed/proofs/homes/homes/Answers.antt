-- `typed::homes::homes` meets its contract: place by place. Assumes nothing.
use Rattle.std.proofs.Common.{◌+◌, rules}
use Rattle.typed.specs.Homes.{number_at, homes}
use Rattle.typed.proofs.Filling.{made_row}
use Rattle.typed.proofs.homes.homes.Goals as goal

pub returns : goal.returns
unfolding homes
returns c = made_row _ _ (λ k. number_at c.args.row (3 + c.args.others + k)) (λ i y q called. search rules) _ _ c.from_fn.ensures.items
