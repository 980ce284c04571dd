-- `in_turn` meets its contract: place by place. Assumes nothing.
use Rattle.std.proofs.Common.{rules}
use Rattle.typed.proofs.Filling.{made_row}
use Rattle.asked.specs.Asked.{in_turn_at, in_turn}
use Rattle.asked.proofs.in_turn.Goals as goal

pub returns : goal.returns
unfolding in_turn
returns c = made_row _ _ (in_turn_at c.args.nodes) (λ i y q called. search rules) _ _ c.from_fn.ensures.items
