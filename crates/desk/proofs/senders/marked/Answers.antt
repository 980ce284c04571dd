-- `marked` meets its contract: place by place. Assumes nothing.
use Rattle.std.proofs.Common.{rules}
use Rattle.typed.proofs.Filling.{made_row}
use Rattle.desk.specs.Senders.{marked_at, marked}
use Rattle.desk.proofs.senders.marked.Goals as goal

pub returns : goal.returns
unfolding marked
returns c = let a = c.args in made_row _ _ (marked_at a.senders a.set a.node) (λ i y q called. search rules) _ _ c.from_fn.ensures.items
