-- `shifted` meets its contract: each place has what stood one place on.
use Rattle.std.proofs.Common.{◌+◌, get_or, rules, arith}
use Rattle.objects.proofs.Shift.{made, moved_up}
use Rattle.objects.proofs.shifted.Goals as goal

pub returns : goal.returns
returns c =
    let l = c.args.line in
    moved_up c.from_fn.result l 15 c.from_fn.ensures.items.long (omega arith) (made _ _ (λ k. get_or l (k + 1) 0) c.from_fn.result 0 (λ k y q call. (search rules, search rules)) 16 c.from_fn.ensures.items)
