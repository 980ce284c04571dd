-- Refused, and nothing else. Assumes nothing.
use Rattle.std.proofs.Common.{rules}
use Rattle.totals.proofs.Laws.{none_more, none_more_at, made_alike}
use Rattle.totals.proofs.refused.Goals as goal

pub returns : goal.returns
returns c =
    let t = c.args.t in
    made_alike
    c.one_more.ensures
    (none_more t.ran)
    c.one_more-2.ensures
    c.one_more_at.ensures
    (none_more t.ringed)
    (none_more_at t.rings (search rules))
