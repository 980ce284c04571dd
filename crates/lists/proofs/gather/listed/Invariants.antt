-- The set has the entries passed.
use Rattle.std.proofs.Common.{◌≡◌, ℕ, get_or}
use Rattle.rules.specs.Tables.{among, rows}
use Rattle.rules.specs.Bits.{taken}
use Rattle.lists.proofs.gather.listed.Given as goal

abbrev pub invariant-loop-p : goal.invariant-loop-p
invariant-loop-p l = (k : ℕ) → taken l.seen k ≡ among k (rows l.p-index (λ j. get_or l.l.who j 0))
