-- `typed::number::decimal` meets its contract. The loop's invariant: the digits left, after the number so far, read as all of them do.
-- Assumes nothing.
use Rattle.std.proofs.Common.{◌≡◌, ◌≤◌, drop}
use Rattle.typed.specs.Numbers.{decimal_from, decimal}
use Rattle.typed.proofs.number.decimal.Given as goal

abbrev pub invariant-loop-c : goal.invariant-loop-c
invariant-loop-c l = (l.n ≤ 65535) × (decimal_from l.n (drop l.c-index l.word) ≡ decimal l.word)
