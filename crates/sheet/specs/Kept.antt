-- How much of an input has to be kept. A whole sheet has at most 8,206 bytes: 14 before the commands and 4,096 commands. A longer input is
-- refused, and which refusal it gets rests on its first 14 bytes and on whether its length is odd, since 15 comes before 16.
use Rattle.std.specs.Prelude.{ℕ, ◌-◌, ◌%◌, ltb}
use Rattle.rules.specs.Tables.{pick}

-- a short input whole, and of a longer one 8,207 or 8,208 bytes: an odd number where the whole is odd
abbrev pub kept_of : ℕ → ℕ
kept_of n = pick (ltb n 8207) n (8208 - n % 2)
