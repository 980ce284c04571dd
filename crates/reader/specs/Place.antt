-- How much is read at a position of a sheet, the spare bits of a command, and the whole bytes around a position.
use Rattle.std.specs.Prelude.{ℕ, ◌+◌, ◌-◌, ◌/◌, ◌%◌, eqb, leb, ltb}
use Rattle.rules.specs.Tables.{pick}
use Rattle.rules.specs.Sheet.{by_kind}

-- how much of n is read at bit `at`: at most 16 bits or 16 homes, and none past bit 2 ^ 32, where no sheet reaches
unfoldable pub within : ℕ → ℕ → ℕ
within at n = pick (leb n 16) (pick (leb at 4294967296) n 0) 0

-- the smaller of two numbers
abbrev pub least : ℕ → ℕ → ℕ
least m n = pick (ltb n m) n m

-- how many of n commands are read at bit `at` of a sheet of l bytes: as many as it has whole from there on, where the bit is a byte's first;
-- none where n is above 4,096, the most that a sheet holds, and none past bit 2 ^ 32
unfoldable pub commands_within : ℕ → ℕ → ℕ → ℕ
commands_within l at n = pick (leb n 4096) (pick (leb at 4294967296) (pick (eqb (at % 8) 0) (least n ((l - at / 8) / 2)) 0) 0) 0

-- the spare bits among the 16 of a command
abbrev pub spare_in : ℕ → ℕ
spare_in c = by_kind (c / 16384) (c % 64) (c % 64) (c % 256)

-- the bits left to a byte's end, and the first byte that starts at or after a bit
abbrev pub left_at : ℕ → ℕ
left_at at = (8 - at % 8) % 8

abbrev pub byte_up : ℕ → ℕ
byte_up at = at / 8 + (at % 8 + 7) / 8
