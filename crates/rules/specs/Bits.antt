-- Sets of numbers as the binary digits of a number: occupied message numbers, holders, held objects, exclusive places of a line.
use Rattle.std.specs.Prelude.{Bool, true, false, ℕ, zero, suc, ◌+◌, ◌-◌, ◌/◌, ◌%◌, ◌^◌, eqb}
use Rattle.rules.specs.Tables.{pick}

-- digit k of n, the lowest being digit 0
unfoldable pub digit : ℕ → ℕ → ℕ
digit n k = n / 2 ^ k % 2

-- number k is in the set n
unfoldable pub taken : ℕ → ℕ → Bool
taken n k = eqb (digit n k) 1

-- the set with number k in it
unfoldable pub with_bit : ℕ → ℕ → ℕ
with_bit n k = pick (taken n k) n (n + 2 ^ k)

-- the set without number k
unfoldable pub without_bit : ℕ → ℕ → ℕ
without_bit n k = pick (taken n k) (n - 2 ^ k) n

-- number k in the set, or not
abbrev pub marked : ℕ → ℕ → Bool → ℕ
marked n k t = pick t (with_bit n k) (without_bit n k)

-- the first number from i on, of d numbers, that is not in the set; i + d where there is none
unfoldable pub free_from : ℕ → ℕ → ℕ → ℕ
free_from n zero i = i
free_from n (suc d) i = elim (taken n i) [ true ↦ free_from n d (suc i) | false ↦ i ]

-- "A new message takes the lowest free number." 64 where none is free.
unfoldable pub lowest_free : ℕ → ℕ
lowest_free n = free_from n 64 0

-- the first number from i on, of d numbers, that is in the set; i + d where there is none
unfoldable pub taken_from : ℕ → ℕ → ℕ → ℕ
taken_from n zero i = i
taken_from n (suc d) i = elim (taken n i) [ true ↦ i | false ↦ taken_from n d (suc i) ]

-- the lowest number in the set; 64 where there is none
unfoldable pub lowest_taken : ℕ → ℕ
lowest_taken n = taken_from n 64 0
