-- The numbers below n that pass a test: the first of them, whether there is one, and all of them as a set.
use Rattle.std.specs.Prelude.{ℕ, zero, suc, Bool, ltb}
use Rattle.rules.specs.Tables.{pick, place_of}
use Rattle.rules.specs.Bits.{marked}

-- the first number below n that passes the test; n where none does
abbrev pub first : ℕ → (ℕ → Bool) → ℕ
first n t = place_of n (λ k. pick (t k) 1 0) 1

-- some number below n passes the test
abbrev pub any : ℕ → (ℕ → Bool) → Bool
any n t = ltb (first n t) n

-- the numbers below n that pass the test, as a set
unfoldable pub set_of : ℕ → (ℕ → Bool) → ℕ
set_of zero t = 0
set_of (suc n) t = marked (set_of n t) n (t n)
