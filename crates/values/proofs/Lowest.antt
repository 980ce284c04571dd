-- The lowest number of a set that has one, and the set without it: the number is below 64, and the set is a smaller number then.
use Rattle.std.proofs.Common.{◌≡◌, ℕ, ◌<◌, ◌^◌, ◌≢◌, true, arith}
use lib.Pow.{pow_pos}
use Rattle.rules.specs.Bits.{taken, without_bit, lowest_taken}
use Rattle.rules.proofs.Bits.{taken_le, lowest-taken, lowest_taken_below}

without_less : (n k : ℕ) → taken n k ≡ true → without_bit n k < n
unfolding without_bit
without_less n k e = rw e (omega (arith, taken_le n k e, pow_pos k))

module _ (left : ℕ) (fits : left < 2 ^ 64) (some : left ≢ 0) {q : ℕ} (is-q : q ≡ lowest_taken left) where
  pub lowest_below : q < 64
  lowest_below = rw is-q (lowest_taken_below left fits some)

  pub lowest_out : {less : ℕ} → less ≡ without_bit left q → less < left
  lowest_out e = rw (e, is-q) (without_less left (lowest_taken left) (lowest-taken left (rw is-q at lowest_below)))
