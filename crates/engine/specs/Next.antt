-- What a source of commands gives.
use Rattle.std.specs.Prelude.{◌≡◌, Bool, true, false, ◌&&◌, not, ℕ, ◌+◌, ◌*◌, ◌%◌, ◌<◌, ltb, List, get_or, Option, MatchOption}
use Rattle.rules.specs.Tables.{pick}
use Rattle.rules.specs.Bits.{lowest_taken}

-- a drain is over where no message is in flight
abbrev pub is_over : Bool → ℕ → Bool
is_over drains occupied = drains && not (ltb (lowest_taken occupied) 64)

-- the two bytes of command i: those of the slice, or of the delivery of the lowest number in flight
abbrev pub first_byte : Bool → List ℕ → ℕ → ℕ → ℕ
first_byte drains s i occupied = pick drains (192 + lowest_taken occupied % 64) (get_or s (2 * i) 0)

abbrev pub second_byte : Bool → List ℕ → ℕ → ℕ
second_byte drains s i = pick drains 0 (get_or s (2 * i + 1) 0)

abbrev pub Gives : Bool → List ℕ → ℕ → ℕ → Option (ℕ × ℕ) → Type 0
Gives drains s i occupied r = MatchOption r (is_over drains occupied ≡ true)
    (λ c. (is_over drains occupied ≡ false) × (c.0 ≡ first_byte drains s i occupied) × (c.0 < 256) × (c.1 ≡ second_byte drains s i) × (c.1 < 256))
