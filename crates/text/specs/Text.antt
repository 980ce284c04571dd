-- Text as a list of bytes: letters, a number in decimal, words parted by spaces, lines one after another; and bytes put into a lent buffer
-- at a place.
use Rattle.std.specs.Prelude.{ℕ, zero, suc, ◌+◌, ◌-◌, ◌*◌, ◌/◌, ◌%◌, ◌≡◌, true, false, List, [], ◌∷◌, ◌++◌, ltb, length, take}
use Rattle.std.proofs.lemmas.List.Edits.{sets}
pub use Rattle.rules.specs.Letters.{bytes}
use Rattle.rules.specs.Tables.{pick}

-- ---- a number in decimal
-- the digits of n, highest first, without leading zeros; d is how many there may be
unfoldable pub digits : ℕ → ℕ → List ℕ
digits zero n = []
digits (suc d) n = elim (ltb n 10) [ true ↦ (48 + n) ∷ [] | false ↦ digits d (n / 10) ++ (48 + n % 10) ∷ [] ]

-- a number has no more digits than itself and one
unfoldable pub decimal : ℕ → List ℕ
decimal n = digits (suc n) n

-- the number that digits stand for, after v
unfoldable pub read_on : ℕ → List ℕ → ℕ
read_on v [] = v
read_on v (d ∷ ds) = read_on (10 * v + (d - 48)) ds

-- ---- words and lines
-- a space before each
unfoldable pub after_spaces : List (List ℕ) → List ℕ
after_spaces [] = []
after_spaces (w ∷ ws) = 32 ∷ w ++ after_spaces ws

-- "entries are parted by one space"
unfoldable pub spaced : List (List ℕ) → List ℕ
spaced [] = []
spaced (w ∷ ws) = w ++ after_spaces ws

-- words parted by spaces, and the line's end
unfoldable pub line_of : List (List ℕ) → List ℕ
line_of ws = spaced ws ++ 10 ∷ []

-- f 0, then f 1, to f (n - 1)
unfoldable pub flat : {A : Type 0} → ℕ → (ℕ → List A) → List A
flat zero f = []
flat (suc n) f = flat n f ++ f n

-- a count above its limit counts as the limit; no sheet that runs has one (promises/specs/Demand.antt)
unfoldable pub at_most : ℕ → ℕ → ℕ
at_most top n = pick (ltb n top) n top

-- ---- the lent buffer
-- the buffer with the bytes in it from a place on, and all others as they were
unfoldable pub written : List ℕ → ℕ → List ℕ → List ℕ
written old at bytes = sets old at bytes

-- bytes behind the n that came before, in a buffer for so many: those that there is room for
unfoldable pub behind : ℕ → List ℕ → ℕ → List ℕ → List ℕ
behind room buffer n bytes = written buffer n (take (room - n) bytes)

-- the bytes were put there, and the place after them was handed back
pub record Wrote (old : List ℕ) (at : ℕ) (bytes : List ℕ) (new : List ℕ) (end : ℕ) : Type 0 where
  pub text : new ≡ written old at bytes
  pub place : end ≡ at + length bytes
