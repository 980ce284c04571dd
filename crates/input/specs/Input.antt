-- An input is taken in piece by piece: of each piece a buffer of 65,536 bytes holds as much as it has room for, and all of its bytes are
-- counted. What is known of an input w then is its length and its first bytes.
use Rattle.std.specs.Prelude.{◌≡◌, List, [], ◌++◌, ℕ, ◌+◌, length, take}
use Rattle.text.specs.Text.{behind}

-- the pieces, one after another, are w; they were taken into a buffer, and n were counted
pub data Pieces (old : List ℕ) : List ℕ → List ℕ → ℕ → Type 0 where
  none : Pieces old [] old 0
  one : {w buffer : List ℕ} {n : ℕ} → Pieces old w buffer n → (p : List ℕ) → Pieces old (w ++ p) (behind 65536 buffer n p) (n + length p)

pub record Taken (w buffer : List ℕ) (n : ℕ) : Type 0 where
  pub first : take n buffer ≡ take 65536 w
  pub whole : n ≡ length w

-- whatever the pieces are
abbrev pub PiecesTaken : Type 0
PiecesTaken = (old w buffer : List ℕ) (n : ℕ) → length old ≡ 65536 → Pieces old w buffer n → Taken w buffer n
