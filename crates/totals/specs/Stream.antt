-- What a stream holds: sheets one after another, each behind its length.
use Rattle.std.specs.Prelude.{ℕ, zero, suc, ◌+◌, ◌*◌, List, [], ◌∷◌, ltb, length, take, drop}
use Rattle.rules.specs.Tables.{pick}

-- a sheet of a stream: its bytes, or why they are not there
pub data Sheet : Type 0 where
  whole : List ℕ → Sheet
  long : Sheet
  cut : Sheet

-- "The buffer for one sheet is 8,206 bytes."
abbrev pub buffer : ℕ
buffer = 8206

-- "A longer length is skipped": a sheet of n bytes, which are the first of those kept where the buffer has room for them
unfoldable pub sized : ℕ → List ℕ → Sheet
sized n kept = pick (ltb buffer n) long (whole (take n kept))

-- "each sheet preceded by its length in bytes as 16 bits, most significant first"
abbrev pub length_of : ℕ → ℕ → ℕ
length_of high low = 256 * high + low

-- at most k sheets
unfoldable pub sheets_within : ℕ → List ℕ → List Sheet
sheets_within zero w = []
sheets_within (suc k) [] = []
-- "A stream that ends inside a length or a sheet, of any length, counts that sheet .. and stops."
sheets_within (suc k) (high ∷ []) = cut ∷ []
sheets_within (suc k) (high ∷ low ∷ w) = let n = length_of high low in
    pick (ltb (length w) n) (cut ∷ []) (sized n w ∷ sheets_within k (drop n w))

-- a stream has no more sheets than bytes
unfoldable pub sheets_in : List ℕ → List Sheet
sheets_in w = sheets_within (length w) w
