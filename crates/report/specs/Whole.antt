-- "The program `board` reads a sheet on standard input .. It prints ..": of an input of any length that was read piece by piece, what is handed
-- on to be written is what is printed for the whole of it.
use Rattle.std.specs.Prelude.{◌≡◌, List, ℕ, length, take}
use Rattle.sheet.specs.Kept.{kept_of}
use Rattle.printed.specs.Lines.{printed_sheet}
use Rattle.input.specs.Input.{Pieces}

-- The pieces of an input w were taken into a buffer, as `input::whole` does; `composed` was given that buffer and the length n, and its text
-- is on the page, which is handed on.
abbrev pub WholePrinted : Type 0
WholePrinted = (w empty buffer : List ℕ) (n : ℕ) → length empty ≡ 65536 → Pieces empty w buffer n
    → (page : List ℕ) → page ≡ printed_sheet (take (kept_of n) buffer)
    → page ≡ printed_sheet w
