-- What is kept of an input runs as the whole does, so it prints the same. Assumes nothing.
use mathlib.Core.Path.{◌≡◌, sym, ap, ◌∙◌}
use mathlib.Core.List.{List}
use Prim.Native.Nat.{ℕ, ◌≤◌}
use native.Mathlib.Omega.{arith}
use native.Mathlib.Decide.{dec_lt}
use lib.ListN.{take, replicate}
use lib.Seq.{take-take}
use borrow.Author.Tests.{lt-ltb, le-ltb}
use Rattle.rules.specs.Sheet.{Run}
use Rattle.sheet.specs.Kept.{kept_of}
use Rattle.sheet.proofs.Longer.{kept_runs}
use Rattle.printed.specs.Lines.{printed, printed_sheet}
use Rattle.input.specs.Input.{Taken}
use Rattle.input.proofs.Pieces.{pieces_taken}
use Rattle.report.specs.Whole.{WholePrinted}

-- no more is kept than there is, and never more than the buffer holds
kept_below : (n : ℕ) → (kept_of n ≤ n) × (kept_of n ≤ 65536)
kept_below n = elim (dec_lt n 8207) [
  | yes h ↦ rw (lt-ltb n 8207 h) (omega arith, omega arith)
  | no f ↦ rw (le-ltb n 8207 (omega (arith, f))) (omega (arith, f), omega arith)
]

-- of an input of which the first bytes and the length are known
kept_printed : (w buffer : List ℕ) (n : ℕ) → Taken w buffer n → printed_sheet (take (kept_of n) buffer) ≡ printed_sheet w
unfolding printed_sheet
kept_printed w buffer n t =
    ap printed_sheet
    (sym (take-take (kept_of n) n buffer (kept_below n).0)
    ∙ ap (take (kept_of n)) t.first
    ∙ take-take (kept_of n) 65536 w (kept_below n).1
    ∙ ap (λ (k : ℕ). take (kept_of k) w) t.whole)
    ∙ ap (λ (r : Run). printed r.ran r.room) (kept_runs w (replicate 4096 0))

pub whole_printed : WholePrinted
whole_printed w empty buffer n size r page e = e ∙ kept_printed w buffer n (pieces_taken empty w buffer n size r)
