-- The tests of what was found are the reader's, and what was found is in range. Assumes nothing.
use Rattle.std.proofs.Common.{◌≡◌, sym, ap, Bool, List, [], ◌∷◌, ◌++◌, ℕ, ◌/◌, ◌≤◌, length, take, length-drop, arith, lt-ltb, le-ltb}
use native.Mathlib.Decide.{dec_lt}
use Rattle.rules.specs.declared.Answer.{Answer}
use Rattle.rules.specs.Tables.{pick}
use Rattle.rules.specs.Answers.{first_of}
use Rattle.rules.specs.Sheet.{commands_start, after_homes, any_spare, reader_tests, reader_answer}
use Rattle.rules.proofs.Sheet.{field_below}
use Rattle.reader.specs.declared.Found.{Found}
use Rattle.reader.specs.Found.{found_in}
use Rattle.reader.specs.Place.{least}
use Rattle.sheet.specs.Refusals.{part_tests, sheet_tests}

-- the counts of a sheet are in range
pub few_homes : (s : List ℕ) {h : Found} → h ≡ found_in s → (h.processes ≤ 16) × (h.objects ≤ 16)
few_homes s e = rw e (omega (arith, field_below s 7 4), omega (arith, field_below s 11 4))

pub few_nodes : (s : List ℕ) {h : Found} → h ≡ found_in s → h.nodes ≤ 8
few_nodes s e = rw e (omega (arith, field_below s 4 3))

-- it ends early
pub early_start : (s : List ℕ) {h : Found} → h ≡ found_in s → h.start ≤ 14
early_start s e = rw e (omega (arith, field_below s 7 4, field_below s 11 4))

-- its tests are the reader's: where there are not too many commands, all of them were read
few_read : (n : ℕ) → n ≤ 4096 → least 4096 n ≡ n
few_read n h = elim (dec_lt n 4096) [ yes g ↦ rw (lt-ltb n 4096 g) | no f ↦ rw (le-ltb n 4096 (omega (arith, f))) (omega (arith, f)) ]

part_same : (l : ℕ) (t : ℕ → Bool) → first_of (part_tests l (t (least 4096 (l / 2)))) ≡ first_of (part_tests l (t (l / 2)))
unfolding first_of
part_same l t = elim (dec_lt 4096 (l / 2)) [
  | yes g ↦ rw (lt-ltb 4096 (l / 2) g)
  | no f ↦ rw (few_read (l / 2) (omega (arith, f)))
]

same_end : (first xs ys : List (Bool × Answer)) → first_of xs ≡ first_of ys → first_of (first ++ xs) ≡ first_of (first ++ ys)
unfolding first_of
same_end [] xs ys e = e
same_end (t ∷ first) xs ys e = ap (λ (a : Answer). pick t.0 t.1 a) (same_end first xs ys e)

pub from_start : (s : List ℕ) {h : Found} → h ≡ found_in s → first_of (sheet_tests (length s) h) ≡ reader_answer s
unfolding reader_answer
from_start s e =
    let l : ℕ = length (after_homes s) in
    let spare : ℕ → Bool = any_spare (after_homes s) in
    rw (e, sym (length-drop (commands_start s) s)) (same_end (take 7 (reader_tests s)) (part_tests l (spare (least 4096 (l / 2)))) (part_tests l (spare (l / 2))) (part_same l spare))
