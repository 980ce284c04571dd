-- The part of a sheet that holds the commands is no longer than the sheet. Assumes nothing.
use mathlib.Core.Path.{◌≡◌}
use mathlib.Core.Bool.{Bool, true, false}
use mathlib.Core.List.{List, []}
use Prim.Native.Nat.{ℕ, ◌≤◌}
use native.Mathlib.Omega.{arith}
use lib.ListN.{length, drop, length-drop}
use Rattle.rules.specs.Tables.{pick}
use Rattle.rules.specs.Answers.{done}
use Rattle.rules.specs.Sheet.{commands_start, reader_answer, commands_part}

dropped : (b : Bool) (n : ℕ) (s : List ℕ) → length (pick b (drop n s) []) ≤ length s
dropped true n s = simp length-drop (omega arith)
dropped false n s = omega arith

pub part_shorter : (s : List ℕ) {part : List ℕ} → part ≡ commands_part s → length part ≤ length s
unfolding commands_part
part_shorter s e = rw e (dropped (done (reader_answer s)) (commands_start s) s)
