-- The numbers of the answers: an answer comes back from its number.
use mathlib.Core.Path.{◌≡◌, refl}
use mathlib.Core.Logic.{◌≢◌}
use mathlib.Core.List.{List, [], ◌∷◌}
use Prim.Native.Nat.{ℕ, zero, suc, ◌≤◌}
use native.Mathlib.Omega.{arith}
use lib.ListN.{get_or, length}
use Rattle.rules.specs.declared.Answer.{Answer}
use Rattle.rules.specs.declared.Answer.TheVariants.{Done, CountOutside, HomeOutside, NoProcess, NoObject, NoMode, ProcessWaits, HasReleased, HoldsAlready, HoldsNot, LoadTooHigh, NoMessage, SheetCut, WrongForm, SpareBit, OddByte, TooManyCommands, OutOfShape, RoomTooShort}
use Rattle.rules.specs.Answers.{number}
use Rattle.rules.specs.Answers.{answers, answer_of}

pub answer_back : (a : Answer) → answer_of (number a) ≡ a
unfolding answer_of
answer_back Done = refl
answer_back CountOutside = refl
answer_back HomeOutside = refl
answer_back NoProcess = refl
answer_back NoObject = refl
answer_back NoMode = refl
answer_back ProcessWaits = refl
answer_back HasReleased = refl
answer_back HoldsAlready = refl
answer_back HoldsNot = refl
answer_back LoadTooHigh = refl
answer_back NoMessage = refl
answer_back SheetCut = refl
answer_back WrongForm = refl
answer_back SpareBit = refl
answer_back OddByte = refl
answer_back TooManyCommands = refl
answer_back OutOfShape = refl
answer_back RoomTooShort = refl

past : {A : Type 0} (l : List A) (d : A) (n : ℕ) → length l ≤ n → get_or l n d ≡ d
past [] d n h = refl
past (x ∷ l) d zero h = absurd (omega (arith, h))
past (x ∷ l) d (suc n) h = past l d n (omega (arith, h))

-- past one number and not the next, past the next
pub above : (n k : ℕ) → k ≤ n → n ≢ k → suc k ≤ n
above n k h f = omega (arith, h, f)

pub answer_past : (n : ℕ) → 18 ≤ n → answer_of n ≡ RoomTooShort
unfolding answer_of
answer_past n h = past answers RoomTooShort n h
