-- Tests that pass, as facts: a conjunction, different numbers, a set of numbers below a limit, an answer that is done.
use mathlib.Core.Path.{◌≡◌, refl, ap, sym, ◌∙◌}
use mathlib.Core.Bool.{Bool, true, ◌&&◌}
use mathlib.Core.List.{List}
use Prim.Native.Nat.{ℕ, ◌/◌, ◌^◌, ◌<◌}
use native.Mathlib.Omega.{arith}
use native.Mathlib.Nat.{div-eq_of_lt, div-lt_iff_lt-mul, one-mul}
use lib.ListN.{get_or}
use lib.Pow.{pow_pos}
use borrow.Author.Tests.{eqb-true, eq-eqb}
use Rattle.rules.specs.declared.Answer.{Answer}
use Rattle.rules.specs.declared.Answer.TheVariants.{Done, CountOutside, HomeOutside, NoProcess, NoObject, NoMode, ProcessWaits, HasReleased, HoldsAlready, HoldsNot, LoadTooHigh, NoMessage, SheetCut, WrongForm, SpareBit, OddByte, TooManyCommands, OutOfShape, RoomTooShort}
use Rattle.rules.specs.Answers.{done}
use Rattle.rules.specs.Tables.{place_of}
use Rattle.rules.specs.Shape.{set_fits, different}
use Rattle.rules.proofs.Tables.{true_not_false, both_left, both_right, all_at, all_from, place_first}
use Rattle.laws.specs.Shape.{Differ}

pub parts : (a b : Bool) → a && b ≡ true → (a ≡ true) × (b ≡ true)
parts a b e = (both_left a b e, both_right a b e)

-- ---- different numbers
pub differ_from : (l : List ℕ) (n : ℕ) → different l n ≡ true → Differ l n
unfolding different
differ_from l n e j k h g z =
    let place : (i : ℕ) → i < n → place_of n (λ j. get_or l j 0) (get_or l i 0) ≡ i = λ i a. eqb-true _ _ (all_at n _ e i a) in
    sym (place j h) ∙ ap (place_of n (λ j. get_or l j 0)) z ∙ place k g

pub differ_tested : (l : List ℕ) (n : ℕ) → Differ l n → different l n ≡ true
unfolding different
differ_tested l n d = all_from n _ (λ k h. eq-eqb _ _ (place_first (get_or l k 0) n (λ j. get_or l j 0) k h (λ j g z. omega (arith, d j k (omega arith) h z)) refl))

-- ---- a set of numbers below c
pub set_below : (n c : ℕ) → set_fits n c ≡ true → n < 2 ^ c
set_below n c e = rw one-mul at ((div-lt_iff_lt-mul {k = 2 ^ c} {x = n} {y = 1} (pow_pos c)).0 (omega (arith, eqb-true (n / 2 ^ c) 0 e)))

pub set_tested : (n c : ℕ) → n < 2 ^ c → set_fits n c ≡ true
set_tested n c h = eq-eqb _ _ (div-eq_of_lt h)

-- ---- one answer is done
pub done_is : (a : Answer) → done a ≡ true → a ≡ Done
done_is Done e = refl
done_is CountOutside e = absurd (true_not_false (sym e))
done_is HomeOutside e = absurd (true_not_false (sym e))
done_is NoProcess e = absurd (true_not_false (sym e))
done_is NoObject e = absurd (true_not_false (sym e))
done_is NoMode e = absurd (true_not_false (sym e))
done_is ProcessWaits e = absurd (true_not_false (sym e))
done_is HasReleased e = absurd (true_not_false (sym e))
done_is HoldsAlready e = absurd (true_not_false (sym e))
done_is HoldsNot e = absurd (true_not_false (sym e))
done_is LoadTooHigh e = absurd (true_not_false (sym e))
done_is NoMessage e = absurd (true_not_false (sym e))
done_is SheetCut e = absurd (true_not_false (sym e))
done_is WrongForm e = absurd (true_not_false (sym e))
done_is SpareBit e = absurd (true_not_false (sym e))
done_is OddByte e = absurd (true_not_false (sym e))
done_is TooManyCommands e = absurd (true_not_false (sym e))
done_is OutOfShape e = absurd (true_not_false (sym e))
done_is RoomTooShort e = absurd (true_not_false (sym e))
