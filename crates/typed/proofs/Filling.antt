-- A row that is made place by place is the row of the function that each place has. Assumes nothing.
use Rattle.std.proofs.Common.{◌≡◌, sym, subst, ◌∙◌, List, ℕ, zero, suc, ◌+◌, ◌<◌, arith, get_or, ext_get_or}
use Rattle.std.specs.Array.{IsFromFnResult, IsFromFnResultFrom}
use denote.Param.Members.{Mut, Called}
use Rattle.rules.specs.Tables.{rows}
use Rattle.rules.proofs.Tables.{rows_length, rows_at}

-- `array::from_fn` with a closure that stays as it is and gives a function of the place
module _ {F : Type 0} (g : Mut F (ℕ × Unit {0}) ℕ) (f : F) (h : ℕ → ℕ) (gives : (i y : ℕ) (q : F) → Called g f (i, tt) y q → (q ≡ f) × (y ≡ h i)) where
  made_from : (ys : List ℕ) (i n : ℕ) → IsFromFnResultFrom g f ys i n → (k j : ℕ) → i + k ≡ j → k < n → get_or ys j 0 ≡ h j
  made_from ys i zero r k j e l = absurd (omega arith)
  made_from ys i (suc n) (q, y, there, called, rest) zero j e l =
      subst (λ (m : ℕ). get_or ys m 0 ≡ h m) (omega (arith, e)) (there.1 0 ∙ (gives i y q called).1)
  made_from ys i (suc n) (q, y, there, called, rest) (suc k) j e l =
      made_from ys (i + 1) n (subst (λ (x : F). IsFromFnResultFrom g x ys (i + 1) n) (gives i y q called).0 rest) k j (omega (arith, e)) (omega (arith, l))

  pub made_row : (ys : List ℕ) (n : ℕ) → IsFromFnResult g f ys n → ys ≡ rows n h
  made_row ys n m =
      ext_get_or 0 ys (rows n h) (m.long ∙ sym (rows_length n h))
      (λ k l. made_from ys 0 n m.each k k (omega arith) (omega (arith, m.long)) ∙ sym (rows_at n h k 0 (omega (arith, m.long))))
