-- Sums over lines, for any weights: one more in a line adds its weight, and who stands in a line has its weight in the sum.
use mathlib.Core.Path.{◌≡◌, refl}
use mathlib.Core.Logic.{inl, inr}
use mathlib.Core.Bool.{Bool}
use mathlib.Core.List.{[], ◌∷◌, ◌++◌}
use Prim.Native.Nat.{ℕ, ◌+◌, ◌≤◌, ◌<◌}
use native.Mathlib.Omega.{arith}
use native.Mathlib.Decide.{ℕ_discrete}
use Rattle.model.specs.Tables.{put}
use Rattle.model.specs.Book.{Waiter, standing, Line, In}
use Rattle.model.specs.Totals.{sum_line, sum_lines}
use Rattle.model.proofs.Sums.{sum_at, sum_positive, sum_put, same, same_no}

pub sum_line_append : (v : Waiter → ℕ) (s t : Line) → sum_line v (s ++ t) ≡ sum_line v s + sum_line v t
unfolding sum_line
sum_line_append v [] t = omega arith
sum_line_append v (e ∷ s) t = omega (arith, sum_line_append v s t)

sum_line_in : (v : Waiter → ℕ) (p : ℕ) (m : Bool) (l : Line) → In p m l → v (standing p m) ≤ sum_line v l
unfolding sum_line
sum_line_in v p m [] x' = elim x' [ ]
sum_line_in v p m (e ∷ l) (inl i) = rw (← i.0, ← i.1) (omega arith)
sum_line_in v p m (e ∷ l) (inr i) = omega (arith, sum_line_in v p m l i)

pub sum_line_ext : (v : Waiter → ℕ) (w : Waiter → ℕ) (l : Line) → ((e : Waiter) → v e ≡ w e) → sum_line v l ≡ sum_line w l
unfolding sum_line
sum_line_ext v w [] h = refl
sum_line_ext v w (e ∷ l) h = omega (arith, sum_line_ext v w l h, h e)

pub sum_line_zero : (v : Waiter → ℕ) (l : Line) → ((e : Waiter) → v e ≡ 0) → sum_line v l ≡ 0
unfolding sum_line
sum_line_zero v [] h = refl
sum_line_zero v (e ∷ l) h = omega (arith, sum_line_zero v l h, h e)

pub sum_lines_put : (v : Waiter → ℕ) (f : ℕ → Line) (o : ℕ) (l : Line) → o < 16 → sum_lines v (put f o l) + sum_line v (f o) ≡ sum_lines v f + sum_line v l
unfolding sum_lines
sum_lines_put v f o l lt = sum_put (sum_line v) f o l 16 lt

pub sum_lines_in : (v : Waiter → ℕ) (f : ℕ → Line) (o p : ℕ) (m : Bool) → o < 16 → In p m (f o) → v (standing p m) ≤ sum_lines v f
unfolding sum_lines
sum_lines_in v f o p m lt i = omega (arith, sum_at 16 (λ o. sum_line v (f o)) o lt, sum_line_in v p m (f o) i)

-- ---- how often p stands in lines
abbrev pub is_who : ℕ → Waiter → ℕ
is_who p e = same e.who p

sum_line_stands : (p : ℕ) (l : Line) → 1 ≤ sum_line (is_who p) l → (m : Bool) × In p m l
unfolding sum_line
sum_line_stands p [] h = absurd (omega arith)
sum_line_stands p (e ∷ l) h = elim (ℕ_discrete e.who p) [
  | yes z ↦ (e.mode, inl (z, refl))
  | no n ↦ let r = sum_line_stands p l (omega (arith, same_no e.who p n)) in (r.0, inr r.1)
]

pub sum_lines_stands : (p : ℕ) (f : ℕ → Line) → 1 ≤ sum_lines (is_who p) f → (o : ℕ) × (m : Bool) × In p m (f o)
unfolding sum_lines
sum_lines_stands p f h = let s = sum_positive 16 (λ o. sum_line (is_who p) (f o)) h in let r = sum_line_stands p (f s.0) s.2 in (s.0, r.0, r.1)
