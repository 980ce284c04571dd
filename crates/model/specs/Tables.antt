-- Tables: functions of a number, changed at one place; and things that stand under the numbers 0 to 63.
use Rattle.std.specs.Prelude.{◌≡◌, ℕ, zero, suc, ◌<◌}
use Rattle.std.proofs.Math.Logic.{ite}
use Rattle.std.proofs.Math.Option.{Option, none, some}
use Rattle.std.proofs.Math.Decide.{ℕ_discrete}

module _ {A : Type 0} where
  -- the table with x at p
  unfoldable pub put : (ℕ → A) → ℕ → A → ℕ → A
  put f p x = λ q. ite (ℕ_discrete q p) x (f q)

module _ {A : Type 0} where
  -- the table of two numbers with x at p and o
  unfoldable pub put_pair : (ℕ → ℕ → A) → ℕ → ℕ → A → ℕ → ℕ → A
  put_pair f p o x = put f p (put (f p) o x)

-- things that stand under numbers; a number with none is free
abbrev pub Numbered : Type 0 → Type 0
Numbered A = ℕ → Option A

module _ {A : Type 0} where
  -- the lowest free number from i on, among n
  unfoldable pub lowest_from : ℕ → ℕ → Numbered A → ℕ
  lowest_from zero i f = i
  lowest_from (suc n) i f = elim (f i) [ none ↦ i | some a ↦ lowest_from n (suc i) f ]

  unfoldable pub lowest_free : Numbered A → ℕ
  lowest_free f = lowest_from 64 0 f

  -- "A new message takes the lowest free number."
  unfoldable pub send : A → Numbered A → Numbered A
  send m f = put f (lowest_free f) (some m)

  -- m stands under one of the 64 numbers
  unfoldable pub InFlight : Numbered A → A → Type 0
  InFlight f m = (i : ℕ) × (i < 64) × (f i ≡ some m)
