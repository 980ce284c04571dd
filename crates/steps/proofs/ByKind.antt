-- A command by the kind's number in its first byte. Assumes nothing.
use mathlib.Core.Path.{◌≡◌}
use mathlib.Core.List.{[], ◌∷◌}
use mathlib.Core.Logic.{◌≢◌}
use Prim.Native.Nat.{ℕ, ◌+◌, ◌*◌, ◌/◌, ◌%◌, ◌<◌, ◌≤◌}
use native.Mathlib.Omega.{arith}
use borrow.Author.Tests.{lt-ltb, le-ltb, eq-eqb, ne_eqb}
use Rattle.rules.specs.declared.Command.TheVariants as Do
use Rattle.rules.specs.Sheet.{command_at}
use Rattle.rules.proofs.Sheet.{command_bytes}

module _ (hi lo : ℕ) (h_fits : hi < 256) (l-fits : lo < 256) where
  pub request : hi / 64 < 2 → Do.Request (hi / 4 % 16) (hi % 4 * 4 + lo / 64) (hi / 64) ≡ command_at (hi ∷ lo ∷ []) 0
  request h = rw (command_bytes (hi ∷ lo ∷ []) 0 h_fits l-fits, lt-ltb (hi / 64) 2 h)

  pub release : hi / 64 ≡ 2 → Do.Release (hi / 4 % 16) (hi % 4 * 4 + lo / 64) ≡ command_at (hi ∷ lo ∷ []) 0
  release e = rw (command_bytes (hi ∷ lo ∷ []) 0 h_fits l-fits, le-ltb (hi / 64) 2 (omega arith), eq-eqb (hi / 64) 2 e)

  pub delivery : 2 ≤ hi / 64 → hi / 64 ≢ 2 → Do.Deliver (hi % 64) ≡ command_at (hi ∷ lo ∷ []) 0
  delivery h f = rw (command_bytes (hi ∷ lo ∷ []) 0 h_fits l-fits, le-ltb (hi / 64) 2 h, ne_eqb (hi / 64) 2 f)
