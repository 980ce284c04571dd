-- The measure of the board: what is still to be delivered, at most. A unit of load weighs at most 30 and the load is
-- at most 64, so it is at most 1,920.
use mathlib.Core.Path.{◌≡◌, refl}
use mathlib.Core.Option.{Option, none, some}
use Prim.Native.Nat.{ℕ, ◌*◌, ◌-◌, ◌≤◌, ◌<◌}
use native.Mathlib.Omega.{arith}
use Rattle.model.specs.Board.{Message, request, grant, release, list, Board}
use Rattle.model.specs.Totals.{weight_of, weigh, sum_lines, total, load_of}
use Rattle.model.proofs.Sums.{sum_scale}
use Rattle.model.proofs.Flight.{take_this}
use Rattle.model.proofs.Agreement.{Agreement}
use Rattle.model.proofs.Search.{Search}

-- A list is at most twice at each of its 15 later entries: at the home, then at an object. A request may start a list
-- and put its process in a line, whence one grant comes.
abbrev pub measure_of : Message → ℕ
measure_of (request p o m) = 32
measure_of (grant p o m) = 1
measure_of (release p o) = 1
measure_of (list es n none) = 2 * (16 - n)
measure_of (list es n (some o)) = 2 * (16 - n) - 1

abbrev pub measure : Board → ℕ
measure b = total measure_of (λ _. 1) b

pub measure_at_most : (b : Board) → Agreement b → Search b → measure b ≤ 1920
unfolding total sum_lines weigh
measure_at_most b k s = omega (arith, sum_scale 30 64 (λ i. weight_of measure_of (b.messages i)) (λ i. weight_of load_of (b.messages i)) (λ i h. each i h (b.messages i) refl), k.load)
  where
    each : (i : ℕ) → i < 64 → (x : Option Message) → b.messages i ≡ x → weight_of measure_of x ≤ 30 * weight_of load_of x
    each i h none e = omega arith
    each i h (some (request p o m)) e = omega arith
    each i h (some (grant p o m)) e = omega arith
    each i h (some (release p o)) e = omega arith
    each i h (some (list es n none)) e = omega (arith, (s.lists es n none (take_this b.messages i _ h e)).first)
    each i h (some (list es n (some o))) e = omega (arith, (s.lists es n (some o) (take_this b.messages i _ h e)).first)
