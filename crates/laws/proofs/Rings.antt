-- Recorded rings by length: a recorded ring in shape has 2 to 16 processes, so the tally is the sum over these lengths. Assumes nothing.
use mathlib.Core.Path.{◌≡◌, refl, ◌∙◌}
use mathlib.Core.Bool.{◌&&◌}
use Prim.Native.Nat.{ℕ, ◌+◌, ◌-◌, ◌≤◌, ◌<◌}
use native.Mathlib.Omega.{arith}
use lib.Dec.{eqb, ltb}
use borrow.Author.Tests.{eqb-true, eq-eqb, ltb-true}
use Rattle.rules.specs.Tables.{pick, count_of}
use Rattle.rules.specs.Board.{ring_at, counts, tally, rings_of_length}
use Rattle.rules.proofs.Tables.{by_test, same_test, sum_ext, sum_zero, sum_swap, count_ext, count_self}
use Rattle.laws.specs.Shape.{RingLengths}

-- a number that is 0 or from 2 to 16 is, if not 0, one of those
one_length : (c : ℕ) → (0 < c → 1 < c) → c ≤ 16 → count_of 15 (λ k. ltb 0 c && eqb (2 + k) c) ≡ pick (ltb 0 c) 1 0
one_length c two most = by_test (ltb 0 c)
    (λ z.
    let h : 1 < c = two (ltb-true 0 c z) in
    rw z (count_ext 15 (λ k. eqb (2 + k) c) (λ k. eqb (c - 2) k)
    (λ k _. same_test (eqb (2 + k) c) (eqb (c - 2) k) (λ e. eq-eqb (c - 2) k (omega (arith, eqb-true (2 + k) c e))) (λ e. eq-eqb (2 + k) c (omega (arith, h, eqb-true (c - 2) k e))))
    ∙ count_self 15 (c - 2) (omega (arith, h, most))))
    (λ z. rw z (sum_zero 15 (λ k. 0) (λ k _. refl)))

pub ring_lengths : RingLengths
unfolding tally rings_of_length
ring_lengths b shaped =
    sum_swap 15 16 (λ k s. pick (counts b.rings s && eqb (2 + k) (ring_at b s).count) 1 0)
    ∙ sum_ext 16 _ _ (λ s _. one_length (ring_at b s).count (λ h. ((shaped.rings s).filled h).two) (shaped.rings s).most)
