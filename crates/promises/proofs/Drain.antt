-- The drain makes accepted deliveries, each of the lowest number in flight, until the budget is used or no message is left. Nothing else
-- does: lowest first, there is one way to go.
use mathlib.Core.Path.{◌≡◌, refl, ap, sym, ◌∙◌, subst}
use mathlib.Core.Logic.{◌⊎◌, inl, inr, ⊎_elim}
use mathlib.Core.Bool.{true, false}
use Prim.Native.Nat.{ℕ, zero, suc, ◌≤◌}
use native.Mathlib.Omega.{arith}
use lib.Dec.{ltb}
use borrow.Author.Tests.{ltb-true, ltb-false}
use Rattle.rules.specs.declared.Board.{Board}
use Rattle.rules.specs.declared.Drained.{Drained}
use Rattle.rules.specs.declared.Command.TheVariants as Do
use Rattle.rules.specs.declared.Answer.TheVariants.{Done}
use Rattle.rules.specs.Bits.{lowest_taken}
use Rattle.rules.specs.Commands.{delivered, draining}
use Rattle.rules.specs.Shape.{step, drain}
use Rattle.rules.specs.Waits.{Present, Quiet, Lowest, LowestFirst, stay, more}
use Rattle.rules.proofs.Bits.{lowest-taken, lowest_taken_le, lowest_taken_none, lowest_taken_some}
use Rattle.rules.proofs.Tables.{by_test, true_not_false}
use Rattle.promises.proofs.Reached.{Sound, sound_shape, step_sound, step_present, step_delivered, delivered_sound, any_order, at-most, one_more}

pub record Emptied (n : ℕ) (b : Board) (d : Drained) : Type 0 where
  pub answer : d.answer ≡ Done
  pub made : LowestFirst d.made b d.board
  pub within : d.made ≤ n
  pub end : (d.made ≡ n) ⊎ Quiet d.board

draining_view : (n : ℕ) (b : Board) → Sound b → Emptied n b (draining n b)
unfolding draining
draining_view zero b s = record { answer = refl; made = stay; within = omega arith; end = inl refl }
draining_view (suc n) b s = by_test (ltb k 64) (λ e. delivers e (draining_view n (delivered b k))) quiet
  where
    k : ℕ
    k = lowest_taken b.occupied

    quiet : ltb k 64 ≡ false → Emptied (suc n) b (draining (suc n) b)
    quiet e =
        let z : k ≡ 64 = omega (arith, ltb-false k 64 e, lowest_taken_le b.occupied) in
        rw (draining, e) (record { answer = refl; made = stay; within = omega arith; end = inr (λ j p. true_not_false (sym p.1 ∙ lowest_taken_none b.occupied z j p.0)) })

    delivers : ltb k 64 ≡ true → (Sound (delivered b k) → Emptied n (delivered b k) (draining n (delivered b k))) → Emptied (suc n) b (draining (suc n) b)
    delivers e rest =
        let h : Present b k = (ltb-true k 64 e, lowest-taken b.occupied (ltb-true k 64 e)) in
        let r = rest (subst Sound (step_delivered b s k h) (step_sound b s (Do.Deliver k))) in
        let m : LowestFirst (draining n (delivered b k)).made (step b (Do.Deliver k)).board (draining n (delivered b k)).board = rw (step_delivered b s k h) r.made in
        rw (draining, e) (record {
          answer = r.answer;
          made = more k (h, λ j p. lowest_taken_some b.occupied j p.0 p.1) (step_present b s k h) m;
          within = omega (arith, r.within);
          end = ⊎_elim (λ z. inl (ap suc z)) (λ z. inr z) r.end;
        })

module _ (b : Board) (s : Sound b) (n : ℕ) where
  pub drain_view : Emptied n b (drain b n)
  unfolding drain
  drain_view = rw (sound_shape b s) (draining_view n b s)

  -- 1,920 are enough
  pub drain_enough : 1920 ≤ n → Quiet (drain b n).board
  drain_enough h =
      let d = drain_view in
      ⊎_elim (λ e i p. omega (arith, at-most s (one_more (any_order d.made) i (step_present (drain b n).board (delivered_sound s d.made) i p)))) (λ q. q) d.end

-- ---- no other count, no other board
lowest_one : (b : Board) (i j : ℕ) → Lowest b i → Lowest b j → i ≡ j
lowest_one b i j h k = omega (arith, h.1 j k.0, k.1 i h.0)

-- where the budget is used or no message is left, no more can follow within it
no_more : {b d : Board} {n k : ℕ} → (0 ≡ n) ⊎ Quiet b → suc k ≤ n → LowestFirst (suc k) b d → ⊥
no_more (inl e) h r = omega arith
no_more (inr q) h (more i l z r) = q i l.0

fewer : {k n : ℕ} {A : Type 0} → (suc k ≡ suc n) ⊎ A → (k ≡ n) ⊎ A
fewer (inl e) = inl (omega arith)
fewer (inr a) = inr a

pub lowest_only : (n : ℕ) {b c d : Board} {k j : ℕ} → LowestFirst k b c → k ≤ n → (k ≡ n) ⊎ Quiet c → LowestFirst j b d → j ≤ n → (j ≡ n) ⊎ Quiet d → (k ≡ j) × (c ≡ d)
lowest_only n stay h f stay l g = (refl, refl)
lowest_only n stay h f (more i x e r) l g = absurd (no_more f l (more i x e r))
lowest_only n (more i x e r) h f stay l g = absurd (no_more g h (more i x e r))
lowest_only zero (more i x e r) h f (more j y z s) l g = absurd (omega arith)
lowest_only (suc n) {b} {d = d} (more i x e r) h f (more {n = k} j y z s) l g =
    let s' : LowestFirst k (step b (Do.Deliver i)).board d = rw (lowest_one b i j x y) s in
    let q = lowest_only n r (omega arith) (fewer f) s' (omega arith) (fewer g) in
    (ap suc q.0, q.1)
