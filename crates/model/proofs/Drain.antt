-- The drain of a board reached: with a budget of 1,920 it leaves no message, since each delivery lowers the measure.
use mathlib.Core.Path.{◌≡◌, refl}
use mathlib.Core.Option.{Option, none, some}
use Prim.Native.Nat.{ℕ, zero, suc, ◌+◌, ◌≤◌, ◌<◌}
use native.Mathlib.Omega.{arith}
use native.Mathlib.Decide.{ℕ_discrete}
use Rattle.model.specs.Tables.{Numbered}
use Rattle.model.specs.Board.{Message, Board, deliver}
use Rattle.model.specs.Reach.{Reach, Run, stop, then, NoMessages, lowest_used, drain}
use Rattle.model.proofs.Measure.{measure, measure_at_most}
use Rattle.model.proofs.Deliveries.{Invariant, delivery_progress}
use Rattle.model.proofs.Theorems.{reached_invariant, deliveries_at_most}

abbrev FoundBy : ℕ → ℕ → Numbered Message → Option ℕ → Type 0
FoundBy n i f none = (j : ℕ) → i ≤ j → j < i + n → f j ≡ none
FoundBy n i f (some j) = (j < i + n) × ((m : Message) × (f j ≡ some m))

lowest_used_found : (n i : ℕ) (f : Numbered Message) → FoundBy n i f (lowest_used n i f)
unfolding lowest_used
lowest_used_found zero i f = λ j a c. absurd (omega arith)
lowest_used_found (suc n) i f =
    let go : (x : Option Message) → f i ≡ x → FoundBy (suc n) i f (elim x [ none ↦ lowest_used n (suc i) f | some m ↦ some i ]) = elim [
      | none ↦ λ e. next (lowest_used n (suc i) f) e (lowest_used_found n (suc i) f)
      | some m ↦ λ e. (omega arith, (m, e))
    ] in
    go (f i) refl
  where
    next : (x : Option ℕ) → f i ≡ none → FoundBy n (suc i) f x → FoundBy (suc n) i f x
    next none e u = λ j a c. elim (ℕ_discrete j i) [ yes z ↦ rw z e | no z ↦ u j (omega arith) (omega arith) ]
    next (some j) e u = (omega arith, u.1)

-- with a budget of the measure nothing is left
pub drain_runs : (n : ℕ) (b : Board) → Invariant b → measure b ≤ n → Run (drain n b).made b (drain n b).board × NoMessages (drain n b).board
unfolding drain
drain_runs zero b k h = (stop, λ i lt. none_there (b.messages i) i lt refl)
  where
    none_there : (x : Option Message) (i : ℕ) → i < 64 → b.messages i ≡ x → b.messages i ≡ none
    none_there none i lt e = e
    none_there (some m) i lt e = absurd (omega (arith, (delivery_progress b k.0 k.1 i lt m e).less))
drain_runs (suc n) b k h =
    let go : (x : Option ℕ) → lowest_used 64 0 b.messages ≡ x → FoundBy 64 0 b.messages x → Run (drain (suc n) b).made b (drain (suc n) b).board × NoMessages (drain (suc n) b).board = elim [
      | none ↦ λ e u. rw (e, drain) (stop, λ i lt. u i (omega arith) (omega arith))
      | some i ↦ λ e u.
          let lt : i < 64 = omega arith in
          let d = delivery_progress b k.0 k.1 i lt u.1.0 u.1.1 in
          let r = drain_runs n (deliver b i u.1.0) d.invariant (omega (arith, d.less)) in
          rw (e, drain, u.1.1) (then i u.1.0 lt u.1.1 r.0, r.1)
    ] in
    go (lowest_used 64 0 b.messages) refl (lowest_used_found 64 0 b.messages)

pub drain_empties : (b : Board) → Reach b → NoMessages (drain 1920 b).board × ((drain 1920 b).made ≤ 1920)
drain_empties b r = let k = reached_invariant r in let d = drain_runs 1920 b k (measure_at_most b k.0 k.1) in (d.1, deliveries_at_most r d.0)
