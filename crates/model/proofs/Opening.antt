-- The opening has no message, no holder and nobody in line, so both invariants hold of it.
use mathlib.Core.Path.{◌≡◌, refl}
use mathlib.Core.Option.{Option, none, some}
use mathlib.Core.List.{List, [], ◌∷◌}
use Prim.Native.Nat.{ℕ}
use native.Mathlib.Omega.{arith}
use Rattle.model.specs.Book.{Waiter}
use Rattle.model.specs.Rings.{IsRing}
use Rattle.model.specs.Board.{Waits}
use Rattle.model.specs.Totals.{sum_line, sum_lines, total, load_of}
use Rattle.model.specs.Reach.{opening}
use Rattle.model.proofs.Tables.{some_not_none}
use Rattle.model.proofs.Sums.{sum_zero}
use Rattle.model.proofs.Lines.{is_who}
use Rattle.model.proofs.Flight.{nothing_in_flight, nothing_weighs}
use Rattle.model.proofs.Book.{Compatible}
use Rattle.model.proofs.Book.WaitedFor.{waits_at_in}
use Rattle.model.proofs.Agreement.{token_of, keeps_hold, Agreement}
use Rattle.model.proofs.Search.{Search}

no_waiter : (v : Waiter → ℕ) → sum_lines v opening.line ≡ 0
unfolding sum_lines sum_line
no_waiter v = sum_zero 16 _ (λ i. refl)

never : {X : Type 0} {A : Type 0} (a : A) → ◌≡◌ {A = Option A} none (some a) → X
never a e = some_not_none none a e refl

pub opening_agrees : Agreement opening
unfolding total Compatible
opening_agrees = record {
  fit = λ o. record { below = λ q n e. never n e; range = tt; apart = tt };
  compatible = λ o p q m n ne a c. never m a;
  in_line = λ o p m i. absurd i;
  requests = λ p o m h. absurd (nothing_in_flight opening.messages (λ i h. refl) _ h);
  grants = λ p o m h. absurd (nothing_in_flight opening.messages (λ i h. refl) _ h);
  releases = λ p o h. absurd (nothing_in_flight opening.messages (λ i h. refl) _ h);
  idle = λ p h. refl;
  unheld = λ p o m e. refl;
  tokens = λ p. omega (arith, nothing_weighs opening.messages (λ i h. refl) (token_of p), no_waiter (is_who p));
  kept = λ p o. omega (arith, nothing_weighs opening.messages (λ i h. refl) (keeps_hold p o));
  modes = λ p o m e. never m e;
  load = omega (arith, nothing_weighs opening.messages (λ i h. refl) load_of, no_waiter (λ _. 1));
}

no_arc : (p q : ℕ) → Waits opening p q → ⊥
unfolding Waits
no_arc p q w = (waits_at_in (opening.holder w.0) [] p q w.1).1

no-ring : (r : List ℕ) → IsRing (Waits opening) r → ⊥
no-ring [] h = h
no-ring (x ∷ []) h = h
no-ring (x ∷ y ∷ l) h = no_arc x y h.1.0

pub opening_search : Search opening
opening_search = record {
  lists = λ es n t h. absurd (nothing_in_flight opening.messages (λ i h. refl) _ h);
  recorded = λ s h. absurd h;
  own = λ s h. absurd h;
  complete = λ r h. absurd (no-ring r h);
}
