-- Demand 3, over the board of functions: both invariants hold of the opening and are kept by every accepted command,
-- and each sentence of the demand is read off them.
use mathlib.Core.Path.{◌≡◌, refl, ap, sym, ◌∙◌}
use mathlib.Core.Logic.{◌↔◌, ⊎_elim, ◌≢◌}
use mathlib.Core.Bool.{Bool, false}
use mathlib.Core.Option.{Option, none, some}
use mathlib.Core.List.{List, ◌∷◌}
use Prim.Native.Nat.{ℕ, ◌+◌, ◌≤◌}
use native.Mathlib.Omega.{arith}
use Rattle.model.specs.Lists.{Has}
use Rattle.model.specs.Book.{conflict, In}
use Rattle.model.specs.Rings.{IsRing}
use Rattle.model.specs.Board.{wants, Board, Waits, Filled}
use Rattle.model.specs.Totals.{total}
use Rattle.model.specs.Reach.{Step, requests, releases, delivers, Later, now, next, Reach, Run, stop, then, NoMessages}
use Rattle.model.proofs.Sums.{one}
use Rattle.model.proofs.Lines.{sum_lines_stands}
use Rattle.model.proofs.Flight.{nothing_in_flight, nothing_weighs}
use Rattle.model.proofs.Book.{Compatible}
use Rattle.model.proofs.Book.Front.{line_blocked}
use Rattle.model.proofs.Places.{later_keeps}
use Rattle.model.proofs.Fronts.{reached_fronts}
use Rattle.model.proofs.Agreement.{wanted_object, wanted_mode, token_of, keeps_hold, Agreement}
use Rattle.model.proofs.Agreement.Commands.{spare, request_made_agrees, release_made_agrees}
use Rattle.model.proofs.Search.{Search}
use Rattle.model.proofs.Search.Steps.{request_made_search, release_made_search}
use Rattle.model.proofs.Measure.{measure, measure_at_most}
use Rattle.model.proofs.Deliveries.{Invariant, delivery_progress}
use Rattle.model.proofs.Opening.{opening_agrees, opening_search}

-- ---- the invariants hold of every board reached
step_invariant : {b c : Board} → Invariant b → Step b c → Invariant c
step_invariant {b} k (requests p o m lp lo w g h l) = (request_made_agrees b k.0 p o m lp lo w g h l, request_made_search b k.0 p o m w (omega (arith, spare b 62 l)) k.1)
step_invariant {b} k (releases p o m lo w h l) = (release_made_agrees b k.0 p o m lo w h l, release_made_search b k.0 p o (omega (arith, spare b 63 l)) k.1)
step_invariant {b} k (delivers i x lt e) = (delivery_progress b k.0 k.1 i lt x e).invariant

later_invariant : {b c : Board} → Invariant b → Later b c → Invariant c
later_invariant k now = k
later_invariant k (next l s) = step_invariant (later_invariant k l) s

pub reached_invariant : {b : Board} → Reach b → Invariant b
reached_invariant r = later_invariant (opening_agrees, opening_search) r

-- ---- the demand, sentence by sentence, of a board reached
module _ (b : Board) (r : Reach b) where
  agreement : Agreement b
  agreement = (reached_invariant r).0

  search : Search b
  search = (reached_invariant r).1

  -- "Every recorded ring is a true ring of waits": and it begins with the process whose place it is
  pub recorded_true : (s : ℕ) → Filled (b.place s) → IsRing (Waits b) (b.place s)
  recorded_true = search.recorded

  pub recorded_own : (s : ℕ) → Filled (b.place s) → (l : List ℕ) × (b.place s ≡ s ∷ l)
  recorded_own = search.own

  -- "then and on every later board"
  pub recorded_later : (c : Board) → Later b c → (s : ℕ) → Filled (b.place s) → (c.place s ≡ b.place s) × IsRing (Waits c) (b.place s)
  recorded_later c l s h = let e = later_keeps l s h in (e, rw e at ((later_invariant (reached_invariant r) l).1.recorded s (rw e h)))

  -- "At no time do the homes' books show two processes in conflicting holds." Nor do the objects' books.
  pub no_conflict_objects : (p q o : ℕ) (m n : Bool) → p ≢ q → b.holder o p ≡ some m → b.holder o q ≡ some n → conflict m n ≡ false
  unfolding Compatible
  no_conflict_objects p q o m n = agreement.compatible o p q m n

  pub no-conflict : (p q o : ℕ) (m n : Bool) → p ≢ q → b.hold p o ≡ some m → b.hold q o ≡ some n → conflict m n ≡ false
  no-conflict p q o m n ne x y = no_conflict_objects p q o m n ne (agreement.modes p o m x) (agreement.modes q o n y)

  -- a list is started by everyone that joins: "none if it waits for nobody, which happens only on boards no commands reach"
  pub blocked : (o p : ℕ) (m : Bool) → In p m (b.line o) → (q : ℕ) × Waits b p q
  unfolding Waits
  blocked o p m i = let w = line_blocked (b.holder o) (b.line o) (agreement.fit o) (reached_fronts r o) p m i in (w.0, (o, w.1))

  -- ---- when no message is left
  module _ (quiet : NoMessages b) where
    -- "every ring of waits that exists holds a process whose own list recorded a ring"
    pub all_found : (l : List ℕ) → IsRing (Waits b) l → (s : ℕ) × Has s l × Filled (b.place s)
    all_found l h = let c = search.complete l h in (c.who, c.member, ⊎_elim (λ f. f) (λ x. absurd (nothing_in_flight b.messages quiet _ x.travels)) c.found)

    -- "homes and objects agree on who holds and who waits"
    pub agree-holds : (p o : ℕ) (m : Bool) → (b.hold p o ≡ some m) ↔ (b.holder o p ≡ some m)
    agree-holds p o m = (agreement.modes p o m, λ e. go (b.hold p o) refl e)
      where
        go : (x : Option Bool) → b.hold p o ≡ x → b.holder o p ≡ some m → b.hold p o ≡ some m
        go none e z = absurd (omega (arith, agreement.kept p o, ap one e, ap one z, nothing_weighs b.messages quiet (keeps_hold p o)))
        go (some n) e z = let y = agreement.modes p o n e in cc

    pub agree-waits : (p o : ℕ) (m : Bool) → (b.wait p ≡ wants o m) ↔ In p m (b.line o)
    unfolding total
    agree-waits p o m = (stands, λ i. (agreement.in_line o p m i).0)
      where
        stands : b.wait p ≡ wants o m → In p m (b.line o)
        stands e =
            let s = sum_lines_stands p b.line (omega (arith, agreement.tokens p, ap one e, nothing_weighs b.messages quiet (token_of p))) in
            let z = sym (agreement.in_line s.0 p s.1 s.2).0 ∙ e in
            let e1 : s.0 ≡ o = ap wanted_object z in
            let e2 : s.1 ≡ m = ap wanted_mode z in
            rw (e1, e2) at s.2

-- ---- "after at most 1,920 deliveries none is left": each lowers the measure
run_less : {n : ℕ} {b c : Board} → Invariant b → Run n b c → n + measure c ≤ measure b
run_less k stop = omega arith
run_less k (then {b = b} i x lt e r) = let d = delivery_progress b k.0 k.1 i lt x e in omega (arith, run_less d.invariant r, d.less)

pub deliveries_at_most : {n : ℕ} {b c : Board} → Reach b → Run n b c → n ≤ 1920
deliveries_at_most {b = b} r x = let k = reached_invariant r in omega (arith, run_less k x, measure_at_most b k.0 k.1)
