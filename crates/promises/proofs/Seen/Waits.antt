-- The waits and rings over the books are the model's.
use mathlib.Core.Path.{◌≡◌, refl, ap, sym, ◌∙◌, subst}
use mathlib.Core.Logic.{inl, inr, ⊎_elim}
use mathlib.Core.Bool.{Bool}
use mathlib.Core.Option.{Option, none, some}
use mathlib.Core.List.{List, [], ◌∷◌}
use Prim.Native.Nat.{ℕ, zero, suc, ◌<◌}
use native.Mathlib.Omega.{arith}
use Rattle.rules.specs.declared.Mode.{Mode}
use Rattle.rules.specs.declared.Board.{Board}
use Rattle.rules.specs.Tables.{rows}
use Rattle.rules.specs.Book.{is_exclusive, mode_if, who_at, mode_at}
use Rattle.rules.specs.Board.{object_at}
use Rattle.rules.specs.Waits.{Stands, Waits, holder, ahead, Different, Chain, IsRing}
use Rattle.rules.proofs.Tables.{rows_front}
use Rattle.rules.proofs.Book.{mode-if}
use Rattle.model.specs.Lists.{Distinct}
use Rattle.model.specs.Book.{standing, In, Ahead, held as heldM, ahead as aheadM}
use Rattle.model.specs.Board.{Waits as WaitsM}
use Rattle.model.specs.Rings.{Chain as ChainM, IsRing as IsRingM}
use Rattle.model.proofs.Tables.{some_not_none}
use Rattle.promises.proofs.Seen.Tables.{in-line, has_to, has_from}
use Rattle.promises.proofs.Seen.{hold_seen, exclusive_at, line_seen, seen}
use Rattle.promises.proofs.Seen.Objects.{conflict_view}

-- ---- modes
pub same_mode : (m n : Mode) → is_exclusive m ≡ is_exclusive n → m ≡ n
same_mode m n e = sym (mode-if m) ∙ ap mode_if e ∙ mode-if n

hold_from : (x : Option Mode) (y : Bool) → hold_seen x ≡ some y → (m : Mode) × (x ≡ some m) × (is_exclusive m ≡ y)
hold_from none y e = some_not_none (hold_seen none) y e refl
hold_from (some m) y e = (m, refl, cc)

-- a hold seen in mode m is a hold in mode m
pub hold_back : (x : Option Mode) (m : Mode) → hold_seen x ≡ some (is_exclusive m) → x ≡ some m
hold_back x m e = let g = hold_from x (is_exclusive m) e in g.1 ∙ ap some (same_mode g.0 m g.2)

-- ---- places of a line
module _ (p : ℕ) (m : Bool) where
  in_from : (n : ℕ) (w : ℕ → ℕ) (c : ℕ → Bool) → In p m (rows n (λ k. standing (w k) (c k))) → (k : ℕ) × (k < n) × (w k ≡ p) × (c k ≡ m)
  unfolding rows
  in_from zero w c h = absurd h
  in_from (suc n) w c h = ⊎_elim (λ a. (0, omega arith, a.0, a.1)) (λ a. let r = in_from n (λ k. w (suc k)) (λ k. c (suc k)) a in (suc r.0, omega arith, r.2, r.3)) (rw (rows_front n (λ k. standing (w k) (c k))) at h)

  abbrev Before : ℕ → Bool → ℕ → (ℕ → ℕ) → (ℕ → Bool) → Type 0
  Before q x n w c = (j : ℕ) × (k : ℕ) × (j < k) × (k < n) × (w j ≡ q) × (c j ≡ x) × (w k ≡ p) × (c k ≡ m)

  ahead_from : (q : ℕ) (x : Bool) (n : ℕ) (w : ℕ → ℕ) (c : ℕ → Bool) → Ahead p m q x (rows n (λ k. standing (w k) (c k))) → Before q x n w c
  unfolding rows
  ahead_from q x zero w c h = absurd h
  ahead_from q x (suc n) w c h = ⊎_elim
      (λ a. let r = in_from n (λ k. w (suc k)) (λ k. c (suc k)) a.1 in (0, suc r.0, omega arith, omega arith, a.0.0, a.0.1, r.2, r.3))
      (λ a. let r = ahead_from q x n (λ k. w (suc k)) (λ k. c (suc k)) a in (suc r.0, suc r.1, omega arith, omega arith, r.4, r.5, r.6, r.7))
      (rw (rows_front n (λ k. standing (w k) (c k))) at h)

ahead_to : (n : ℕ) (w : ℕ → ℕ) (c : ℕ → Bool) (j k : ℕ) → j < k → k < n → Ahead (w k) (c k) (w j) (c j) (rows n (λ k. standing (w k) (c k)))
ahead_to zero w c j k h l = absurd (omega arith)
ahead_to (suc n) w c j zero h l = absurd (omega arith)
ahead_to (suc n) w c zero (suc k) h l = rw (rows_front n (λ k. standing (w k) (c k))) (inl ((refl, refl), in-line n (λ k. w (suc k)) (λ k. c (suc k)) k (omega arith)))
ahead_to (suc n) w c (suc j) (suc k) h l = rw (rows_front n (λ k. standing (w k) (c k))) (inr (ahead_to n (λ k. w (suc k)) (λ k. c (suc k)) j k (omega arith) (omega arith)))

-- ---- the waits
module _ (b : Board) where
  mode-at : (o k p : ℕ) (m : Mode) → Stands b o k p m → exclusive_at (object_at b o) k ≡ is_exclusive m
  mode-at o k p m s = ap is_exclusive s.mode

  pub stands_in : (o k p : ℕ) (m : Mode) → Stands b o k p m → In p (is_exclusive m) (line_seen (object_at b o))
  stands_in o k p m s = rw (← s.who, ← mode-at o k p m s) (in-line _ (who_at (object_at b o)) (exclusive_at (object_at b o)) k s.inside)

  ahead_in : (o k j p q : ℕ) (m n : Mode) → Stands b o k p m → j < k → Stands b o j q n → Ahead p (is_exclusive m) q (is_exclusive n) (line_seen (object_at b o))
  ahead_in o k j p q m n s h r = rw (← s.who, ← r.who, ← mode-at o k p m s, ← mode-at o j q n r) (ahead_to _ (who_at (object_at b o)) (exclusive_at (object_at b o)) j k h s.inside)

  waits_to : (p q : ℕ) → Waits b p q → WaitsM (seen b) p q
  unfolding WaitsM
  waits_to p q (holder o k m n ne s h c) = (o, heldM (is_exclusive m) (is_exclusive n) ne (sym (conflict_view m n) ∙ c) (stands_in o k p m s) (ap hold_seen h))
  waits_to p q (ahead o k j m n ne s h r c) = (o, aheadM (is_exclusive m) (is_exclusive n) ne (sym (conflict_view m n) ∙ c) (ahead_in o k j p q m n s h r))

  -- who stands at a place stands there in a mode
  at_place : (o k p : ℕ) (x : Bool) → k < (object_at b o).line_count → who_at (object_at b o) k ≡ p → exclusive_at (object_at b o) k ≡ x → (m : Mode) × (is_exclusive m ≡ x) × Stands b o k p m
  at_place o k p x h e z = (mode_at (object_at b o) k, z, record { inside = h; who = e; mode = refl })

  in_mode : (o p : ℕ) (x : Bool) → In p x (line_seen (object_at b o)) → (k : ℕ) × (m : Mode) × (is_exclusive m ≡ x) × Stands b o k p m
  in_mode o p x i = let r = in_from p x _ (who_at (object_at b o)) (exclusive_at (object_at b o)) i in let a = at_place o r.0 p x r.1 r.2 r.3 in (r.0, a.0, a.1, a.2)

  pub in_stands : (o p : ℕ) (m : Mode) → In p (is_exclusive m) (line_seen (object_at b o)) → (k : ℕ) × Stands b o k p m
  in_stands o p m i = let s = in_mode o p (is_exclusive m) i in (s.0, subst (λ (n : Mode). Stands b o s.0 p n) (same_mode s.1 m s.2) s.3)

  pub waits_from : (p q : ℕ) → WaitsM (seen b) p q → Waits b p q
  unfolding WaitsM
  waits_from p q (o, heldM m n ne c i h) =
      let s = in_mode o p m i in
      let g = hold_from _ n h in
      holder o s.0 s.1 g.0 ne s.3 g.1 (conflict_view s.1 g.0 ∙ rw (s.2, g.2) c)
  waits_from p q (o, aheadM m n ne c a) =
      let r = ahead_from p m q n _ (who_at (object_at b o)) (exclusive_at (object_at b o)) a in
      let s = at_place o r.1 p m r.3 r.6 r.7 in
      let g = at_place o r.0 q n (omega (arith, r.2, r.3)) r.4 r.5 in
      ahead o r.1 r.0 s.0 g.0 ne s.2 r.2 g.2 (conflict_view s.0 g.0 ∙ rw (s.1, g.1) c)

  -- ---- the rings
  different_to : (l : List ℕ) → Different l → Distinct l
  different_to [] d = tt
  different_to (x ∷ l) d = ((λ h. d.0 (has_from x l h)), different_to l d.1)

  different_from : (l : List ℕ) → Distinct l → Different l
  different_from [] d = tt
  different_from (x ∷ l) d = ((λ h. d.0 (has_to x l h)), different_from l d.1)

  chain_to : (x : ℕ) (l : List ℕ) (z : ℕ) → Chain b x l z → ChainM (WaitsM (seen b)) x l z
  chain_to x [] z c = waits_to x z c
  chain_to x (y ∷ l) z c = (waits_to x y c.0, chain_to y l z c.1)

  chain_from : (x : ℕ) (l : List ℕ) (z : ℕ) → ChainM (WaitsM (seen b)) x l z → Chain b x l z
  chain_from x [] z c = waits_from x z c
  chain_from x (y ∷ l) z c = (waits_from x y c.0, chain_from y l z c.1)

  pub ring_to : (r : List ℕ) → IsRing b r → IsRingM (WaitsM (seen b)) r
  ring_to [] h = h
  ring_to (x ∷ []) h = h
  ring_to (x ∷ y ∷ l) h = (different_to (x ∷ y ∷ l) h.0, chain_to x (y ∷ l) x h.1)

  pub ring_from : (r : List ℕ) → IsRingM (WaitsM (seen b)) r → IsRing b r
  ring_from [] h = h
  ring_from (x ∷ []) h = h
  ring_from (x ∷ y ∷ l) h = (different_from (x ∷ y ∷ l) h.0, chain_from x (y ∷ l) x h.1)
