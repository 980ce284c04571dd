-- The shortest way round is a ring of waits: if one of its processes came again, p would come round in fewer waits. And whoever is on a
-- ring of waits comes round in as many waits as the ring has processes, which are 16 at most.
use mathlib.Core.Path.{◌≡◌, refl, sym, ap, ◌∙◌}
use mathlib.Core.Logic.{inl, inr}
use mathlib.Core.Bool.{Bool, true, false}
use mathlib.Core.List.{List, [], ◌∷◌}
use Prim.Native.Nat.{ℕ, zero, suc, ◌+◌, ◌≤◌, ◌<◌}
use native.Mathlib.Omega.{arith}
use lib.ListN.{length}
use Rattle.rules.specs.declared.Board.{Board}
use Rattle.rules.specs.Waits.{Waits, holder, ahead, Among, Different, Chain, IsRing}
use Rattle.model.specs.Lists.{Has, Distinct}
use Rattle.model.proofs.Lists.{distinct_short}
use Rattle.search.specs.Ways.{comes, next, way}
use Rattle.search.proofs.Ways.{next_waits, next_comes, comes_more, comes_none, comes_here, comes_add, way_different}

module _ (b : Board) (w : ℕ → ℕ → Bool) (real : (p q : ℕ) → w p q ≡ true → Waits b p q) where
  way_chain : (p k x : ℕ) → comes w p (suc k) x ≡ true → Chain b x (way w p k (next w p k x)) p
  unfolding way
  way_chain p zero x e = real x p (ap (w x) (sym (comes_here w p (next w p 0 x) (next_comes w p 0 x e))) ∙ next_waits w p 0 x e)
  way_chain p (suc k) x e = (real x (next w p (suc k) x) (next_waits w p (suc k) x e), way_chain p k (next w p (suc k) x) (next_comes w p (suc k) x e))

  -- nobody waits for itself, so a way round has two processes at least
  pub way_ring : (p k : ℕ) → comes w p (suc k) p ≡ true → ((m : ℕ) → 0 < m → m < suc k → comes w p m p ≡ false) → IsRing b (way w p (suc k) p)
  unfolding way
  way_ring p zero e least = alone p (way_chain p 0 p e)
    where
      alone : (p : ℕ) → Waits b p p → ⊥
      alone p (holder o k m n f s h c) = f refl
      alone p (ahead o k j m n f s l t c) = f refl
  way_ring p (suc k) e least = (way_different w p 0 (suc (suc k)) p (λ m g h. least m g (omega arith)) (comes_none w p) e, way_chain p (suc k) p e)

-- ---- at most 16 different numbers are below 16
has_among : (q : ℕ) (l : List ℕ) → Has q l → Among q l
has_among q [] h = h
has_among q (x ∷ l) (inl e) = inl e
has_among q (x ∷ l) (inr h) = inr (has_among q l h)

different_distinct : (l : List ℕ) → Different l → Distinct l
different_distinct [] d = tt
different_distinct (x ∷ l) d = ((λ h. d.0 (has_among x l h)), different_distinct l d.1)

-- ---- round a ring
module _ (b : Board) (w : ℕ → ℕ → Bool) (told : (p q : ℕ) → q < 16 → Waits b p q → w p q ≡ true) (small : (p q : ℕ) → Waits b p q → p < 16) where
  chain_small : (x : ℕ) (l : List ℕ) (z : ℕ) → Chain b x l z → x < 16
  chain_small x [] z c = small x z c
  chain_small x (y ∷ l) z c = small x y c.0

  all_small : (x : ℕ) (l : List ℕ) (z : ℕ) → Chain b x l z → (q : ℕ) → Among q (x ∷ l) → q < 16
  all_small x [] z c q (inl e) = rw (← e) (small x z c)
  all_small x [] z c q (inr h) = absurd h
  all_small x (y ∷ l) z c q (inl e) = rw (← e) (small x y c.0)
  all_small x (y ∷ l) z c q (inr h) = all_small y l z c.1 q h

  chain_comes : (x : ℕ) (l : List ℕ) (z : ℕ) → z < 16 → Chain b x l z → comes w z (suc (length l)) x ≡ true
  chain_comes x [] z h c = comes_more w z 0 x z h (told x z h c) (comes_none w z)
  chain_comes x (y ∷ l) z h c =
      let s = chain_small y l z c.1 in
      comes_more w z (suc (length l)) x y s (told x y s c.0) (chain_comes y l z h c.1)

  -- x comes to each of its chain, and that one to the end
  meets : (x : ℕ) (l : List ℕ) (z p : ℕ) → z < 16 → Chain b x l z → Among p l
      → (i : ℕ) × (j : ℕ) × (j + i ≡ suc (length l)) × (comes w p i x ≡ true) × (comes w z j p ≡ true)
  meets x [] z p h c a = absurd a
  meets x (y ∷ l) z p h c (inl e) =
      (1, suc (length l), omega arith, rw (← e) (chain_comes x [] y (chain_small y l z c.1) c.0), rw (← e) (chain_comes y l z h c.1))
  meets x (y ∷ l) z p h c (inr a) =
      let r = meets y l z p h c.1 a in
      let s = chain_small y l z c.1 in
      (suc r.0, r.1, omega (arith, r.2), comes_more w p r.0 x y s (told x y s c.0) r.3, r.4)

  pub ring_comes : (l : List ℕ) → IsRing b l → (p : ℕ) → Among p l → comes w p (length l) p ≡ true
  ring_comes [] k p a = absurd k
  ring_comes (x ∷ []) k p a = absurd k
  ring_comes (x ∷ y ∷ l) k p (inl e) = rw (← e) (chain_comes x (y ∷ l) x (chain_small x (y ∷ l) x k.1) k.1)
  ring_comes (x ∷ y ∷ l) k p (inr a) =
      let r = meets x (y ∷ l) x p (chain_small x (y ∷ l) x k.1) k.1 a in
      rw r.2 at (comes_add w p x r.1 r.0 p r.4 r.3)

  pub ring_short : (l : List ℕ) → IsRing b l → (0 < length l) × (length l ≤ 16)
  ring_short [] k = absurd k
  ring_short (x ∷ []) k = absurd k
  ring_short (x ∷ y ∷ l) k = (omega arith, distinct_short 16 (x ∷ y ∷ l) (different_distinct (x ∷ y ∷ l) k.0) (λ q h. all_small x (y ∷ l) x k.1 q (has_among q (x ∷ y ∷ l) h)))

  pub ring_small : (l : List ℕ) → IsRing b l → (p : ℕ) → Among p l → p < 16
  ring_small [] k p a = absurd k
  ring_small (x ∷ []) k p a = absurd k
  ring_small (x ∷ y ∷ l) k p a = all_small x (y ∷ l) x k.1 p a
