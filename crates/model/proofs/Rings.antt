-- Rings over any relation: a ring stays while arcs vanish only into processes that wait for nobody, and whoever asks
-- along a ring from a member comes back to that member.
pub mod Leads
use mathlib.Core.Path.{◌≡◌, refl}
use mathlib.Core.Logic.{◌⊎◌, inl, inr, ⊎_elim, ◌≢◌}
use mathlib.Core.List.{List, [], ◌∷◌}
use Prim.Native.Nat.{ℕ}
use Rattle.model.specs.Lists.{Has}
use Rattle.model.specs.Rings.{Chain, IsRing}

-- the pairs of neighbours on the walk x, l, z
abbrev pub Consecutive : ℕ → List ℕ → ℕ → ℕ → ℕ → Type 0
Consecutive x [] z a b = (x ≡ a) × (z ≡ b)
Consecutive x (y ∷ l) z a b = ((x ≡ a) × (y ≡ b)) ⊎ Consecutive y l z a b

-- the pairs of neighbours on a ring
abbrev pub Next : List ℕ → ℕ → ℕ → Type 0
Next [] a b = ⊥
Next (x ∷ l) a b = Consecutive x l x a b

module _ (W : ℕ → ℕ → Type 0) where
  pub chain_out : (x : ℕ) (l : List ℕ) (z : ℕ) → Chain W x l z → (c : ℕ) × W x c
  chain_out x [] z c = (z, c)
  chain_out x (y ∷ l) z c = (y, c.0)

  pub chain_next : (x : ℕ) (l : List ℕ) (z a b : ℕ) → Chain W x l z → Consecutive x l z a b → W a b
  chain_next x [] z a b c s = rw (← s.0, ← s.1) c
  chain_next x (y ∷ l) z a b c (inl s) = rw (← s.0, ← s.1) c.0
  chain_next x (y ∷ l) z a b c (inr s) = chain_next y l z a b c.1 s

  pub ring_next : (r : List ℕ) (a b : ℕ) → IsRing W r → Next r a b → W a b
  ring_next (x ∷ y ∷ l) a b k n = chain_next x (y ∷ l) x a b k.1 n
  ring_next (x ∷ []) a b k n = absurd k
  ring_next [] a b k n = absurd k

  -- each member has a successor
  consecutive_from : (x : ℕ) (l : List ℕ) (z a : ℕ) → Has a (x ∷ l) → (b : ℕ) × Consecutive x l z a b
  consecutive_from x [] z a (inl e) = (z, (e, refl))
  consecutive_from x [] z a (inr e) = absurd e
  consecutive_from x (y ∷ l) z a (inl e) = (y, inl (e, refl))
  consecutive_from x (y ∷ l) z a (inr e) = let r = consecutive_from y l z a e in (r.0, inr r.1)

  pub ring_out : (r : List ℕ) (a : ℕ) → IsRing W r → Has a r → (b : ℕ) × Next r a b × W a b
  ring_out [] a k h = absurd k
  ring_out (x ∷ []) a k h = absurd k
  ring_out (x ∷ y ∷ l) a k h = let r = consecutive_from x (y ∷ l) x a h in (r.0, r.1, ring_next (x ∷ y ∷ l) a r.0 k r.1)

pub next_member : (r : List ℕ) (a y : ℕ) → Next r a y → Has a r
next_member [] a y n = elim n [ ]
next_member (x ∷ l) a y n = go x l x n
  where
    go : (x : ℕ) (l : List ℕ) (z : ℕ) → Consecutive x l z a y → Has a (x ∷ l)
    go x [] z s = inl s.0
    go x (w ∷ l) z (inl s) = inl s.0
    go x (w ∷ l) z (inr s) = inr (go w l z s)

-- ---- a ring never breaks: an arc is lost only to a process that has released, and such a one waits for nobody
module _ (W W' : ℕ → ℕ → Type 0) (Released : ℕ → Type 0) (keep : (p q : ℕ) → W p q → Released q ⊎ W' p q) (idle : (p q : ℕ) → Released p → W p q → ⊥) where
  chain_keep : (x : ℕ) (l : List ℕ) (z c : ℕ) → W z c → Chain W x l z → Chain W' x l z
  chain_keep x [] z c w k = ⊎_elim (λ r. absurd (idle z c r w)) (λ v. v) (keep x z k)
  chain_keep x (y ∷ l) z c w k = (⊎_elim (λ r. let o = chain_out W y l z k.1 in absurd (idle y o.0 r o.1)) (λ v. v) (keep x y k.0), chain_keep y l z c w k.1)

  pub ring_keep : (r : List ℕ) → IsRing W r → IsRing W' r
  ring_keep [] k = k
  ring_keep (x ∷ []) k = k
  ring_keep (x ∷ y ∷ l) k = (k.0, chain_keep x (y ∷ l) x y k.1.0 k.1)

-- ---- the other way: no new arc out of a member, so the ring was there before
module _ (W W' : ℕ → ℕ → Type 0) where
  chain_map : (x : ℕ) (l : List ℕ) (z : ℕ) → ((a b : ℕ) → Has a (x ∷ l) → W a b → W' a b) → Chain W x l z → Chain W' x l z
  chain_map x [] z f k = f x z (inl refl) k
  chain_map x (y ∷ l) z f k = (f x y (inl refl) k.0, chain_map y l z (λ a b h. f a b (inr h)) k.1)

  pub ring_map : (r : List ℕ) → ((a b : ℕ) → Has a r → W a b → W' a b) → IsRing W r → IsRing W' r
  ring_map [] f k = k
  ring_map (x ∷ []) f k = k
  ring_map (x ∷ y ∷ l) f k = (k.0, chain_map x (y ∷ l) x f k.1)

-- ---- there is no property that s has, that goes on from each member to the next, and that never reaches s
module _ (s : ℕ) (P : ℕ → Type 0) where
  walk_on : (x : ℕ) (l : List ℕ) (z : ℕ) → ((a b : ℕ) → Consecutive x l z a b → P a → P b × (b ≢ s)) → P x → P z × (z ≢ s) × (Has s l → ⊥)
  walk_on x [] z f p = let k = f x z (refl, refl) p in (k.0, k.1, λ h. h)
  walk_on x (y ∷ l) z f p = let k = f x y (inl (refl, refl)) p in let r = walk_on y l z (λ a b t. f a b (inr t)) k.0 in (r.0, r.1, ⊎_elim k.1 r.2)

  walk_from : (x : ℕ) (l : List ℕ) (z : ℕ) → ((a b : ℕ) → Consecutive x l z a b → P a → P b × (b ≢ s)) → P s → Has s (x ∷ l) → P z
  walk_from x [] z f p (inl e) = (walk_on x [] z f (rw e p)).0
  walk_from x [] z f p (inr h) = absurd h
  walk_from x (y ∷ l) z f p (inl e) = (walk_on x (y ∷ l) z f (rw e p)).0
  walk_from x (y ∷ l) z f p (inr h) = walk_from y l z (λ a b t. f a b (inr t)) p h

  pub exhausted : (r : List ℕ) → Has s r → P s → ((a b : ℕ) → Next r a b → P a → P b × (b ≢ s)) → ⊥
  exhausted [] h p f = elim h [ ]
  exhausted (x ∷ l) h p f = let k = walk_on x l x f (walk_from x l x f p h) in ⊎_elim k.1 k.2 h
