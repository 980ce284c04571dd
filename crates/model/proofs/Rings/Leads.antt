-- Going back along the leads from a process that waits for the starter writes a ring: the last one waits, so it has
-- not released, so the arc into it holds, so the one before waits; and so back to the starter.
use mathlib.Core.Path.{◌≡◌, sym}
use mathlib.Core.Logic.{◌⊎◌, inl, inr, ⊎_elim, ◌≢◌, if_pos, if_neg}
use mathlib.Core.List.{List, [], ◌∷◌}
use Prim.Native.Nat.{ℕ, zero, suc, ◌≤◌, ◌<◌}
use native.Mathlib.Omega.{arith}
use native.Mathlib.Decide.{ℕ_discrete}
use lib.ListN.{length}
use Rattle.model.specs.Lists.{Has, Distinct}
use Rattle.model.specs.Rings.{Chain, IsRing}
use Rattle.model.specs.Board.{Entry, entry_at, along_leads}
use Rattle.model.proofs.Rings.{chain_out}

module _ (W : ℕ → ℕ → Type 0) (Released : ℕ → Type 0) (idle : (p q : ℕ) → Released p → W p q → ⊥) (es : List Entry) (s : ℕ)
    (starter : (entry_at es 0).who ≡ s)
    (leads : (j : ℕ) → 0 < j → j < length es → (entry_at es j).lead < j)
    (arcs : (j : ℕ) → 0 < j → j < length es → Released (entry_at es j).who ⊎ W (entry_at es (entry_at es j).lead).who (entry_at es j).who)
    (different : (i j : ℕ) → i < j → j < length es → (entry_at es i).who ≢ (entry_at es j).who) where
  -- a chain from the starter to itself, of different processes
  Closed : List ℕ → Type 0
  Closed r = (l : List ℕ) × (r ≡ s ∷ l) × Chain W s l s × Distinct (s ∷ l)

  -- each of acc stands at an entry after j
  Behind : ℕ → List ℕ → Type 0
  Behind j acc = (q : ℕ) → Has q acc → (k : ℕ) × (j < k) × (k < length es) × ((entry_at es k).who ≡ q)

  not_behind : (j : ℕ) (acc : List ℕ) → j < length es → Behind j acc → Has (entry_at es j).who acc → ⊥
  unfolding Behind
  not_behind j acc lt a h = let k = a (entry_at es j).who h in different j k.0 k.1 k.2 (sym k.3)

  at_starter : (j : ℕ) (acc : List ℕ) → j ≡ 0 → j < length es → Chain W (entry_at es j).who acc s → Distinct acc → Behind j acc → Closed ((entry_at es j).who ∷ acc)
  unfolding Closed
  at_starter j acc z lt c d a =
      let e : (entry_at es j).who ≡ s = rw z starter in
      (acc, rw e, rw e at c, (rw e at (not_behind j acc lt a), d))

  arc : (j : ℕ) (acc : List ℕ) → 0 < j → j < length es → Chain W (entry_at es j).who acc s → W (entry_at es (entry_at es j).lead).who (entry_at es j).who
  arc j acc pos lt c = ⊎_elim (λ r. let o = chain_out W (entry_at es j).who acc s c in absurd (idle (entry_at es j).who o.0 r o.1)) (λ w. w) (arcs j pos lt)

  behind_on : (j : ℕ) (acc : List ℕ) → (entry_at es j).lead < j → j < length es → Behind j acc → Behind (entry_at es j).lead ((entry_at es j).who ∷ acc)
  unfolding Behind
  behind_on j acc le lt a q (inl e) = (j, le, lt, e)
  behind_on j acc le lt a q (inr h) = let k = a q h in (k.0, omega arith, k.2, k.3)

  along_leads_sound : (f j : ℕ) (acc : List ℕ) → j ≤ f → j < length es → Chain W (entry_at es j).who acc s → Distinct acc → Behind j acc → Closed (along_leads f es j acc)
  unfolding along_leads Closed Behind
  along_leads_sound zero j acc le lt c d a = at_starter j acc (omega arith) lt c d a
  along_leads_sound (suc f) j acc le lt c d a = elim (ℕ_discrete j 0) [
    | yes z ↦ rw (if_pos (ℕ_discrete j 0) z ((entry_at es j).who ∷ acc) (along_leads f es (entry_at es j).lead ((entry_at es j).who ∷ acc))) (at_starter j acc z lt c d a)
    | no n ↦ rw (if_neg (ℕ_discrete j 0) n ((entry_at es j).who ∷ acc) (along_leads f es (entry_at es j).lead ((entry_at es j).who ∷ acc))) (along_leads_sound f (entry_at es j).lead ((entry_at es j).who ∷ acc) (omega (arith, leads j (omega arith) lt)) (omega (arith, leads j (omega arith) lt)) (arc j acc (omega arith) lt c, c) (not_behind j acc lt a, d) (behind_on j acc (leads j (omega arith) lt) lt a))
  ]

  closed_ring : ((p : ℕ) → W p p → ⊥) → (r l : List ℕ) → r ≡ s ∷ l → Chain W s l s → Distinct (s ∷ l) → IsRing W r
  closed_ring apart r [] e c d = absurd (apart s c)
  closed_ring apart r (y ∷ l) e c d = rw e (d, c)

  -- the ring that is recorded when the process asked at j waits for the starter, and it begins with the starter
  pub leads_ring : ((p : ℕ) → W p p → ⊥) → (j : ℕ) → 0 < j → j < length es → W (entry_at es j).who s → IsRing W (along_leads j es j []) × ((l : List ℕ) × (along_leads j es j [] ≡ s ∷ l))
  unfolding Closed Behind
  leads_ring apart j pos lt w = let k = along_leads_sound j j [] (omega arith) lt w tt (λ q h. absurd h) in (closed_ring apart (along_leads j es j []) k.0 k.1 k.2 k.3, (k.0, k.1))
