-- Ways along any relation: what one wait more makes, that a shortest way round meets nobody twice, and that only the waits among the
-- numbers below 16 count.
use mathlib.Core.Path.{◌≡◌, refl, sym, ap, ap₂, ◌∙◌}
use mathlib.Core.Logic.{inl, inr}
use mathlib.Core.Bool.{Bool, true, false, ◌&&◌}
use mathlib.Core.List.{List, ◌∷◌}
use Prim.Native.Nat.{ℕ, zero, suc, ◌+◌, ◌≤◌, ◌<◌}
use native.Mathlib.Omega.{arith}
use native.Mathlib.Nat.{suc-add}
use native.Mathlib.Decide.{dec_lt}
use native.Mathlib.Numerals.{add-one}
use lib.Dec.{leb}
use lib.ListN.{length}
use borrow.Author.Tests.{eqb-true, eq-eqb, lt-ltb, le-ltb, leb-true, le-leb}
use Rattle.rules.specs.Waits.{Among, Different}
use Rattle.rules.specs.Lists.{ring_of, no_ring}
use Rattle.rules.proofs.Tables.{both, both_left, both_right, true_not_false, not_passed}
use Rattle.search.specs.Ways.{comes, next, way, round, shortest}
use Rattle.search.proofs.Numbers.{first_passes, first_before, first_some, any_is, is_any, first_ext, any_ext}

module _ (w : ℕ → ℕ → Bool) where
  -- ---- one wait more
  module _ (p k x : ℕ) where
    pub next_inside : comes w p (suc k) x ≡ true → next w p k x < 16
    unfolding comes next
    next_inside e = any_is 16 (λ q. w x q && comes w p k q) e

    next_both : comes w p (suc k) x ≡ true → w x (next w p k x) && comes w p k (next w p k x) ≡ true
    unfolding comes next
    next_both e = first_passes 16 (λ q. w x q && comes w p k q) (any_is 16 (λ q. w x q && comes w p k q) e)

    pub next_waits : comes w p (suc k) x ≡ true → w x (next w p k x) ≡ true
    next_waits e = both_left _ _ (next_both e)

    pub next_comes : comes w p (suc k) x ≡ true → comes w p k (next w p k x) ≡ true
    next_comes e = both_right (w x (next w p k x)) _ (next_both e)

    pub comes_more : (q : ℕ) → q < 16 → w x q ≡ true → comes w p k q ≡ true → comes w p (suc k) x ≡ true
    unfolding comes
    comes_more q h e f = is_any 16 (λ q. w x q && comes w p k q) q h (both (w x q) _ e f)

  pub comes_none : (p : ℕ) → comes w p 0 p ≡ true
  unfolding comes
  comes_none p = eq-eqb p p refl

  pub comes_here : (p x : ℕ) → comes w p 0 x ≡ true → x ≡ p
  unfolding comes
  comes_here p x e = eqb-true x p e

  -- x comes to y, and y to p
  pub comes_add : (p y i j x : ℕ) → comes w y i x ≡ true → comes w p j y ≡ true → comes w p (i + j) x ≡ true
  comes_add p y zero j x e f = let z : 0 + j ≡ j = omega arith in rw (comes_here y x e, z) f
  comes_add p y (suc i) j x e f =
      let n = next w y i x in
      rw suc-add (comes_more p (i + j) x n (next_inside y i x e) (next_waits y i x e) (comes_add p y i j n (next_comes y i x e) f))

  -- ---- the way
  pub way_length : (p k x : ℕ) → length (way w p k x) ≡ k
  unfolding way
  way_length p zero x = refl
  way_length p (suc k) x = ap suc (way_length p k (next w p k x))

  -- each process of the way comes to p in one wait at least, and in no more than the way has
  member_comes : (p k x z : ℕ) → comes w p k x ≡ true → Among z (way w p k x) → (m : ℕ) × (0 < m) × (m ≤ k) × (comes w p m z ≡ true)
  unfolding way
  member_comes p zero x z e h = absurd h
  member_comes p (suc k) x z e (inl i) = (suc k, omega arith, omega arith, rw (← i) e)
  member_comes p (suc k) x z e (inr h) =
      let r = member_comes p k (next w p k x) z (next_comes p k x e) h in
      (r.0, r.1, omega (arith, r.2), r.3)

  -- p comes to x in i waits and x to p in k, and p comes round in no fewer: the way on from x meets nobody twice
  pub way_different : (p i k x : ℕ) → ((m : ℕ) → 0 < m → m < i + k → comes w p m p ≡ false) → comes w x i p ≡ true → comes w p k x ≡ true
      → Different (way w p k x)
  unfolding way
  way_different p i zero x least e f = tt
  way_different p i (suc k) x least e f =
      let y = next w p k x in
      let n = next_comes p k x f in (
        (λ h.
            let r = member_comes p k y x n h in
            true_not_false (sym (comes_add p x i r.0 p e r.3) ∙ least (i + r.0) (omega (arith, r.1)) (omega (arith, r.2)))),
        way_different p (suc i) k y (λ m g h. least m g (omega arith)) (comes_on i e) n,
      )
    where
      -- one wait more, at the end
      comes_on : (i : ℕ) → comes w x i p ≡ true → comes w (next w p k x) (suc i) p ≡ true
      comes_on i g =
          let n = next w p k x in
          rw add-one at (comes_add n x i 1 p g (comes_more n 0 x n (next_inside p k x f) (next_waits p k x f) (comes_none n)))

  -- ---- the first time that p comes round
  module _ (p : ℕ) where
    pub round_comes : round w p ≤ 16 → comes w p (round w p) p ≡ true
    unfolding round
    round_comes h = first_passes 16 (λ k. comes w p (suc k) p) (omega arith)

    pub round_positive : 0 < round w p
    unfolding round
    round_positive = omega arith

    pub round_least : (m : ℕ) → 0 < m → m < round w p → comes w p m p ≡ false
    unfolding round
    round_least zero h g = absurd (omega arith)
    round_least (suc m) h g = first_before 16 (λ k. comes w p (suc k) p) m (omega arith)

    pub round_some : (n : ℕ) → 0 < n → n ≤ 16 → comes w p n p ≡ true → round w p ≤ n
    unfolding round
    round_some zero h g e = absurd (omega arith)
    round_some (suc n) h g e = omega (arith, first_some 16 (λ k. comes w p (suc k) p) n (omega arith) e)

    pub found_is : p < 16 → round w p ≤ 16 → shortest w p ≡ ring_of (way w p (round w p) p)
    unfolding shortest
    found_is h g = rw (lt-ltb p 16 h, le-leb (round w p) 16 g)

    pub none_far : p < 16 → 16 < round w p → shortest w p ≡ no_ring
    unfolding shortest
    none_far h g = rw (lt-ltb p 16 h, not_passed (leb (round w p) 16) (λ e. omega (arith, leb-true (round w p) 16 e)))

    pub none_past : 16 ≤ p → shortest w p ≡ no_ring
    unfolding shortest
    none_past h = rw (le-ltb p 16 h)

-- ---- only the waits among the numbers below 16 count
module _ (w v : ℕ → ℕ → Bool) (same : (x q : ℕ) → x < 16 → q < 16 → w x q ≡ v x q) where
  comes_ext : (p k x : ℕ) → x < 16 → comes w p k x ≡ comes v p k x
  unfolding comes
  comes_ext p zero x h = refl
  comes_ext p (suc k) x h = any_ext 16 _ _ (λ q l. ap₂ (λ (s t : Bool). s && t) (same x q h l) (comes_ext p k q l))

  next_ext : (p k x : ℕ) → x < 16 → next w p k x ≡ next v p k x
  unfolding next
  next_ext p k x h = first_ext 16 _ _ (λ q l. ap₂ (λ (s t : Bool). s && t) (same x q h l) (comes_ext p k q l))

  way_ext : (p k x : ℕ) → x < 16 → comes w p k x ≡ true → way w p k x ≡ way v p k x
  unfolding way
  way_ext p zero x h e = refl
  way_ext p (suc k) x h e =
      ap (λ (l : List ℕ). x ∷ l) (way_ext p k (next w p k x) (next_inside w p k x e) (next_comes w p k x e) ∙ ap (way v p k) (next_ext p k x h))

  round_ext : (p : ℕ) → p < 16 → round w p ≡ round v p
  unfolding round
  round_ext p h = ap suc (first_ext 16 _ _ (λ k l. comes_ext p (suc k) p h))

  pub shortest_ext : (p : ℕ) → shortest w p ≡ shortest v p
  shortest_ext p = elim (dec_lt p 16) [
    | yes h ↦ elim (dec_lt 16 (round w p)) [
      | yes g ↦ none_far w p h g ∙ sym (none_far v p h (rw (round_ext p h) at g))
      | no g ↦
          let r : round w p ≤ 16 = omega arith in
          let e = way_ext p (round w p) p h (round_comes w p r) ∙ ap (λ (n : ℕ). way v p n p) (round_ext p h) in
          found_is w p h r ∙ ap ring_of e ∙ sym (found_is v p h (rw (round_ext p h) at r))
    ]
    | no g ↦ none_past w p (omega arith) ∙ sym (none_past v p (omega arith))
  ]
