-- An arc at one object vanishes only when its target is struck: a grant turns 'ahead' into 'held' and opens no arc,
-- and joining opens arcs out of the newcomer only.
use mathlib.Core.Path.{◌≡◌, ap, sym, ◌∙◌}
use mathlib.Core.Logic.{◌⊎◌, inl, inr, ⊎_elim}
use mathlib.Core.Bool.{Bool, true}
use mathlib.Core.Option.{none, some}
use mathlib.Core.List.{[], ◌∷◌, ◌++◌}
use Prim.Native.Nat.{ℕ}
use native.Mathlib.Omega.{arith}
use native.Mathlib.Decide.{ℕ_discrete}
use Rattle.model.specs.Tables.{put}
use Rattle.model.specs.Book.{Waiter, Line, Holders, conflict, Ahead, WaitsAt, held, ahead, clear, settle, strike}
use Rattle.model.proofs.Tables.{put_same, put_other, where_put, some_not_none, true_not_false}
use Rattle.model.proofs.Lists.{any_left, any_end}
use Rattle.model.proofs.Book.{Below, Fit, clear_sound, fit_grant, fit_struck}
use Rattle.model.proofs.Book.Settle.{settle_keeps}

-- ---- one grant: the front becomes a holder
module _ (h : Holders) (e : Waiter) (l : Line) (p q : ℕ) where
  abbrev after : Holders
  after = put h e.who (some e.mode)

  grant_keep : Below h → clear h e.who e.mode ≡ true → h e.who ≡ none → WaitsAt h (e ∷ l) p q → WaitsAt after l p q
  grant_keep b f d (held m n ne c (inl i) hq) = true_not_false (conflict m n) c (rw (← i.1) (clear_sound h e.who q e.mode n b f (omega arith) hq))
  grant_keep b f d (held m n ne c (inr i) hq) = elim (ℕ_discrete q e.who) [
    | yes z ↦ some_not_none (h q) n hq (cc)
    | no g ↦ held m n ne c i (put_other h e.who q (some e.mode) g ∙ hq)
  ]
  grant_keep b f d (ahead m n ne c (inl i)) = held m n ne c i.1 (put_same h e.who q (some e.mode) (omega arith) ∙ ap some i.0.1)
  grant_keep b f d (ahead m n ne c (inr i)) = ahead m n ne c i

  grant_back : WaitsAt after l p q → WaitsAt h (e ∷ l) p q
  grant_back (held m n ne c i hq) = elim (ℕ_discrete q e.who) [
    | yes z ↦ ahead m n ne c (inl ((sym z, cc (put_same h e.who q (some e.mode) z)), i))
    | no g ↦ held m n ne c (inr i) (sym (put_other h e.who q (some e.mode) g) ∙ hq)
  ]
  grant_back (ahead m n ne c i) = ahead m n ne c (inr i)

pub settle_keep : (h : Holders) (l : Line) (p q : ℕ) → Fit h l → WaitsAt h l p q → WaitsAt (settle h l).holders (settle h l).line p q
settle_keep h l p q r w = (settle_keeps (λ h l. Fit h l × WaitsAt h l p q) (λ h e l f x. (fit_grant h e l x.0, grant_keep h e l p q x.0.below f x.0.apart.0 x.1)) h l (r, w)).1

pub settle_back : (h : Holders) (l : Line) (p q : ℕ) → WaitsAt (settle h l).holders (settle h l).line p q → WaitsAt h l p q
settle_back h l p q = settle_keeps (λ h' l'. WaitsAt h' l' p q → WaitsAt h l p q) (λ h e l f k w. k (grant_back h e l p q w)) h l (λ w. w)

-- ---- a holder is struck, then grants follow
struck_keep : (h : Holders) (l : Line) (s p q : ℕ) → WaitsAt h l p q → (q ≡ s) ⊎ WaitsAt (put h s none) l p q
struck_keep h l s p q (held m n ne c i hq) = elim (ℕ_discrete q s)
    [ yes z ↦ inl z | no f ↦ inr (held m n ne c i (put_other h s q none f ∙ hq)) ]
struck_keep h l s p q (ahead m n ne c i) = inr (ahead m n ne c i)

struck_back : (h : Holders) (l : Line) (s p q : ℕ) → WaitsAt (put h s none) l p q → WaitsAt h l p q
struck_back h l s p q (held m n ne c i hq) = ⊎_elim (λ v. some_not_none (put h s none q) n hq v.1) (λ v. held m n ne c i (sym v.1 ∙ hq)) (where_put h s none q)
struck_back h l s p q (ahead m n ne c i) = ahead m n ne c i

pub strike_keep : (h : Holders) (l : Line) (s p q : ℕ) → Fit h l → WaitsAt h l p q → (q ≡ s) ⊎ WaitsAt (strike h l s).holders (strike h l s).line p q
unfolding strike
strike_keep h l s p q r w = ⊎_elim (λ e. inl e) (λ v. inr (settle_keep (put h s none) l p q (fit_struck h l s r) v)) (struck_keep h l s p q w)

pub strike_back : (h : Holders) (l : Line) (s p q : ℕ) → WaitsAt (strike h l s).holders (strike h l s).line p q → WaitsAt h l p q
unfolding strike
strike_back h l s p q w = struck_back h l s p q (settle_back (put h s none) l p q w)

-- ---- a process joins the line
module _ (h : Holders) (e : Waiter) (p q : ℕ) where
  ahead_left : (m n : Bool) (l : Line) → Ahead p m q n l → Ahead p m q n (l ++ e ∷ [])
  ahead_left m n [] x' = elim x' [ ]
  ahead_left m n (x ∷ l) (inl i) = inl (i.0, any_left _ l _ i.1)
  ahead_left m n (x ∷ l) (inr i) = inr (ahead_left m n l i)

  ahead_back : (m n : Bool) (l : Line) → Ahead p m q n (l ++ e ∷ []) → (e.who ≡ p) ⊎ Ahead p m q n l
  ahead_back m n [] (inl i) = absurd i.1
  ahead_back m n [] (inr i) = absurd i
  ahead_back m n (x ∷ l) (inl i) = ⊎_elim (λ k. inl k.0) (λ k. inr (inl (i.0, k))) (any_end _ l e i.1)
  ahead_back m n (x ∷ l) (inr i) = ⊎_elim (λ k. inl k) (λ k. inr (inr k)) (ahead_back m n l i)

  pub join_keep : (l : Line) → WaitsAt h l p q → WaitsAt h (l ++ e ∷ []) p q
  join_keep l (held m n ne c i hq) = held m n ne c (any_left _ l _ i) hq
  join_keep l (ahead m n ne c i) = ahead m n ne c (ahead_left m n l i)

  pub join_back : (l : Line) → WaitsAt h (l ++ e ∷ []) p q → (e.who ≡ p) ⊎ WaitsAt h l p q
  join_back l (held m n ne c i hq) = ⊎_elim (λ k. inl k.0) (λ k. inr (held m n ne c k hq)) (any_end _ l e i)
  join_back l (ahead m n ne c i) = ⊎_elim (λ k. inl k) (λ k. inr (ahead m n ne c k)) (ahead_back m n l i)
