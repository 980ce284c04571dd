-- Settling, by one induction: each front that is granted is clear, so it becomes a holder beside holders it does not
-- conflict with; the line is what was granted and what is left; the holders after are those before and those granted.
use mathlib.Core.Path.{◌≡◌, refl, ap, sym, ◌∙◌}
use mathlib.Core.Logic.{◌⊎◌, inl, inr, ⊎_elim, ◌≢◌}
use mathlib.Core.Bool.{Bool, true, false}
use mathlib.Core.Option.{none, some}
use mathlib.Core.List.{[], ◌∷◌, ◌++◌}
use Prim.Native.Nat.{ℕ, ◌+◌}
use native.Mathlib.Omega.{arith}
use native.Mathlib.Decide.{ℕ_discrete}
use Rattle.model.specs.Tables.{put}
use Rattle.model.specs.Book.{Waiter, Line, Holders, In, clear, Settled, grant_then, settle, strike}
use Rattle.model.specs.Totals.{sum_line}
use Rattle.model.proofs.Tables.{put_same, put_other, some_not_none}
use Rattle.model.proofs.Sums.{same, same_yes, same_no, one}
use Rattle.model.proofs.Lines.{is_who}
use Rattle.model.proofs.Book.{Fit, Compatible, compatible_grant, fit_grant, compatible_struck, fit_struck}

-- the one induction: P of a line that stays, and through a grant
pub settle_fold : (P : Holders → Line → Settled → Type 0) → ((h : Holders) (l : Line) → P h l (record { holders = h; line = l; grants = [] })) → ((h : Holders) (e : Waiter) (l : Line) (s : Settled) → clear h e.who e.mode ≡ true → P (put h e.who (some e.mode)) l s → P h (e ∷ l) (grant_then e s)) → (h : Holders) (l : Line) → P h l (settle h l)
unfolding settle
settle_fold P f g h [] = f h []
settle_fold P f g h (e ∷ l) =
    let go : (b : Bool) → clear h e.who e.mode ≡ b → P h (e ∷ l) (settle h (e ∷ l)) = elim [
      | true ↦ λ z. rw (z, settle) (g h e l _ z (settle_fold P f g (put h e.who (some e.mode)) l))
      | false ↦ λ z. rw (z, settle) (f h (e ∷ l))
    ] in
    go (clear h e.who e.mode) refl

-- what one grant keeps, settling keeps
pub settle_keeps : (P : Holders → Line → Type 0) → ((h : Holders) (e : Waiter) (l : Line) → clear h e.who e.mode ≡ true → P h (e ∷ l) → P (put h e.who (some e.mode)) l) → (h : Holders) (l : Line) → P h l → P (settle h l).holders (settle h l).line
settle_keeps P f = settle_fold (λ h l s. P h l → P s.holders s.line) (λ h l x. x) (λ h e l s c k x. k (f h e l c x))

pub settle_fit : (h : Holders) (l : Line) → Fit h l → Fit (settle h l).holders (settle h l).line
settle_fit = settle_keeps Fit (λ h e l f r. fit_grant h e l r)

pub settle_compatible : (h : Holders) (l : Line) → Fit h l → Compatible h → Compatible (settle h l).holders
settle_compatible h l r k = (settle_keeps (λ h l. Fit h l × Compatible h) (λ h e l f x. (fit_grant h e l x.0, compatible_grant h e.who e.mode x.0.below f x.1)) h l (r, k)).1

pub settle_split : (h : Holders) (l : Line) → (settle h l).grants ++ (settle h l).line ≡ l
settle_split = settle_fold (λ h l s. s.grants ++ s.line ≡ l) (λ h l. refl) (λ h e l s f x. ap (λ (r : Line). e ∷ r) x)

-- ---- the holders after
module _ (q : ℕ) (n : Bool) where
  HoldsAfter : Holders → Line → Settled → Type 0
  HoldsAfter h l s = Fit h l → (h q ≡ some n) ⊎ In q n s.grants → s.holders q ≡ some n

  holds_grant : (h : Holders) (e : Waiter) (l : Line) (s : Settled) → clear h e.who e.mode ≡ true → HoldsAfter (put h e.who (some e.mode)) l s → HoldsAfter h (e ∷ l) (grant_then e s)
  unfolding HoldsAfter
  holds_grant h e l s f x r (inl z) = x (fit_grant h e l r) (inl (put_other h e.who q _ (λ y. some_not_none (h q) n z (ap h y ∙ r.apart.0)) ∙ z))
  holds_grant h e l s f x r (inr (inl i)) = x (fit_grant h e l r) (inl (put_same h e.who q _ (sym i.0) ∙ ap some i.1))
  holds_grant h e l s f x r (inr (inr i)) = x (fit_grant h e l r) (inr i)

  holds_stop : (h : Holders) (l : Line) → HoldsAfter h l (record { holders = h; line = l; grants = [] })
  unfolding HoldsAfter
  holds_stop h l r (inl z) = z
  holds_stop h l r (inr i) = absurd i

  pub settle_holds : (h : Holders) (l : Line) → Fit h l → (h q ≡ some n) ⊎ In q n (settle h l).grants → (settle h l).holders q ≡ some n
  unfolding HoldsAfter
  settle_holds = settle_fold HoldsAfter holds_stop holds_grant

put_count : (h : Holders) (p q : ℕ) (m : Bool) → h p ≡ none → one (put h p (some m) q) ≡ one (h q) + same p q
put_count h p q m e = elim (ℕ_discrete p q) [
  | yes z ↦ omega (arith, same_yes p q z, ap one (put_same h p q (some m) (sym z)), ap one (ap h (sym z) ∙ e))
  | no f ↦ omega (arith, same_no p q f, ap one (put_other h p q (some m) (λ z. f (sym z))))
]

pub settle_count : (q : ℕ) (h : Holders) (l : Line) → Fit h l → one ((settle h l).holders q) ≡ one (h q) + sum_line (is_who q) (settle h l).grants
unfolding sum_line
settle_count q = settle_fold (λ h l s. Fit h l → one (s.holders q) ≡ one (h q) + sum_line (is_who q) s.grants) (λ h l r. omega arith)
    (λ h e l s f x r. omega (arith, x (fit_grant h e l r), put_count h e.who q e.mode r.apart.0))

-- ---- a holder is struck, then grants follow
module _ (h : Holders) (l : Line) (s : ℕ) where
  pub strike_split : (strike h l s).grants ++ (strike h l s).line ≡ l
  unfolding strike
  strike_split = settle_split (put h s none) l

  module _ (r : Fit h l) where
    pub strike_fit : Fit (strike h l s).holders (strike h l s).line
    unfolding strike
    strike_fit = settle_fit (put h s none) l (fit_struck h l s r)

    pub strike_compatible : Compatible h → Compatible (strike h l s).holders
    unfolding strike
    strike_compatible k = settle_compatible (put h s none) l (fit_struck h l s r) (compatible_struck h s r.below k)

    -- who was a holder and is not struck, and who is granted, is a holder after
    pub strike_holds : (q : ℕ) (n : Bool) → ((q ≢ s) × (h q ≡ some n)) ⊎ In q n (strike h l s).grants → (strike h l s).holders q ≡ some n
    unfolding strike
    strike_holds q n x = settle_holds q n (put h s none) l (fit_struck h l s r) (⊎_elim (λ y. inl (put_other h s q none y.0 ∙ y.1)) (λ y. inr y) x)

    pub strike_count : (q : ℕ) → one ((strike h l s).holders q) ≡ one (put h s none q) + sum_line (is_who q) (strike h l s).grants
    unfolding strike
    strike_count q = settle_count q (put h s none) l (fit_struck h l s r)
