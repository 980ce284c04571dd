-- Everyone in a line waits for somebody, if the front does: who stands behind conflicts with the front, or both are shared, and then the
-- holder in conflict with the front is exclusive. The front does after settling, which stops at no other, and joining keeps it there.
use mathlib.Core.Path.{◌≡◌, refl, sym, ◌∙◌}
use mathlib.Core.Logic.{inl, inr}
use mathlib.Core.Bool.{Bool, true, false}
use mathlib.Core.Option.{none, some}
use mathlib.Core.List.{[], ◌∷◌, ◌++◌}
use Prim.Native.Nat.{ℕ}
use Rattle.model.specs.Tables.{put}
use Rattle.model.specs.Book.{Waiter, standing, Line, Holders, conflict, In, WaitsAt, held, ahead, clear, settle, strike}
use Rattle.model.proofs.Tables.{some_not_none, true_not_false}
use Rattle.model.proofs.Book.{HoldsAgainst, not_clear, Apart, Fit}

-- the front, if there is one, conflicts with a holder
abbrev pub FrontBlocked : Holders → Line → Type 0
FrontBlocked h [] = Unit {0}
FrontBlocked h (e ∷ l) = clear h e.who e.mode ≡ false

-- ---- it stays so
settle_blocked : (h : Holders) (l : Line) → FrontBlocked (settle h l).holders (settle h l).line
unfolding settle
settle_blocked h [] = tt
settle_blocked h (e ∷ l) =
    let go : (b : Bool) → clear h e.who e.mode ≡ b → FrontBlocked (settle h (e ∷ l)).holders (settle h (e ∷ l)).line = elim [
      | true ↦ λ z. rw (z, settle) (settle_blocked (put h e.who (some e.mode)) l)
      | false ↦ λ z. rw (z, settle) z
    ] in
    go (clear h e.who e.mode) refl

pub strike_blocked : (h : Holders) (l : Line) (s : ℕ) → FrontBlocked (strike h l s).holders (strike h l s).line
unfolding strike
strike_blocked h l s = settle_blocked (put h s none) l

pub join_blocked : (h : Holders) (l : Line) (p : ℕ) (m : Bool) → (l ≡ [] → clear h p m ≡ false) → FrontBlocked h l → FrontBlocked h (l ++ standing p m ∷ [])
join_blocked h [] p m f k = f refl
join_blocked h (e ∷ l) p m f k = k

-- ---- so everyone waits for somebody
in_unheld : (h : Holders) (l : Line) (p : ℕ) (m : Bool) → Apart h l → In p m l → h p ≡ none
in_unheld h [] p m a x'' = elim x'' [ ]
in_unheld h (e ∷ l) p m a (inl i) = rw (← i.0) a.0
in_unheld h (e ∷ l) p m a (inr i) = in_unheld h l p m a.2 i

-- what does not conflict with x conflicts with all that x does
conflict_too : (m x n : Bool) → conflict m x ≡ false → conflict x n ≡ true → conflict m n ≡ true
conflict_too true x n a c = refl
conflict_too false true n a c = true_not_false true refl a
conflict_too false false n a c = c

behind_blocked : (h : Holders) (e : Waiter) (l : Line) (p q : ℕ) (m : Bool) → Apart h (e ∷ l) → In p m l → HoldsAgainst h e.who q e.mode → (q : ℕ) × WaitsAt h (e ∷ l) p q
behind_blocked h e l p q m a i (n, ne, hq, c) = go (conflict m e.mode) refl
  where
    go : (t : Bool) → conflict m e.mode ≡ t → (q : ℕ) × WaitsAt h (e ∷ l) p q
    go true z = (e.who, ahead m e.mode (λ y. a.1 m (rw y at i)) z (inl ((refl, refl), i)))
    go false z = (q, held m n (λ y. some_not_none (h q) n hq (rw y at (in_unheld h l p m a.2 i))) (conflict_too m e.mode n z c) (inr i) hq)

pub line_blocked : (h : Holders) (l : Line) → Fit h l → FrontBlocked h l → (p : ℕ) (m : Bool) → In p m l → (q : ℕ) × WaitsAt h l p q
line_blocked h [] r k p m x3 = elim x3 [ ]
line_blocked h (e ∷ l) r k p m (inl i) = let (q, (n, ne, hq, c)) = not_clear h e.who e.mode k in (q, held m n (λ y. ne (sym y ∙ sym i.0)) (rw (← i.1) c) (inl i) hq)
line_blocked h (e ∷ l) r k p m (inr i) = let f = not_clear h e.who e.mode k in behind_blocked h e l p f.0 m r.apart i f.1
