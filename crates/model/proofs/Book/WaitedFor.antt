-- The computed `waited_for` is exactly those whom a process in the line waits for.
use mathlib.Core.Path.{◌≡◌, refl, ap, sym, ◌∙◌}
use mathlib.Core.Logic.{inl, inr, ⊎_elim, ◌≢◌, if_pos, if_neg}
use mathlib.Core.Bool.{Bool, true, false}
use mathlib.Core.Option.{Option, none, some}
use mathlib.Core.List.{[], ◌∷◌, ◌++◌}
use Prim.Native.Nat.{ℕ, ◌<◌}
use native.Mathlib.Decide.{ℕ_discrete}
use Rattle.model.specs.Lists.{Has}
use Rattle.model.specs.Book.{Line, Holders, conflict, In, Ahead, WaitsAt, held, ahead, only_if, holders_against, unless_same, ahead_of, mode_in, waited_for_in, waited_for}
use Rattle.model.proofs.Tables.{some_not_none}
use Rattle.model.proofs.Lists.{any_left, any_right, any_cases}
use Rattle.model.proofs.Book.{holders_against_sound, holders_against_complete, Range, Apart, Fit}

ahead_in : (p q : ℕ) (m n : Bool) (l : Line) → Ahead p m q n l → In p m l
ahead_in p q m n [] x' = elim x' [ ]
ahead_in p q m n (e ∷ l) (inl i) = inr i.1
ahead_in p q m n (e ∷ l) (inr i) = inr (ahead_in p q m n l i)

ahead_other : (p q : ℕ) (m n : Bool) (l : Line) → Ahead p m q n l → In q n l
ahead_other p q m n [] x' = elim x' [ ]
ahead_other p q m n (e ∷ l) (inl i) = inl i.0
ahead_other p q m n (e ∷ l) (inr i) = inr (ahead_other p q m n l i)

in_range : (l : Line) (q : ℕ) (n : Bool) → Range l → In q n l → q < 16
in_range [] q n r x'' = elim x'' [ ]
in_range (e ∷ l) q n r (inl i) = rw (← i.0) r.0
in_range (e ∷ l) q n r (inr i) = in_range l q n r.1 i

-- ---- who waits stands in the line, for another, who is below 16
pub waits_at_in : (h : Holders) (l : Line) (p q : ℕ) → WaitsAt h l p q → (m : Bool) × In p m l
waits_at_in h l p q (held m n ne c i hq) = (m, i)
waits_at_in h l p q (ahead m n ne c i) = (m, ahead_in p q m n l i)

pub waits_at_apart : (h : Holders) (l : Line) (p q : ℕ) → WaitsAt h l p q → p ≢ q
waits_at_apart h l p q (held m n ne c i hq) = ne
waits_at_apart h l p q (ahead m n ne c i) = ne

pub waits_at_range : (h : Holders) (l : Line) (p q : ℕ) → Fit h l → WaitsAt h l p q → q < 16
waits_at_range h l p q r (held m n ne c i hq) = r.below q n hq
waits_at_range h l p q r (ahead m n ne c i) = in_range l q n r.range (ahead_other p q m n l i)

-- ---- those ahead
only_if_sound : (b : Bool) (k q : ℕ) → Has q (only_if b k) → (b ≡ true) × (k ≡ q)
only_if_sound true k q (inl e) = (refl, e)
only_if_sound true k q (inr a) = absurd a
only_if_sound false k q a = absurd a

ahead_of_sound : (p q : ℕ) (m : Bool) (l : Line) → In p m l → Has q (ahead_of p m l) → (n : Bool) × (p ≢ q) × (conflict m n ≡ true) × Ahead p m q n l
unfolding ahead_of
ahead_of_sound p q m [] i a = elim i [ ]
ahead_of_sound p q m (e ∷ l) i a = go (ℕ_discrete e.who p) i (ahead_of_sound p q m l) a
  where
    Goal : Line → Type 0
    Goal l = (n : Bool) × (p ≢ q) × (conflict m n ≡ true) × Ahead p m q n l

    go : (d : Dec (e.who ≡ p)) → In p m (e ∷ l) → (In p m l → Has q (ahead_of p m l) → Goal l) → Has q (unless_same d (only_if (conflict m e.mode) e.who ++ ahead_of p m l)) → Goal (e ∷ l)
    go (yes z) i rec a = absurd a
    go (no f) (inl i) rec a = absurd (f i.0)
    go (no f) (inr i) rec a = ⊎_elim (λ b. let o = only_if_sound _ _ _ b in (e.mode, (λ z. f (o.1 ∙ sym z)), o.0, inl ((o.1, refl), i))) (λ b. let r = rec i b in (r.0, r.1, r.2, inr r.3)) (any_cases _ (only_if (conflict m e.mode) e.who) _ a)

ahead_of_complete : (p q : ℕ) (m n : Bool) (h : Holders) (l : Line) → Apart h l → conflict m n ≡ true → Ahead p m q n l → Has q (ahead_of p m l)
unfolding ahead_of
ahead_of_complete p q m n h [] a c i = elim i [ ]
ahead_of_complete p q m n h (e ∷ l) a c i = go (ℕ_discrete e.who p) (ahead_of_complete p q m n h l a.2 c) i
  where
    go : (d : Dec (e.who ≡ p)) → (Ahead p m q n l → Has q (ahead_of p m l)) → Ahead p m q n (e ∷ l) → Has q (unless_same d (only_if (conflict m e.mode) e.who ++ ahead_of p m l))
    go (yes z) rec (inl i) = absurd (a.1 m (rw z i.1))
    go (yes z) rec (inr i) = absurd (a.1 m (rw z (ahead_in p q m n l i)))
    go (no f) rec (inl i) = any_left _ (only_if (conflict m e.mode) e.who) _ (rw (i.0.1, c) (inl i.0.0))
    go (no f) rec (inr i) = any_right _ (only_if (conflict m e.mode) e.who) _ (rec i)

-- ---- the mode in the line
pub mode_in_sound : (p : ℕ) (m : Bool) (l : Line) → mode_in p l ≡ some m → In p m l
unfolding mode_in
mode_in_sound p m [] e = some_not_none none m e refl
mode_in_sound p m (x ∷ l) e = elim (ℕ_discrete x.who p) [
  | yes z ↦ inl (z, cc (if_pos (ℕ_discrete x.who p) z (some x.mode) (mode_in p l)))
  | no f ↦ inr (mode_in_sound p m l (sym (if_neg (ℕ_discrete x.who p) f (some x.mode) (mode_in p l)) ∙ e))
]

pub mode_in_complete : (p : ℕ) (m : Bool) (h : Holders) (l : Line) → Apart h l → In p m l → mode_in p l ≡ some m
unfolding mode_in
mode_in_complete p m h [] a x'' = elim x'' [ ]
mode_in_complete p m h (x ∷ l) a (inl i) = if_pos (ℕ_discrete x.who p) i.0 (some x.mode) (mode_in p l) ∙ ap some i.1
mode_in_complete p m h (x ∷ l) a (inr i) = if_neg (ℕ_discrete x.who p) (λ z. a.1 m (rw z i)) (some x.mode) (mode_in p l) ∙ mode_in_complete p m h l a.2 i

-- ---- both together
module _ (h : Holders) (l : Line) (p q : ℕ) where
  pub waited_for_complete : Fit h l → WaitsAt h l p q → Has q (waited_for h l p)
  unfolding waited_for
  waited_for_complete r (held m n ne c i hq) = rw (mode_in_complete p m h l r.apart i, waited_for) (any_left _ (holders_against 16 h p m) _ (holders_against_complete 16 h p q m n (r.below q n hq) (λ z. ne (sym z)) hq c))
  waited_for_complete r (ahead m n ne c i) = rw (mode_in_complete p m h l r.apart (ahead_in p q m n l i), waited_for) (any_right _ (holders_against 16 h p m) _ (ahead_of_complete p q m n h l r.apart c i))

  pub waited_for_sound : Has q (waited_for h l p) → WaitsAt h l p q
  unfolding waited_for
  waited_for_sound a = go (mode_in p l) refl a
    where
      go : (x : Option Bool) → mode_in p l ≡ x → Has q (waited_for_in x h l p) → WaitsAt h l p q
      go none e a = absurd a
      go (some m) e a = ⊎_elim (λ b. let r = holders_against_sound 16 h p q m b in held m r.0 (λ z. r.1 (sym z)) r.3 (mode_in_sound p m l e) r.2) (λ b. let r = ahead_of_sound p q m l (mode_in_sound p m l e) b in ahead m r.0 r.1 r.2 r.3) (any_cases _ (holders_against 16 h p m) _ a)
