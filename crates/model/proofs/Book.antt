-- One object's book: what is known of it on every board reached, and that the test of a front is right.
pub mod Settle
pub mod Arcs
pub mod Front
pub mod WaitedFor
use mathlib.Core.Path.{◌≡◌, refl, sym, ◌∙◌}
use mathlib.Core.Logic.{inl, inr, ⊎_elim, ◌≢◌}
use mathlib.Core.Bool.{Bool, true, false}
use mathlib.Core.Option.{Option, none, some}
use mathlib.Core.List.{List, [], ◌∷◌, ◌++◌}
use Prim.Native.Nat.{ℕ, zero, suc, ◌<◌}
use native.Mathlib.Omega.{arith}
use native.Mathlib.Decide.{ℕ_discrete}
use Rattle.model.specs.Lists.{is_empty, Has}
use Rattle.model.specs.Tables.{put}
use Rattle.model.specs.Book.{Waiter, Line, Holders, conflict, In, only_if, holder_against, holders_against, clear}
use Rattle.model.proofs.Tables.{put_other, WherePut, where_put, some_not_none, true_not_false}
use Rattle.model.proofs.Lists.{any_left, any_right, any_cases, any_end}

-- ---- the holders in conflict with a mode
abbrev pub HoldsAgainst : Holders → ℕ → ℕ → Bool → Type 0
HoldsAgainst h p q m = (n : Bool) × (q ≢ p) × (h q ≡ some n) × (conflict m n ≡ true)

holder_against_sound : (h : Holders) (p q : ℕ) (m : Bool) (k : ℕ) (d : Dec (k ≡ p)) (x : Option Bool) → h k ≡ x → Has q (holder_against d x m k) → HoldsAgainst h p q m
holder_against_sound h p q m k (yes e) x hx a = absurd a
holder_against_sound h p q m k (no f) none hx a = absurd a
holder_against_sound h p q m k (no f) (some n) hx a = go (conflict m n) refl a
  where
    go : (b : Bool) → conflict m n ≡ b → Has q (only_if b k) → HoldsAgainst h p q m
    go true c (inl e) = (n, (λ z. f (e ∙ z)), rw (← e) hx, c)
    go true c (inr a) = absurd a
    go false c a = absurd a

pub holders_against_sound : (k : ℕ) (h : Holders) (p q : ℕ) (m : Bool) → Has q (holders_against k h p m) → HoldsAgainst h p q m
unfolding holders_against
holders_against_sound zero h p q m a = absurd a
holders_against_sound (suc k) h p q m a = ⊎_elim (holders_against_sound k h p q m) (holder_against_sound h p q m k (ℕ_discrete k p) (h k) refl) (any_cases _ (holders_against k h p m) _ a)

holder_against_complete : (p q : ℕ) (m n : Bool) (d : Dec (q ≡ p)) (x : Option Bool) → q ≢ p → x ≡ some n → conflict m n ≡ true → Has q (holder_against d x m q)
holder_against_complete p q m n (yes z) x ne e c = absurd (ne z)
holder_against_complete p q m n (no f) x ne e c = rw (e, c) (inl refl)

pub holders_against_complete : (k : ℕ) (h : Holders) (p q : ℕ) (m n : Bool) → q < k → q ≢ p → h q ≡ some n → conflict m n ≡ true → Has q (holders_against k h p m)
unfolding holders_against
holders_against_complete zero h p q m n lt ne e c = absurd (omega arith)
holders_against_complete (suc k) h p q m n lt ne e c = elim (ℕ_discrete k q) [
  | yes z ↦ any_right _ (holders_against k h p m) _ (rw z (holder_against_complete p q m n (ℕ_discrete q p) (h q) ne e c))
  | no f ↦ any_left _ (holders_against k h p m) _ (holders_against_complete k h p q m n (omega arith) ne e c)
]

-- ---- what is known of a book
-- holders are below 16
abbrev pub Below : Holders → Type 0
Below h = (q : ℕ) (n : Bool) → h q ≡ some n → q < 16

-- whoever stands in the line is below 16
abbrev pub Range : Line → Type 0
Range [] = Unit {0}
Range (e ∷ l) = (e.who < 16) × Range l

-- nobody stands twice in the line, and nobody in it is a holder
abbrev pub Apart : Holders → Line → Type 0
Apart h [] = Unit {0}
Apart h (e ∷ l) = (h e.who ≡ none) × ((m : Bool) → In e.who m l → ⊥) × Apart h l

pub record Fit (h : Holders) (l : Line) : Type 0 where
  pub below : Below h
  pub range : Range l
  pub apart : Apart h l

-- holders conflict with no other
unfoldable pub Compatible : Holders → Type 0
Compatible h = (p q : ℕ) (m n : Bool) → p ≢ q → h p ≡ some m → h q ≡ some n → conflict m n ≡ false

-- ---- the test of a front: who is clear conflicts with no other holder
pub clear_sound : (h : Holders) (p q : ℕ) (m n : Bool) → Below h → clear h p m ≡ true → q ≢ p → h q ≡ some n → conflict m n ≡ false
unfolding clear
clear_sound h p q m n b f ne e = go (conflict m n) refl (holders_against 16 h p m) f (holders_against_complete 16 h p q m n (b q n e) ne e)
  where
    go : (c : Bool) → conflict m n ≡ c → (l : List ℕ) → is_empty l ≡ true → (conflict m n ≡ true → Has q l) → conflict m n ≡ false
    go false e l z k = e
    go true e [] z k = absurd (k e)
    go true e (x ∷ l) z k = cc

-- and who is not conflicts with one
pub not_clear : (h : Holders) (p : ℕ) (m : Bool) → clear h p m ≡ false → (q : ℕ) × HoldsAgainst h p q m
unfolding clear
not_clear h p m f = go (holders_against 16 h p m) f (λ q. holders_against_sound 16 h p q m)
  where
    go : (l : List ℕ) → is_empty l ≡ false → ((q : ℕ) → Has q l → HoldsAgainst h p q m) → (q : ℕ) × HoldsAgainst h p q m
    go [] z k = true_not_false true refl z
    go (q ∷ l) z k = (q, k q (inl refl))

conflict_symmetric : (m n : Bool) → conflict m n ≡ conflict n m
conflict_symmetric true true = refl
conflict_symmetric true false = refl
conflict_symmetric false true = refl
conflict_symmetric false false = refl

-- ---- the holders change at one process
below_put : (h : Holders) (p : ℕ) (x : Option Bool) → ((n : Bool) → x ≡ some n → p < 16) → Below h → Below (put h p x)
below_put h p x f b q n e = ⊎_elim (λ v. rw v.0 (f n (sym v.1 ∙ e))) (λ v. b q n (sym v.1 ∙ e)) (where_put h p x q)

compatible_put : (h : Holders) (p : ℕ) (x : Option Bool) → Below h → ((m : Bool) → x ≡ some m → clear h p m ≡ true) → Compatible h → Compatible (put h p x)
unfolding Compatible
compatible_put h p x b f k a c i j ne ha hc = go (where_put h p x a) (where_put h p x c)
  where
    go : WherePut h p x a → WherePut h p x c → conflict i j ≡ false
    go (inl y) (inl z) = absurd (omega arith)
    go (inl y) (inr z) = clear_sound h p c i j b (f i (sym y.1 ∙ ha)) z.0 (sym z.1 ∙ hc)
    go (inr y) (inl z) = conflict_symmetric i j ∙ clear_sound h p a j i b (f j (sym z.1 ∙ hc)) y.0 (sym y.1 ∙ ha)
    go (inr y) (inr z) = k a c i j ne (sym y.1 ∙ ha) (sym z.1 ∙ hc)

apart_other : (h g : Holders) (l : Line) → ((q : ℕ) (m : Bool) → In q m l → h q ≡ none → g q ≡ none) → Apart h l → Apart g l
apart_other h g [] f a = tt
apart_other h g (e ∷ l) f a = (f e.who e.mode (inl (refl, refl)) a.0, a.1, apart_other h g l (λ q m i. f q m (inr i)) a.2)

-- ---- a process that is clear becomes a holder
pub below_grant : (h : Holders) (p : ℕ) (m : Bool) → p < 16 → Below h → Below (put h p (some m))
below_grant h p m lt = below_put h p (some m) (λ n e. lt)

pub compatible_grant : (h : Holders) (p : ℕ) (m : Bool) → Below h → clear h p m ≡ true → Compatible h → Compatible (put h p (some m))
compatible_grant h p m b c = compatible_put h p (some m) b (λ n e. let z : m ≡ n = cc in rw (← z) c)

pub fit_grant : (h : Holders) (e : Waiter) (l : Line) → Fit h (e ∷ l) → Fit (put h e.who (some e.mode)) l
fit_grant h e l r = record {
  below = below_grant h e.who e.mode r.range.0 r.below;
  range = r.range.1;
  apart = apart_other h (put h e.who (some e.mode)) l (λ q m i z. put_other h e.who q (some e.mode) (λ y. r.apart.1 m (rw y at i)) ∙ z) r.apart.2;
}

-- ---- a holder is struck
pub compatible_struck : (h : Holders) (p : ℕ) → Below h → Compatible h → Compatible (put h p none)
compatible_struck h p b = compatible_put h p none b (λ m e. some_not_none none m e refl)

pub fit_struck : (h : Holders) (l : Line) (s : ℕ) → Fit h l → Fit (put h s none) l
fit_struck h l s r = record {
  below = below_put h s none (λ n e. some_not_none none n e refl) r.below;
  range = r.range;
  apart = apart_other h (put h s none) l (λ q m i z. ⊎_elim (λ v. v.1) (λ v. v.1 ∙ z) (where_put h s none q)) r.apart;
}

-- ---- a process joins the line
range_join : (e : Waiter) (l : Line) → e.who < 16 → Range l → Range (l ++ e ∷ [])
range_join e [] h r = (h, tt)
range_join e (x ∷ l) h r = (r.0, range_join e l h r.1)

apart_join : (h : Holders) (e : Waiter) (l : Line) → h e.who ≡ none → ((m : Bool) → In e.who m l → ⊥) → Apart h l → Apart h (l ++ e ∷ [])
apart_join h e [] z f a = (z, (λ m i. i), tt)
apart_join h e (x ∷ l) z f a = (a.0, (λ m i. ⊎_elim (λ j. f x.mode (inl (sym j.0, refl))) (a.1 m) (any_end _ l e i)), apart_join h e l z (λ m i. f m (inr i)) a.2)

pub fit_join : (h : Holders) (e : Waiter) (l : Line) → e.who < 16 → h e.who ≡ none → ((m : Bool) → In e.who m l → ⊥) → Fit h l → Fit h (l ++ e ∷ [])
fit_join h e l lt z f r = record { below = r.below; range = range_join e l lt r.range; apart = apart_join h e l z f r.apart }
