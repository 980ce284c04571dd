-- A table changed at one place is new there and as before elsewhere.
use mathlib.Core.Path.{◌≡◌, ap, sym, ◌∙◌}
use mathlib.Core.Logic.{◌⊎◌, inl, inr, ◌≢◌, if_pos, if_neg}
use mathlib.Core.Bool.{Bool, true, false}
use mathlib.Core.Option.{Option, none, some}
use Prim.Native.Nat.{ℕ}
use native.Mathlib.Omega.{arith}
use native.Mathlib.Decide.{ℕ_discrete}
use Rattle.model.specs.Tables.{put, put_pair}

module _ {A : Type 0} where
  pub put_same : (f : ℕ → A) (p q : ℕ) (x : A) → q ≡ p → put f p x q ≡ x
  unfolding put
  put_same f p q x e = if_pos (ℕ_discrete q p) e x (f q)

  pub put_other : (f : ℕ → A) (p q : ℕ) (x : A) → q ≢ p → put f p x q ≡ f q
  unfolding put
  put_other f p q x e = if_neg (ℕ_discrete q p) e x (f q)

  abbrev pub WherePut : (ℕ → A) → ℕ → A → ℕ → Type 0
  WherePut f p x q = ((q ≡ p) × (put f p x q ≡ x)) ⊎ ((q ≢ p) × (put f p x q ≡ f q))

  pub where_put : (f : ℕ → A) (p : ℕ) (x : A) (q : ℕ) → WherePut f p x q
  where_put f p x q = elim (ℕ_discrete q p) [ yes z ↦ inl (z, put_same f p q x z) | no n ↦ inr (n, put_other f p q x n) ]

module _ {A : Type 0} where
  abbrev pub WherePutPair : (ℕ → ℕ → A) → ℕ → ℕ → A → ℕ → ℕ → Type 0
  WherePutPair f p o x q u = ((q ≡ p) × (u ≡ o) × (put_pair f p o x q u ≡ x)) ⊎ ((q ≡ p → u ≡ o → ⊥) × (put_pair f p o x q u ≡ f q u))

  pub where_put_pair : (f : ℕ → ℕ → A) (p o : ℕ) (x : A) (q u : ℕ) → WherePutPair f p o x q u
  unfolding put_pair
  where_put_pair f p o x q u = go (where_put f p (put (f p) o x) q) (where_put (f p) o x u)
    where
      go : WherePut f p (put (f p) o x) q → WherePut (f p) o x u → WherePutPair f p o x q u
      go (inl a) (inl b) = inl (a.0, b.0, ap (λ (g : ℕ → A). g u) a.1 ∙ b.1)
      go (inl a) (inr b) = inr ((λ y z. b.0 z), ap (λ (g : ℕ → A). g u) a.1 ∙ b.1 ∙ ap (λ (k : ℕ). f k u) (sym a.0))
      go (inr a) b = inr ((λ y z. a.0 y), ap (λ (g : ℕ → A). g u) a.1)

-- what holds at the changed place and at the others holds everywhere; of two tables changed at one place, too
pub put_both_everywhere : {A B : Type 0} (P : ℕ → A → B → Type 0) (f : ℕ → A) (g : ℕ → B) (o : ℕ) (x : A) (y : B) → P o x y → ((u : ℕ) → u ≢ o → P u (f u) (g u)) → (u : ℕ) → P u (put f o x u) (put g o y u)
put_both_everywhere P f g o x y h k u = elim (ℕ_discrete u o) [
  | yes z ↦ rw (put_same f o u x z, put_same g o u y z, z) h
  | no n ↦ rw (put_other f o u x n, put_other g o u y n) (k u n)
]

pub put_everywhere : {A : Type 0} (P : ℕ → A → Type 0) (f : ℕ → A) (o : ℕ) (x : A) → P o x → ((u : ℕ) → u ≢ o → P u (f u)) → (u : ℕ) → P u (put f o x u)
put_everywhere P f o x h k = put_both_everywhere (λ u a _. P u a) f f o x x h k

pub some_not_none : {A X : Type 0} (x : Option A) (a : A) → x ≡ some a → x ≡ none → X
some_not_none x a t f = let z : ◌≡◌ {A = ℕ} 0 1 = cc in absurd (omega arith)

pub true_not_false : {X : Type 0} (b : Bool) → b ≡ true → b ≡ false → X
true_not_false b t f = let z : ◌≡◌ {A = ℕ} 0 1 = cc in absurd (omega arith)
