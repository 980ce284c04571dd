-- Messages under numbers, for any weights: while the load leaves room, a sent one adds its weight and disturbs no
-- other; one taken out takes its weight along.
use mathlib.Core.Path.{◌≡◌, refl, ap, sym, ◌∙◌}
use mathlib.Core.Logic.{◌⊎◌, inl, inr, ⊎_elim}
use mathlib.Core.Bool.{Bool}
use mathlib.Core.Option.{Option, none, some}
use mathlib.Core.List.{[], ◌∷◌}
use Prim.Native.Nat.{ℕ, zero, suc, ◌+◌, ◌≤◌, ◌<◌}
use native.Mathlib.Omega.{arith}
use native.Mathlib.Decide.{ℕ_discrete}
use Rattle.model.specs.Tables.{put, Numbered, lowest_from, lowest_free, send, InFlight}
use Rattle.model.specs.Book.{Waiter, Line, In}
use Rattle.model.specs.Board.{Message, request, grant, release, list, send_grants}
use Rattle.model.specs.Totals.{weight_of, weigh, sum_line}
use Rattle.model.proofs.Tables.{put_same, put_other, some_not_none}
use Rattle.model.proofs.Sums.{sum_le, sum_at, sum_positive, sum_below, sum_put, one, one_none}

module _ {A : Type 0} where
  lowest_from_free : (n i j : ℕ) (f : Numbered A) → i ≤ j → j < i + n → f j ≡ none → (lowest_from n i f < i + n) × (f (lowest_from n i f) ≡ none)
  unfolding lowest_from
  lowest_from_free zero i j f le lt e = absurd (omega arith)
  lowest_from_free (suc n) i j f le lt e =
      let go : (x : Option A) → f i ≡ x → (lowest_from (suc n) i f < i + suc n) × (f (lowest_from (suc n) i f) ≡ none) = elim [
        | none ↦ λ z. rw (z, lowest_from) (omega arith, z)
        | some a ↦ λ z. rw (z, lowest_from) (elim (ℕ_discrete i j) [
          | yes y ↦ absurd (some_not_none (f j) a (rw (← y) z) e)
          | no k ↦ let r = lowest_from_free n (suc i) j f (omega arith) (omega arith) e in (omega arith, r.1)
        ])
      ] in
      go (f i) refl

  pub lowest_is_free : (f : Numbered A) → weigh (λ _. 1) f < 64 → (lowest_free f < 64) × (f (lowest_free f) ≡ none)
  unfolding weigh lowest_free
  lowest_is_free f h = let p = sum_below 64 (λ i. one (f i)) h in let r = lowest_from_free 64 0 p.0 f (omega arith) (omega arith) (one_none (f p.0) p.2) in (omega arith, r.1)

  -- ---- one is sent
  module _ (f : Numbered A) (m : A) (room : weigh (λ _. 1) f < 64) where
    pub send_weigh : (w : A → ℕ) → weigh w (send m f) ≡ weigh w f + w m
    unfolding weigh send
    send_weigh w = let l = lowest_is_free f room in omega (arith, sum_put (weight_of w) f (lowest_free f) (some m) 64 l.0, ap (weight_of w) l.1)

    pub send_old : (x : A) → InFlight f x → InFlight (send m f) x
    unfolding InFlight send
    send_old x h = let l = lowest_is_free f room in (h.0, h.1, put_other f (lowest_free f) h.0 (some m) (λ z. some_not_none (f h.0) x h.2 (rw z l.1)) ∙ h.2)

    pub send_this : InFlight (send m f) m
    unfolding InFlight send
    send_this = let l = lowest_is_free f room in (lowest_free f, l.0, put_same f (lowest_free f) (lowest_free f) (some m) refl)

  pub send_new : (f : Numbered A) (m x : A) → InFlight (send m f) x → (x ≡ m) ⊎ InFlight f x
  unfolding InFlight send
  send_new f m x h = elim (ℕ_discrete h.0 (lowest_free f)) [
    | yes z ↦ let e = put_same f (lowest_free f) h.0 (some m) z in inl (cc)
    | no n ↦ inr (h.0, h.1, sym (put_other f (lowest_free f) h.0 (some m) n) ∙ h.2)
  ]

  pub send_other : (f : Numbered A) (m x : A) → (x ≡ m → ⊥) → InFlight (send m f) x → InFlight f x
  send_other f m x n h = ⊎_elim (λ e. absurd (n e)) (λ a. a) (send_new f m x h)

  -- ---- one is taken out
  module _ (f : Numbered A) (i : ℕ) (m : A) (lt : i < 64) (here : f i ≡ some m) where
    pub take_this : InFlight f m
    unfolding InFlight
    take_this = (i, lt, here)

    pub take_weigh : (w : A → ℕ) → weigh w (put f i none) + w m ≡ weigh w f
    unfolding weigh
    take_weigh w = omega (arith, sum_put (weight_of w) f i none 64 lt, ap (weight_of w) here)

    pub take_old : (x : A) → InFlight f x → (x ≡ m) ⊎ InFlight (put f i none) x
    unfolding InFlight
    take_old x h = elim (ℕ_discrete h.0 i) [
      | yes z ↦ inl (let e = h.2 in let e2 : f h.0 ≡ f i = ap f z in cc)
      | no n ↦ inr (h.0, h.1, put_other f i h.0 none n ∙ h.2)
    ]

    pub take_other : (x : A) → (x ≡ m → ⊥) → InFlight f x → InFlight (put f i none) x
    take_other x n h = ⊎_elim (λ e. absurd (n e)) (λ a. a) (take_old x h)

    pub take_new : (x : A) → InFlight (put f i none) x → InFlight f x
    unfolding InFlight
    take_new x h = elim (ℕ_discrete h.0 i) [
      | yes z ↦ absurd (some_not_none (put f i none h.0) x h.2 (put_same f i h.0 none z))
      | no n ↦ (h.0, h.1, sym (put_other f i h.0 none n) ∙ h.2)
    ]

  -- ---- weights
  pub in_flight_weigh : (w : A → ℕ) (f : Numbered A) (m : A) → InFlight f m → w m ≤ weigh w f
  unfolding InFlight weigh
  in_flight_weigh w f m h = omega (arith, sum_at 64 (λ i. weight_of w (f i)) h.0 h.1, ap (weight_of w) h.2)

  pub weigh_le : (w v : A → ℕ) (f : Numbered A) → ((m : A) → w m ≤ v m) → weigh w f ≤ weigh v f
  unfolding weigh
  weigh_le w v f h = sum_le 64 _ _ (λ i _. go (f i))
    where
      go : (x : Option A) → weight_of w x ≤ weight_of v x
      go none = omega arith
      go (some a) = h a

  pub weigh_positive : (w : A → ℕ) (f : Numbered A) → 1 ≤ weigh w f → (x : A) × InFlight f x × (1 ≤ w x)
  unfolding weigh InFlight
  weigh_positive w f h = let s = sum_positive 64 (λ i. weight_of w (f i)) h in go s.0 s.1 (f s.0) refl s.2
    where
      go : (i : ℕ) → i < 64 → (y : Option A) → f i ≡ y → 1 ≤ weight_of w y → (x : A) × InFlight f x × (1 ≤ w x)
      go i lt none e h = absurd (omega arith)
      go i lt (some x) e h = (x, (i, lt, e), h)

  -- ---- nothing is in flight
  module _ (f : Numbered A) (empty : (i : ℕ) → i < 64 → f i ≡ none) where
    pub nothing_in_flight : (x : A) → InFlight f x → ⊥
    unfolding InFlight
    nothing_in_flight x h = some_not_none (f h.0) x h.2 (empty h.0 h.1)

    pub nothing_weighs : (w : A → ℕ) → weigh w f ≡ 0
    nothing_weighs w = elim (ℕ_discrete (weigh w f) 0) [
      | yes e ↦ e
      | no n ↦ let x = weigh_positive w f (omega arith) in absurd (nothing_in_flight x.0 x.1)
    ]

-- ---- the grants of a line are sent
pub send_grants_weigh : (w : Message → ℕ) (o : ℕ) (g : Line) (f : Numbered Message) → weigh (λ _. 1) f + sum_line (λ _. 1) g ≤ 64 → weigh w (send_grants o g f) ≡ weigh w f + sum_line (λ (e : Waiter). w (grant e.who o e.mode)) g
unfolding send_grants sum_line
send_grants_weigh w o [] f h = omega arith
send_grants_weigh w o (e ∷ g) f h =
    let m : Message = grant e.who o e.mode in
    let s = send_weigh f m (omega arith) in
    omega (arith, send_grants_weigh w o g (send m f) (omega (arith, s (λ _. 1))), s w)

pub send_grants_old : (o : ℕ) (g : Line) (f : Numbered Message) (x : Message) → weigh (λ _. 1) f + sum_line (λ _. 1) g ≤ 64 → InFlight f x → InFlight (send_grants o g f) x
unfolding send_grants sum_line
send_grants_old o [] f x h y = y
send_grants_old o (e ∷ g) f x h y =
    let m : Message = grant e.who o e.mode in
    send_grants_old o g (send m f) x (omega (arith, send_weigh f m (omega arith) (λ _. 1))) (send_old f m (omega arith) x y)

abbrev pub GrantedIn : ℕ → Line → Message → Type 0
GrantedIn o g x = (p : ℕ) × (m : Bool) × In p m g × (x ≡ grant p o m)

pub send_grants_new : (o : ℕ) (g : Line) (f : Numbered Message) (x : Message) → InFlight (send_grants o g f) x → GrantedIn o g x ⊎ InFlight f x
unfolding send_grants
send_grants_new o [] f x y = inr y
send_grants_new o (e ∷ g) f x y = ⊎_elim (λ k. inl (k.0, k.1, inr k.2, k.3)) (λ k. ⊎_elim (λ z. inl (e.who, e.mode, inl (refl, refl), z)) (λ z. inr z) (send_new f _ x k)) (send_grants_new o g (send (grant e.who o e.mode) f) x y)

-- ---- messages of two kinds are two messages
abbrev pub kind : Message → ℕ
kind (request p o m) = 0
kind (grant p o m) = 1
kind (release p o) = 2
kind (list es n t) = 3

pub kinds_apart : (x y : Message) → (kind x ≡ kind y → ⊥) → x ≡ y → ⊥
kinds_apart x y n e = n (ap kind e)
