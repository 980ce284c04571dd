-- A release arrives: it kept the hold that is struck, and each front that is granted turns its place in the line into
-- a grant, so tokens and kept holds stay as many.
use mathlib.Core.Path.{◌≡◌, refl, ap, sym, ◌∙◌}
use mathlib.Core.Logic.{◌⊎◌, inl, inr, ⊎_elim, ◌≢◌}
use mathlib.Core.Bool.{Bool, true}
use mathlib.Core.Option.{none, some}
use mathlib.Core.List.{◌++◌}
use Prim.Native.Nat.{ℕ, ◌+◌, ◌≤◌, ◌<◌}
use native.Mathlib.Omega.{arith}
use native.Mathlib.Decide.{ℕ_discrete}
use Rattle.model.specs.Tables.{put, Numbered, InFlight}
use Rattle.model.specs.Book.{Waiter, Holders, In, Settled, strike}
use Rattle.model.specs.Board.{wants, Message, grant, release, Board, send_grants, release_arrives, without}
use Rattle.model.specs.Totals.{weigh, sum_line, sum_lines, total, load_of}
use Rattle.model.proofs.Tables.{put_same, put_other, WherePut, where_put, put_both_everywhere, put_everywhere, some_not_none}
use Rattle.model.proofs.Sums.{same_pair, same_pair_left, same_pair_yes, same_pair_no, one, one_le}
use Rattle.model.proofs.Lists.{any_left, any_right}
use Rattle.model.proofs.Lines.{sum_line_append, sum_line_ext, sum_line_zero, sum_lines_put, is_who}
use Rattle.model.proofs.Flight.{take_this, take_weigh, take_new, weigh_le, send_grants_weigh, GrantedIn, send_grants_new, kinds_apart}
use Rattle.model.proofs.Book.{Fit, Compatible}
use Rattle.model.proofs.Book.Settle.{strike_split, strike_fit, strike_compatible, strike_holds, strike_count}
use Rattle.model.proofs.Agreement.{token_of, keeps_hold, Agreement, load_positive}

module _ (b : Board) (k : Agreement b) (i p o : ℕ) (lt : i < 64) (here : b.messages i ≡ some (release p o)) where
  abbrev f : Numbered Message
  f = without b i

  abbrev s : Settled
  s = strike (b.holder o) (b.line o) p

  weighs : (w : Message → ℕ) → weigh w f + w (release p o) ≡ weigh w b.messages
  weighs = take_weigh b.messages i (release p o) lt here

  was : (y : Message) → InFlight f y → InFlight b.messages y
  was = take_new b.messages i (release p o) lt here

  pub known : (b.released p ≡ true) × (o < 16)
  known = k.releases p o (take_this b.messages i (release p o) lt here)

  split : s.grants ++ s.line ≡ b.line o
  split = strike_split (b.holder o) (b.line o) p

  pub line_split : (v : Waiter → ℕ) → sum_line v (b.line o) ≡ sum_line v s.grants + sum_line v s.line
  line_split v = ap (sum_line v) (sym split) ∙ sum_line_append v s.grants s.line

  pub lines_after : (v : Waiter → ℕ) → sum_lines v (put b.line o s.line) + sum_line v (b.line o) ≡ sum_lines v b.line + sum_line v s.line
  lines_after v = sum_lines_put v b.line o s.line known.1

  pub room : weigh (λ _. 1) f + sum_line (λ _. 1) s.grants ≤ 64
  unfolding total
  room = omega (arith, line_split (λ _. 1), lines_after (λ _. 1), weigh_le (λ _. 1) load_of f load_positive, weighs load_of, k.load)

  pub sent : (w : Message → ℕ) → weigh w (send_grants o s.grants f) ≡ weigh w f + sum_line (λ e. w (grant e.who o e.mode)) s.grants
  sent w = send_grants_weigh w o s.grants f room

  stood_before : (u q : ℕ) (n : Bool) → WherePut b.line o s.line u → In q n (put b.line o s.line u) → In q n (b.line u)
  stood_before u q n (inl v) j = rw (v.0, ← split) (any_right _ s.grants s.line (rw v.1 at j))
  stood_before u q n (inr v) j = rw v.1 at j

  waiter_apart : (q u : ℕ) (n : Bool) → b.wait q ≡ wants u n → q ≢ p
  waiter_apart q u n e z = some_not_none (b.wait q) _ e (ap b.wait z ∙ k.idle p known.0)

  holder_apart : (q u : ℕ) (n : Bool) → u ≡ o → b.hold q u ≡ some n → q ≢ p
  holder_apart q u n z e y = omega (arith, k.kept q u, weighs (keeps_hold q u), same_pair_yes p o q u (sym y) (sym z), ap one e, one_le (b.holder u q))

  -- who holds and is not struck is a holder after
  stays : (q u : ℕ) (n : Bool) → (u ≡ o → q ≢ p) → b.holder u q ≡ some n → put b.holder o s.holders u q ≡ some n
  stays q u n ne e = elim (ℕ_discrete u o) [
    | yes z ↦ rw (put_same b.holder o u s.holders z) (strike_holds (b.holder o) (b.line o) p (k.fit o) q n (inl (ne z, rw (← z) e)))
    | no g ↦ rw (put_other b.holder o u s.holders g) e
  ]

  was_or_granted : (y : Message) → InFlight (send_grants o s.grants f) y → GrantedIn o s.grants y ⊎ InFlight b.messages y
  was_or_granted y h = ⊎_elim (λ a. inl a) (λ a. inr (was y a)) (send_grants_new o s.grants f y h)

  grants_after : (q u : ℕ) (n : Bool) → GrantedIn o s.grants (grant q u n) ⊎ InFlight b.messages (grant q u n) → (b.wait q ≡ wants u n) × (put b.holder o s.holders u q ≡ some n)
  grants_after q u n (inl a) =
      let e1 : q ≡ a.0 = cc a.3 in
      let e2 : n ≡ a.1 = cc a.3 in
      let e3 : u ≡ o = cc a.3 in
      rw (e1, e2, e3) ((k.in_line o a.0 a.1 (rw (← split) (any_left _ s.grants s.line a.2))).0, rw (put_same b.holder o o s.holders refl) (strike_holds (b.holder o) (b.line o) p (k.fit o) a.0 a.1 (inr a.2)))
  grants_after q u n (inr a) = let g = k.grants q u n a in (g.0, stays q u n (λ z. waiter_apart q u n g.0) g.1)

  kept_after : (q u : ℕ) → Dec (u ≡ o) → one (put b.holder o s.holders u q) ≡ one (b.hold q u) + (weigh (keeps_hold q u) f + sum_line (λ e. same_pair e.who o q u) s.grants)
  kept_after q u (yes z) = rw (put_same b.holder o u s.holders z) (⊎_elim
      (λ v. omega (arith, strike_count (b.holder o) (b.line o) p (k.fit o) q, ap one v.1, k.kept q u, weighs (keeps_hold q u), same_pair_yes p o q u (sym v.0) (sym z), one_le (b.holder u q), sum_line_ext (λ e. same_pair e.who o q u) (is_who q) s.grants (λ e. same_pair_left e.who o q u (sym z))))
      (λ v. omega (arith, strike_count (b.holder o) (b.line o) p (k.fit o) q, ap one v.1, ap one (ap (λ (w : ℕ). b.holder w q) z), k.kept q u, weighs (keeps_hold q u), same_pair_no p o q u (λ y _. v.0 y), sum_line_ext (λ e. same_pair e.who o q u) (is_who q) s.grants (λ e. same_pair_left e.who o q u (sym z))))
      (where_put (b.holder o) p none q))
  kept_after q u (no g) = omega (arith, ap one (ap (λ (h : Holders). h q) (put_other b.holder o u s.holders g)), k.kept q u, weighs (keeps_hold q u), same_pair_no p o q u (λ _ y. g y), sum_line_zero (λ e. same_pair e.who o q u) s.grants (λ e. same_pair_no e.who o q u (λ _ y. g y)))

  pub release_arrives_agrees : Agreement (release_arrives b f p o)
  unfolding release_arrives total
  release_arrives_agrees = record {
    fit = put_both_everywhere (λ _ h l. Fit h l) b.holder b.line o s.holders s.line (strike_fit (b.holder o) (b.line o) p (k.fit o)) (λ u _. k.fit u);
    compatible = put_everywhere (λ _ h. Compatible h) b.holder o s.holders (strike_compatible (b.holder o) (b.line o) p (k.fit o) (k.compatible o)) (λ u _. k.compatible u);
    in_line = λ u q n h. k.in_line u q n (stood_before u q n (where_put b.line o s.line u) h);
    requests = λ q u n h. ⊎_elim (λ a. absurd (kinds_apart _ _ (omega arith) a.3)) (k.requests q u n) (was_or_granted _ h);
    grants = λ q u n h. grants_after q u n (was_or_granted _ h);
    releases = λ q u h. ⊎_elim (λ a. absurd (kinds_apart _ _ (omega arith) a.3)) (k.releases q u) (was_or_granted _ h);
    idle = k.idle;
    unheld = k.unheld;
    tokens = λ q. omega (arith, sent (token_of q), weighs (token_of q), line_split (is_who q), lines_after (is_who q), k.tokens q);
    kept = λ q u. omega (arith, sent (keeps_hold q u), kept_after q u (ℕ_discrete u o));
    modes = λ q u n h. stays q u n (λ z. holder_apart q u n z h) (k.modes q u n h);
    load = omega (arith, sent load_of, weighs load_of, line_split (λ _. 1), lines_after (λ _. 1), k.load);
  }
