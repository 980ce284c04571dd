-- A command sends one message: a request is the one token of the wait it notes, a release keeps the hold it drops.
use mathlib.Core.Path.{◌≡◌, refl, ap, sym, ◌∙◌}
use mathlib.Core.Logic.{◌⊎◌, inl, inr, ⊎_elim}
use mathlib.Core.Bool.{Bool, true, false}
use mathlib.Core.Option.{Option, none, some}
use Prim.Native.Nat.{ℕ, ◌+◌, ◌≤◌, ◌<◌}
use native.Mathlib.Omega.{arith}
use Rattle.model.specs.Tables.{put, put_pair, send, InFlight}
use Rattle.model.specs.Board.{Wanted, wants, Message, request, release, Board, request_made, release_made}
use Rattle.model.specs.Totals.{weigh, sum_lines, total, load_of, load}
use Rattle.model.proofs.Tables.{put_same, put_other, WherePut, where_put, WherePutPair, where_put_pair, some_not_none, true_not_false}
use Rattle.model.proofs.Sums.{same, same_yes, same_no, same_pair, same_pair_yes, same_pair_no, one}
use Rattle.model.proofs.Lines.{is_who}
use Rattle.model.proofs.Flight.{send_weigh, send_new, send_other, weigh_le, kinds_apart}
use Rattle.model.proofs.Agreement.{wanted_object, token_of, keeps_hold, Agreement, load_positive}

-- a load of at most n leaves room beside n messages
pub spare : (b : Board) (n : ℕ) → load b ≤ n → weigh (λ _. 1) b.messages ≤ n
unfolding total
spare b n h = omega (arith, weigh_le (λ _. 1) load_of b.messages load_positive)

-- ---- a request is made
module _ (b : Board) (k : Agreement b) (p o : ℕ) (m : Bool) (lp : p < 16) (lo : o < 16) (idle-now : b.wait p ≡ none) (not-released : b.released p ≡ false) (unheld-now : b.hold p o ≡ none) (loaded : load b ≤ 62) where
  abbrev noted : ℕ → Option Wanted
  noted = put b.wait p (wants o m)

  room : weigh (λ _. 1) b.messages < 64
  room = omega (arith, spare b 62 loaded)

  sent : (w : Message → ℕ) → weigh w (send (request p o m) b.messages) ≡ weigh w b.messages + w (request p o m)
  sent = send_weigh b.messages (request p o m) room

  noted_before : (q u : ℕ) (n : Bool) → b.wait q ≡ wants u n → noted q ≡ wants u n
  noted_before q u n e = put_other b.wait p q (wants o m) (λ z. some_not_none (b.wait q) _ e (ap b.wait z ∙ idle-now)) ∙ e

  requests_after : (q u : ℕ) (n : Bool) → (request q u n ≡ request p o m) ⊎ InFlight b.messages (request q u n) → (noted q ≡ wants u n) × (q < 16) × (u < 16)
  requests_after q u n (inl e) =
      let e1 : q ≡ p = cc in
      let e2 : u ≡ o = cc in
      let e3 : n ≡ m = cc in
      rw (e1, e2, e3) (put_same b.wait p p (wants o m) refl, lp, lo)
  requests_after q u n (inr a) = let r = k.requests q u n a in (noted_before q u n r.0, r.1, r.2)

  unheld_after : (q u : ℕ) (n : Bool) → WherePut b.wait p (wants o m) q → noted q ≡ wants u n → b.hold q u ≡ none
  unheld_after q u n (inl v) e =
      let e2 : wants o m ≡ wants u n = sym v.1 ∙ e in
      let e3 : u ≡ o = sym (ap wanted_object e2) in
      rw (v.0, e3) unheld-now
  unheld_after q u n (inr v) e = k.unheld q u n (sym v.1 ∙ e)

  tokens_after : (q : ℕ) → WherePut b.wait p (wants o m) q → weigh (token_of q) b.messages + same p q + sum_lines (is_who q) b.line ≡ one (noted q)
  unfolding total
  tokens_after q (inl v) = omega (arith, k.tokens q, ap one v.1, same_yes p q (sym v.0), ap one (ap b.wait v.0 ∙ idle-now))
  tokens_after q (inr v) = omega (arith, k.tokens q, ap one v.1, same_no p q (λ z. v.0 (sym z)))

  pub request_made_agrees : Agreement (request_made b p o m)
  unfolding request_made total
  request_made_agrees = record {
    fit = k.fit;
    compatible = k.compatible;
    in_line = λ u q n j. let r = k.in_line u q n j in (noted_before q u n r.0, r.1);
    requests = λ q u n h. requests_after q u n (send_new b.messages (request p o m) _ h);
    grants = λ q u n h. let r = k.grants q u n (send_other b.messages (request p o m) _ (kinds_apart _ _ (omega arith)) h) in (noted_before q u n r.0, r.1);
    releases = λ q u h. k.releases q u (send_other b.messages (request p o m) _ (kinds_apart _ _ (omega arith)) h);
    idle = λ q h. put_other b.wait p q (wants o m) (λ z. true_not_false (b.released q) h (ap b.released z ∙ not-released)) ∙ k.idle q h;
    unheld = λ q u n e. unheld_after q u n (where_put b.wait p (wants o m) q) e;
    tokens = λ q. omega (arith, sent (token_of q), tokens_after q (where_put b.wait p (wants o m) q));
    kept = λ q u. omega (arith, sent (keeps_hold q u), k.kept q u);
    modes = k.modes;
    load = omega (arith, sent load_of, loaded);
  }

-- ---- a release is made
module _ (b : Board) (k : Agreement b) (p o : ℕ) (m : Bool) (lo : o < 16) (idle-now : b.wait p ≡ none) (holds : b.hold p o ≡ some m) (loaded : load b ≤ 63) where
  room_beside : weigh (λ _. 1) b.messages < 64
  room_beside = omega (arith, spare b 63 loaded)

  sent_release : (w : Message → ℕ) → weigh w (send (release p o) b.messages) ≡ weigh w b.messages + w (release p o)
  sent_release = send_weigh b.messages (release p o) room_beside

  abbrev left : ℕ → ℕ → Option Bool
  left = put_pair b.hold p o none

  releases_after : (q u : ℕ) → (release q u ≡ release p o) ⊎ InFlight b.messages (release q u) → (put b.released p true q ≡ true) × (u < 16)
  releases_after q u (inl e) =
      let e1 : q ≡ p = cc in
      let e2 : u ≡ o = cc in
      (put_same b.released p q true e1, rw e2 lo)
  releases_after q u (inr a) = let r = k.releases q u a in (⊎_elim (λ v. v.1) (λ v. v.1 ∙ r.0) (where_put b.released p true q), r.1)

  kept_after : (q u : ℕ) → WherePutPair b.hold p o none q u → one (b.holder u q) ≡ one (left q u) + (weigh (keeps_hold q u) b.messages + same_pair p o q u)
  kept_after q u (inl v) = omega (arith, k.kept q u, ap one v.2, same_pair_yes p o q u (sym v.0) (sym v.1), ap one (ap (λ (x : ℕ). b.hold x u) v.0 ∙ ap (b.hold p) v.1 ∙ holds))
  kept_after q u (inr v) = omega (arith, k.kept q u, ap one v.1, same_pair_no p o q u v.0)

  modes_after : (q u : ℕ) (n : Bool) → WherePutPair b.hold p o none q u → left q u ≡ some n → b.holder u q ≡ some n
  modes_after q u n (inl v) e = some_not_none (left q u) n e v.2
  modes_after q u n (inr v) e = k.modes q u n (sym v.1 ∙ e)

  pub release_made_agrees : Agreement (release_made b p o)
  unfolding release_made total
  release_made_agrees = record {
    fit = k.fit;
    compatible = k.compatible;
    in_line = k.in_line;
    requests = λ q u n h. k.requests q u n (send_other b.messages (release p o) _ (kinds_apart _ _ (omega arith)) h);
    grants = λ q u n h. k.grants q u n (send_other b.messages (release p o) _ (kinds_apart _ _ (omega arith)) h);
    releases = λ q u h. releases_after q u (send_new b.messages (release p o) _ h);
    idle = λ q h. ⊎_elim (λ v. ap b.wait v.0 ∙ idle-now) (λ v. k.idle q (sym v.1 ∙ h)) (where_put b.released p true q);
    unheld = λ q u n e. ⊎_elim (λ v. v.2) (λ v. v.1 ∙ k.unheld q u n e) (where_put_pair b.hold p o none q u);
    tokens = λ q. omega (arith, sent_release (token_of q), k.tokens q);
    kept = λ q u. omega (arith, sent_release (keeps_hold q u), kept_after q u (where_put_pair b.hold p o none q u));
    modes = λ q u n e. modes_after q u n (where_put_pair b.hold p o none q u) e;
    load = omega (arith, sent_release load_of, loaded);
  }
