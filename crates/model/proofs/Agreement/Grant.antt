-- A grant arrives: it was the one token of its process, whose wait ends; the hold that it kept is now noted at home.
use mathlib.Core.Path.{◌≡◌, refl, ap, sym, ◌∙◌}
use mathlib.Core.Logic.{inl, inr, ⊎_elim}
use mathlib.Core.Bool.{Bool}
use mathlib.Core.Option.{none, some}
use Prim.Native.Nat.{ℕ, ◌+◌, ◌≤◌, ◌<◌}
use native.Mathlib.Omega.{arith}
use Rattle.model.specs.Tables.{put, put_pair, Numbered, InFlight}
use Rattle.model.specs.Board.{wants, Message, grant, Board, grant_arrives, without}
use Rattle.model.specs.Totals.{weigh, sum_lines, total, load_of}
use Rattle.model.proofs.Tables.{put_other, WherePut, where_put, WherePutPair, where_put_pair, some_not_none}
use Rattle.model.proofs.Sums.{same_yes, same_no, same_pair_yes, same_pair_no, one, one_le}
use Rattle.model.proofs.Lines.{sum_lines_in, is_who}
use Rattle.model.proofs.Flight.{take_this, take_weigh, take_new, in_flight_weigh}
use Rattle.model.proofs.Agreement.{token_of, keeps_hold, Agreement, no_second_token}

module _ (b : Board) (k : Agreement b) (i p o : ℕ) (m : Bool) (lt : i < 64) (here : b.messages i ≡ some (grant p o m)) where
  abbrev f : Numbered Message
  f = without b i

  weighs : (w : Message → ℕ) → weigh w f + w (grant p o m) ≡ weigh w b.messages
  weighs = take_weigh b.messages i (grant p o m) lt here

  was : (y : Message) → InFlight f y → InFlight b.messages y
  was = take_new b.messages i (grant p o m) lt here

  -- who has another token is another process
  wait_stays : (q : ℕ) → 1 ≤ weigh (token_of q) f + sum_lines (is_who q) b.line → put b.wait p none q ≡ b.wait q
  wait_stays q h = put_other b.wait p q none (λ z. no_second_token b k i (grant p o m) lt here q (same_yes p q (sym z)) h)

  tokens_after : (q : ℕ) → WherePut b.wait p none q → weigh (token_of q) f + sum_lines (is_who q) b.line ≡ one (put b.wait p none q)
  unfolding total
  tokens_after q (inl v) = omega (arith, weighs (token_of q), k.tokens q, same_yes p q (sym v.0), ap one v.1, one_le (b.wait q))
  tokens_after q (inr v) = omega (arith, weighs (token_of q), k.tokens q, same_no p q (λ z. v.0 (sym z)), ap one v.1)

  kept_after : (q u : ℕ) → WherePutPair b.hold p o (some m) q u → one (b.holder u q) ≡ one (put_pair b.hold p o (some m) q u) + weigh (keeps_hold q u) f
  kept_after q u (inl v) = omega (arith, weighs (keeps_hold q u), k.kept q u, same_pair_yes p o q u (sym v.0) (sym v.1), ap one v.2, one_le (b.holder u q))
  kept_after q u (inr v) = omega (arith, weighs (keeps_hold q u), k.kept q u, same_pair_no p o q u v.0, ap one v.1)

  modes_after : (q u : ℕ) (n : Bool) → WherePutPair b.hold p o (some m) q u → put_pair b.hold p o (some m) q u ≡ some n → b.holder u q ≡ some n
  modes_after q u n (inl v) h = let r = k.grants p o m (take_this b.messages i (grant p o m) lt here) in rw (v.0, v.1) (r.1 ∙ sym v.2 ∙ h)
  modes_after q u n (inr v) h = k.modes q u n (sym v.1 ∙ h)

  unheld_after : (q u : ℕ) (n : Bool) → WherePut b.wait p none q → WherePutPair b.hold p o (some m) q u → put b.wait p none q ≡ wants u n → put_pair b.hold p o (some m) q u ≡ none
  unheld_after q u n (inl v) w e = some_not_none (put b.wait p none q) _ e v.1
  unheld_after q u n (inr v) (inl w) e = absurd (v.0 w.0)
  unheld_after q u n (inr v) (inr w) e = w.1 ∙ k.unheld q u n (sym v.1 ∙ e)

  pub grant_arrives_agrees : Agreement (grant_arrives b f p o m)
  unfolding grant_arrives total
  grant_arrives_agrees = record {
    fit = k.fit;
    compatible = k.compatible;
    in_line = λ u q n h. let r = k.in_line u q n h in (wait_stays q (omega (arith, sum_lines_in (is_who q) b.line u q n r.1 h, same_yes q q refl)) ∙ r.0, r.1);
    requests = λ q u n h. let r = k.requests q u n (was _ h) in (wait_stays q (omega (arith, in_flight_weigh (token_of q) f _ h, same_yes q q refl)) ∙ r.0, r.1, r.2);
    grants = λ q u n h. let r = k.grants q u n (was _ h) in (wait_stays q (omega (arith, in_flight_weigh (token_of q) f _ h, same_yes q q refl)) ∙ r.0, r.1);
    releases = λ q u h. k.releases q u (was _ h);
    idle = λ q h. ⊎_elim (λ v. v.1) (λ v. v.1 ∙ k.idle q h) (where_put b.wait p none q);
    unheld = λ q u n e. unheld_after q u n (where_put b.wait p none q) (where_put_pair b.hold p o (some m) q u) e;
    tokens = λ q. tokens_after q (where_put b.wait p none q);
    kept = λ q u. kept_after q u (where_put_pair b.hold p o (some m) q u);
    modes = λ q u n h. modes_after q u n (where_put_pair b.hold p o (some m) q u) h;
    load = omega (arith, weighs load_of, k.load);
  }
