-- A request arrives: it was the one token of its process, which therefore stands in no line and, as nobody waits for
-- what it holds, is no holder. The token becomes a grant or a place in the line.
use mathlib.Core.Path.{◌≡◌, refl, ap, sym, ◌∙◌}
use mathlib.Core.Logic.{◌⊎◌, inl, inr, ⊎_elim}
use mathlib.Core.Bool.{Bool, true}
use mathlib.Core.Option.{none, some}
use mathlib.Core.List.{List, [], ◌∷◌, ◌++◌}
use Prim.Native.Nat.{ℕ, ◌+◌, ◌≤◌, ◌<◌}
use native.Mathlib.Omega.{arith}
use native.Mathlib.Decide.{ℕ_discrete}
use Rattle.model.specs.Lists.{fresh}
use Rattle.model.specs.Tables.{put, put_pair, Numbered, send, InFlight}
use Rattle.model.specs.Book.{Waiter, standing, Line, Holders, In, waited_for, clear}
use Rattle.model.specs.Board.{wants, Message, request, grant, release, list, Board, granted, start_list, joined, without}
use Rattle.model.specs.Totals.{weigh, sum_line, sum_lines, total, load_of}
use Rattle.model.proofs.Tables.{WherePut, where_put, WherePutPair, where_put_pair, put_everywhere, some_not_none}
use Rattle.model.proofs.Sums.{same_yes, same_pair, same_pair_yes, same_pair_no, same_pair_equal, one, one_none}
use Rattle.model.proofs.Lists.{any_end}
use Rattle.model.proofs.Lines.{sum_line_append, sum_lines_put, sum_lines_in, is_who}
use Rattle.model.proofs.Flight.{send_weigh, send_new, send_other, take_this, take_weigh, take_other, take_new, in_flight_weigh, weigh_positive, kind, kinds_apart}
use Rattle.model.proofs.Book.{Fit, Compatible, below_grant, compatible_grant, fit_join}
use Rattle.model.proofs.Agreement.{token_of, keeps_hold, Agreement, no_second_token, room_left}
use Rattle.model.proofs.Agreement.Lists.{OnlyLists, only_lists_none, only_lists_send, only_lists_other}

module _ (b : Board) (k : Agreement b) (i p o : ℕ) (m : Bool) (lt : i < 64) (here : b.messages i ≡ some (request p o m)) where
  abbrev f : Numbered Message
  f = without b i

  weighs : (w : Message → ℕ) → weigh w f + w (request p o m) ≡ weigh w b.messages
  weighs = take_weigh b.messages i (request p o m) lt here

  was : (y : Message) → InFlight f y → InFlight b.messages y
  was = take_new b.messages i (request p o m) lt here

  pub room : weigh (λ _. 1) f < 64
  room = room_left b k i (request p o m) lt here

  pub known : (b.wait p ≡ wants o m) × (p < 16) × (o < 16)
  known = k.requests p o m (take_this b.messages i (request p o m) lt here)

  no_other_token : (q : ℕ) → q ≡ p → 1 ≤ weigh (token_of q) f + sum_lines (is_who q) b.line → ⊥
  no_other_token q z h = no_second_token b k i (request p o m) lt here q (same_yes p q (sym z)) h

  -- p stands in no line
  pub in_no_line : (u : ℕ) (n : Bool) → In p n (b.line u) → ⊥
  in_no_line u n j = no_other_token p refl (omega (arith, sum_lines_in (is_who p) b.line u p n (k.in_line u p n j).1 j, same_yes p p refl))

  -- no message keeps a hold of p
  keeps_nothing : (y : Message) → InFlight b.messages y → 1 ≤ keeps_hold p o y → ⊥
  keeps_nothing (request q u n) y h = omega arith
  keeps_nothing (grant q u n) y h = no_other_token p refl (omega (arith, in_flight_weigh (token_of p) f (grant q u n) (take_other b.messages i (request p o m) lt here (grant q u n) (kinds_apart _ _ (omega arith)) y), same_yes q p (same_pair_equal q u p o h).0))
  keeps_nothing (release q u) y h = some_not_none (b.wait p) _ known.0 (k.idle p (rw (same_pair_equal q u p o h).0 at (k.releases q u y).0))
  keeps_nothing (list es n t) y h = omega arith

  -- p is no holder
  no_holder : b.holder o p ≡ none
  no_holder = one_none (b.holder o p) (elim (ℕ_discrete (weigh (keeps_hold p o) b.messages) 0) [
    | yes e ↦ omega (arith, k.kept p o, ap one (k.unheld p o m known.0))
    | no n ↦ let x = weigh_positive (keeps_hold p o) b.messages (omega arith) in absurd (keeps_nothing x.0 x.1 x.2)
  ])

  -- ---- it is granted at once
  module _ (empty : b.line o ≡ []) (nobody : clear (b.holder o) p m ≡ true) where
    pub sent : (w : Message → ℕ) → weigh w (send (grant p o m) f) ≡ weigh w f + w (grant p o m)
    sent = send_weigh f (grant p o m) room

    abbrev holders : ℕ → Holders
    holders = put_pair b.holder o p (some m)

    holder_stays : (q u : ℕ) (n : Bool) → WherePutPair b.holder o p (some m) u q → (u ≡ o → q ≡ p → ⊥) → b.holder u q ≡ some n → holders u q ≡ some n
    holder_stays q u n (inl v) g e = absurd (g v.0 v.1)
    holder_stays q u n (inr v) g e = v.1 ∙ e

    grants_after : (q u : ℕ) (n : Bool) → (grant q u n ≡ grant p o m) ⊎ InFlight f (grant q u n) → (b.wait q ≡ wants u n) × (holders u q ≡ some n)
    grants_after q u n (inl e) =
        let e1 : q ≡ p = cc in
        let e2 : n ≡ m = cc in
        let e3 : u ≡ o = cc in
        rw (e1, e2, e3) (known.0, ⊎_elim (λ v. v.2) (λ v. absurd (v.0 refl refl)) (where_put_pair b.holder o p (some m) o p))
    grants_after q u n (inr a) = let g = k.grants q u n (was _ a) in (g.0, holder_stays q u n (where_put_pair b.holder o p (some m) u q) (λ _ z. no_other_token q z (omega (arith, in_flight_weigh (token_of q) f (grant q u n) a, same_yes q q refl))) g.1)

    kept_after : (q u : ℕ) → WherePutPair b.holder o p (some m) u q → one (holders u q) ≡ one (b.hold q u) + (weigh (keeps_hold q u) f + same_pair p o q u)
    kept_after q u (inl v) = omega (arith, ap one v.2, same_pair_yes p o q u (sym v.1) (sym v.0), weighs (keeps_hold q u), k.kept q u, ap one (ap (b.holder u) v.1 ∙ ap (λ (x : ℕ). b.holder x p) v.0 ∙ no_holder))
    kept_after q u (inr v) = omega (arith, ap one v.1, same_pair_no p o q u (λ y z. v.0 z y), weighs (keeps_hold q u), k.kept q u)

    pub granted_agrees : Agreement (granted b f p o m)
    unfolding granted total put_pair
    granted_agrees = record {
      fit = put_everywhere (λ u h. Fit h (b.line u)) b.holder o (put (b.holder o) p (some m)) (record { below = below_grant (b.holder o) p m known.1 (k.fit o).below; range = (k.fit o).range; apart = rw empty tt }) (λ u _. k.fit u);
      compatible = put_everywhere (λ _ h. Compatible h) b.holder o (put (b.holder o) p (some m)) (compatible_grant (b.holder o) p m (k.fit o).below nobody (k.compatible o)) (λ u _. k.compatible u);
      in_line = k.in_line;
      requests = λ q u n h. k.requests q u n (was _ (send_other f (grant p o m) _ (kinds_apart _ _ (omega arith)) h));
      grants = λ q u n h. grants_after q u n (send_new f (grant p o m) _ h);
      releases = λ q u h. k.releases q u (was _ (send_other f (grant p o m) _ (kinds_apart _ _ (omega arith)) h));
      idle = k.idle;
      unheld = k.unheld;
      tokens = λ q. omega (arith, sent (token_of q), weighs (token_of q), k.tokens q);
      kept = λ q u. omega (arith, sent (keeps_hold q u), kept_after q u (where_put_pair b.holder o p (some m) u q));
      modes = λ q u n h. holder_stays q u n (where_put_pair b.holder o p (some m) u q) (λ y z. some_not_none (b.holder u q) n (k.modes q u n h) (ap (b.holder u) z ∙ ap (λ (x : ℕ). b.holder x p) y ∙ no_holder)) (k.modes q u n h);
      load = omega (arith, sent load_of, weighs load_of, k.load);
    }

  -- ---- it joins the line
  abbrev l' : Line
  l' = b.line o ++ standing p m ∷ []

  abbrev g' : Numbered Message
  g' = start_list p (fresh (p ∷ []) (waited_for (b.holder o) l' p)) f

  starts : (qs : List ℕ) → OnlyLists f (start_list p qs f)
  starts [] = only_lists_none f
  starts (q ∷ qs) = only_lists_send f _ 1 none room

  sends : OnlyLists f g'
  sends = starts (fresh (p ∷ []) (waited_for (b.holder o) l' p))

  was_there : (y : Message) → (kind y ≡ 3 → ⊥) → InFlight g' y → InFlight b.messages y
  was_there y d h = was y (only_lists_other f g' sends y d h)

  pub lines_after : (v : Waiter → ℕ) → sum_lines v (put b.line o l') ≡ sum_lines v b.line + v (standing p m)
  unfolding sum_line
  lines_after v = omega (arith, sum_lines_put v b.line o l' known.2, sum_line_append v (b.line o) (standing p m ∷ []))

  stands_after : (u q : ℕ) (n : Bool) → WherePut b.line o l' u → In q n (put b.line o l' u) → (b.wait q ≡ wants u n) × (u < 16)
  stands_after u q n (inl v) j = ⊎_elim (λ a. rw (v.0, ← a.0, ← a.1) (known.0, known.2)) (λ a. rw v.0 (k.in_line o q n a)) (any_end _ (b.line o) (standing p m) (rw v.1 at j))
  stands_after u q n (inr v) j = k.in_line u q n (rw v.1 at j)

  pub joined_agrees : Agreement (joined b f p o m)
  unfolding joined total
  joined_agrees = record {
    fit = put_everywhere (λ u l. Fit (b.holder u) l) b.line o l' (fit_join (b.holder o) (standing p m) (b.line o) known.1 no_holder (λ n j. in_no_line o n j) (k.fit o)) (λ u _. k.fit u);
    compatible = k.compatible;
    in_line = λ u q n j. stands_after u q n (where_put b.line o l' u) j;
    requests = λ q u n h. k.requests q u n (was_there _ (omega arith) h);
    grants = λ q u n h. k.grants q u n (was_there _ (omega arith) h);
    releases = λ q u h. k.releases q u (was_there _ (omega arith) h);
    idle = k.idle;
    unheld = k.unheld;
    tokens = λ q. omega (arith, sends.weighs (token_of q) (λ _ _ _. refl), weighs (token_of q), lines_after (is_who q), k.tokens q);
    kept = λ q u. omega (arith, sends.weighs (keeps_hold q u) (λ _ _ _. refl), weighs (keeps_hold q u), k.kept q u);
    modes = k.modes;
    load = omega (arith, sends.light, weighs load_of, lines_after (λ _. 1), k.load);
  }
