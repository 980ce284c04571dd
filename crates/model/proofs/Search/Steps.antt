-- Commands, grants and releases: no ring is opened, and an arc vanishes only when its target's release arrives.
use mathlib.Core.Path.{◌≡◌, refl, ap, sym, ◌∙◌}
use mathlib.Core.Logic.{◌⊎◌, inl, inr, ⊎_elim}
use mathlib.Core.Bool.{Bool, true}
use mathlib.Core.Option.{none, some}
use mathlib.Core.List.{[]}
use Prim.Native.Nat.{ℕ, ◌+◌, ◌≤◌, ◌<◌}
use native.Mathlib.Omega.{arith}
use Rattle.model.specs.Tables.{put, put_pair}
use Rattle.model.specs.Book.{Holders, In, WaitsAt, Settled, strike}
use Rattle.model.specs.Board.{wants, request, grant, release, Board, Waits, request_made, release_made, grant_arrives, granted, release_arrives, without}
use Rattle.model.specs.Totals.{weigh, sum_line}
use Rattle.model.proofs.Tables.{put_other, where_put, put_both_everywhere, put_everywhere, some_not_none}
use Rattle.model.proofs.Sums.{same_yes}
use Rattle.model.proofs.Lines.{sum_lines_in, is_who}
use Rattle.model.proofs.Flight.{send_old, send_other, take_this, take_other, take_new, send_grants_old, send_grants_new, kinds_apart}
use Rattle.model.proofs.Book.Arcs.{strike_keep, strike_back}
use Rattle.model.proofs.Book.WaitedFor.{waits_at_in}
use Rattle.model.proofs.Agreement.{Agreement, no_second_token, room_left}
use Rattle.model.proofs.Search.{Search, waits_line, search_keep}

-- ---- a request is made
pub request_made_search : (b : Board) (k : Agreement b) (p o : ℕ) (m : Bool) → b.wait p ≡ none → weigh (λ _. 1) b.messages < 64 → Search b → Search (request_made b p o m)
unfolding request_made Waits
request_made_search b k p o m e room = search_keep b (request_made b p o m) k (record {
  released = λ q g. g;
  arcs = λ q r w. inr w;
  arcs_before = λ q r w. w;
  noted = λ q r w. let l = waits_line b k q r w in put_other b.wait p q (wants o m) (λ z. some_not_none (b.wait q) _ l.3 (ap b.wait z ∙ e));
  lists = λ es n t. send_old b.messages (request p o m) room _;
  lists_before = λ es n t. send_other b.messages (request p o m) _ (kinds_apart _ _ (omega arith));
  place = refl;
})

-- ---- a release is made
pub release_made_search : (b : Board) (k : Agreement b) (p o : ℕ) → weigh (λ _. 1) b.messages < 64 → Search b → Search (release_made b p o)
unfolding release_made Waits
release_made_search b k p o room = search_keep b (release_made b p o) k (record {
  released = λ q g. ⊎_elim (λ v. v.1) (λ v. v.1 ∙ g) (where_put b.released p true q);
  arcs = λ q r w. inr w;
  arcs_before = λ q r w. w;
  noted = λ q r w. refl;
  lists = λ es n t. send_old b.messages (release p o) room _;
  lists_before = λ es n t. send_other b.messages (release p o) _ (kinds_apart _ _ (omega arith));
  place = refl;
})

-- ---- a grant arrives: its process had no other token, so it stood in no line
pub grant_arrives_search : (b : Board) (k : Agreement b) (i p o : ℕ) (m : Bool) (lt : i < 64) (here : b.messages i ≡ some (grant p o m)) → Search b → Search (grant_arrives b (without b i) p o m)
unfolding grant_arrives Waits
grant_arrives_search b k i p o m lt here = search_keep b (grant_arrives b (without b i) p o m) k (record {
  released = λ q g. g;
  arcs = λ q r w. inr w;
  arcs_before = λ q r w. w;
  noted = λ q r w. put_other b.wait p q none (λ z. let l = waits_line b k q r w in no_second_token b k i (grant p o m) lt here q (same_yes p q (sym z)) (omega (arith, sum_lines_in (is_who q) b.line l.0 q l.1 (k.in_line l.0 q l.1 l.2).1 l.2, same_yes q q refl)));
  lists = λ es n t. take_other b.messages i (grant p o m) lt here _ (kinds_apart _ _ (omega arith));
  lists_before = λ es n t. take_new b.messages i (grant p o m) lt here _;
  place = refl;
})

-- ---- a request arrives and is granted at once: nobody stands in that line, so nobody waits there
pub granted_search : (b : Board) (k : Agreement b) (i p o : ℕ) (m : Bool) (lt : i < 64) (here : b.messages i ≡ some (request p o m)) → b.line o ≡ [] → Search b → Search (granted b (without b i) p o m)
unfolding granted Waits put_pair
granted_search b k i p o m lt here empty = search_keep b (granted b (without b i) p o m) k (record {
  released = λ q g. g;
  arcs = λ q r w. inr (w.0, put_everywhere (λ u h. WaitsAt (b.holder u) (b.line u) q r → WaitsAt h (b.line u) q r) b.holder o (put (b.holder o) p (some m)) (λ v. nobody_waits (b.holder o) q r v) (λ u _ v. v) w.0 w.1);
  arcs_before = λ q r w. (w.0, put_everywhere (λ u h. WaitsAt h (b.line u) q r → WaitsAt (b.holder u) (b.line u) q r) b.holder o (put (b.holder o) p (some m)) (λ v. nobody_waits (put (b.holder o) p (some m)) q r v) (λ u _ v. v) w.0 w.1);
  noted = λ q r w. refl;
  lists = λ es n t f. send_old (without b i) (grant p o m) (room_left b k i (request p o m) lt here) _ (take_other b.messages i (request p o m) lt here _ (kinds_apart _ _ (omega arith)) f);
  lists_before = λ es n t f. take_new b.messages i (request p o m) lt here _ (send_other (without b i) (grant p o m) _ (kinds_apart _ _ (omega arith)) f);
  place = refl;
})
  where
    nobody : (q : ℕ) (n : Bool) → In q n (b.line o) → ⊥
    nobody q n j = rw empty at j

    nobody_waits : {X : Type 0} (h : Holders) (q r : ℕ) → WaitsAt h (b.line o) q r → X
    nobody_waits h q r w = let j = waits_at_in h (b.line o) q r w in absurd (nobody q j.0 j.1)

-- ---- a release arrives: arcs into its process vanish, and it has released
pub release_arrives_search : (b : Board) (k : Agreement b) (i p o : ℕ) (lt : i < 64) (here : b.messages i ≡ some (release p o)) → weigh (λ _. 1) (without b i) + sum_line (λ _. 1) (strike (b.holder o) (b.line o) p).grants ≤ 64 → Search b → Search (release_arrives b (without b i) p o)
unfolding release_arrives Waits
release_arrives_search b k i p o lt here room = search_keep b (release_arrives b (without b i) p o) k (record {
  released = λ q g. g;
  arcs = λ q r w. ⊎_elim (λ g. inl g) (λ v. inr (w.0, v)) (put_both_everywhere (λ u h l. WaitsAt (b.holder u) (b.line u) q r → (b.released r ≡ true) ⊎ WaitsAt h l q r) b.holder b.line o s.holders s.line
      (λ v. ⊎_elim (λ z. inl (rw z has_released)) (λ x. inr x) (strike_keep (b.holder o) (b.line o) p q r (k.fit o) v)) (λ u _ v. inr v) w.0 w.1);
  arcs_before = λ q r w. (w.0, put_both_everywhere (λ u h l. WaitsAt h l q r → WaitsAt (b.holder u) (b.line u) q r) b.holder b.line o s.holders s.line (strike_back (b.holder o) (b.line o) p q r) (λ u _ v. v) w.0 w.1);
  noted = λ q r w. refl;
  lists = λ es n t f. send_grants_old o s.grants (without b i) _ room (take_other b.messages i (release p o) lt here _ (kinds_apart _ _ (omega arith)) f);
  lists_before = λ es n t f. ⊎_elim (λ a. absurd (kinds_apart _ _ (omega arith) a.3)) (take_new b.messages i (release p o) lt here _) (send_grants_new o s.grants (without b i) _ f);
  place = refl;
})
  where
    s : Settled
    s = strike (b.holder o) (b.line o) p

    has_released : b.released p ≡ true
    has_released = (k.releases p o (take_this b.messages i (release p o) lt here)).0
