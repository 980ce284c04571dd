-- On every board reached the front of each line conflicts with a holder: a request joins an empty line only if a holder conflicts, and a
-- release grants fronts until one does.
use mathlib.Core.Path.{◌≡◌}
use mathlib.Core.Bool.{Bool, false}
use mathlib.Core.Option.{none, some}
use mathlib.Core.List.{[], ◌∷◌, ◌++◌}
use Prim.Native.Nat.{ℕ}
use Rattle.model.specs.Tables.{put, put_pair, Numbered}
use Rattle.model.specs.Book.{standing, clear, strike}
use Rattle.model.specs.Board.{Message, request, grant, release, list, Board, request_made, release_made, grant_arrives, granted, joined, release_arrives, entry_done, record_ring, act, without, deliver}
use Rattle.model.specs.Reach.{requests, releases, delivers, now, next, Reach}
use Rattle.model.proofs.Tables.{put_everywhere, put_both_everywhere}
use Rattle.model.proofs.Arrivals.{request_arrives_either, at_home_either, at_object_either}
use Rattle.model.proofs.Book.Front.{FrontBlocked, strike_blocked, join_blocked}

abbrev pub Fronts : Board → Type 0
Fronts b = (o : ℕ) → FrontBlocked (b.holder o) (b.line o)

module _ (b : Board) (f : Numbered Message) (k : Fronts b) where
  granted_fronts : (p o : ℕ) (m : Bool) → b.line o ≡ [] → Fronts (granted b f p o m)
  unfolding granted put_pair
  granted_fronts p o m e = put_everywhere (λ u h. FrontBlocked h (b.line u)) b.holder o (put (b.holder o) p (some m)) (rw e tt) (λ u _. k u)

  joined_fronts : (p o : ℕ) (m : Bool) → (b.line o ≡ [] → clear (b.holder o) p m ≡ false) → Fronts (joined b f p o m)
  unfolding joined
  joined_fronts p o m g = put_everywhere (λ u l. FrontBlocked (b.holder u) l) b.line o (b.line o ++ standing p m ∷ []) (join_blocked (b.holder o) (b.line o) p m g (k o)) (λ u _. k u)

  release_fronts : (p o : ℕ) → Fronts (release_arrives b f p o)
  unfolding release_arrives
  release_fronts p o = let s = strike (b.holder o) (b.line o) p in put_both_everywhere (λ _ h l. FrontBlocked h l) b.holder b.line o s.holders s.line (strike_blocked (b.holder o) (b.line o) p) (λ u _. k u)

  act_fronts : (x : Message) → Fronts (act b f x)
  unfolding act grant_arrives entry_done record_ring
  act_fronts (request p o m) = request_arrives_either Fronts b f p o m (λ e _. granted_fronts p o m e) (joined_fronts p o m)
  act_fronts (grant p o m) = k
  act_fronts (release p o) = release_fronts p o
  act_fronts (list es n none) = at_home_either Fronts b f es n k (λ _. k)
  act_fronts (list es n (some o)) = at_object_either Fronts b f es n o (λ _. k) k

pub reached_fronts : {b : Board} → Reach b → Fronts b
unfolding request_made release_made deliver
reached_fronts now = λ o. tt
reached_fronts (next r (requests p o m a1 a2 a3 a4 a5 a6)) = reached_fronts r
reached_fronts (next r (releases p o m a1 a2 a3 a4)) = reached_fronts r
reached_fronts (next {c = c} r (delivers i x a1 a2)) = act_fronts c (without c i) (reached_fronts r) x
