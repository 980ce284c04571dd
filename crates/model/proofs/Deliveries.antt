-- Each delivery keeps both invariants and lowers the measure: a message is taken out, and what it sends weighs less.
use mathlib.Core.Path.{◌≡◌, refl}
use mathlib.Core.Logic.{ite}
use mathlib.Core.Bool.{Bool, true}
use mathlib.Core.Option.{Option, none, some}
use mathlib.Core.List.{List, [], ◌∷◌, ◌++◌, map}
use Prim.Native.Nat.{ℕ, suc, ◌+◌, ◌*◌, ◌-◌, ◌≤◌, ◌<◌}
use native.Mathlib.Omega.{arith}
use native.Mathlib.Decide.{dec_lt}
use lib.ListN.{length}
use Rattle.model.specs.Lists.{fresh}
use Rattle.model.specs.Tables.{Numbered, send}
use Rattle.model.specs.Book.{standing, waited_for, clear}
use Rattle.model.specs.Board.{Entry, led_by, entry_at, along_leads, Message, request, grant, release, list, Board, grant_arrives, granted, start_list, joined, request_arrives, release_arrives, entry_done, at_home, with_ring, record_ring, at_object, act, without, deliver}
use Rattle.model.specs.Totals.{weigh, total}
use Rattle.model.proofs.Flight.{send_weigh, take_this, take_weigh}
use Rattle.model.proofs.Arrivals.{request_arrives_either, at_home_either, at_object_either}
use Rattle.model.proofs.Agreement.{Agreement, room_left}
use Rattle.model.proofs.Agreement.Grant.{grant_arrives_agrees}
use Rattle.model.proofs.Agreement.Lists.{OnlyLists, only_lists_none, only_lists_send, list_agrees}
use Rattle.model.proofs.Agreement.Request.{granted_agrees, joined_agrees}
use Rattle.model.proofs.Agreement.Release.{release_arrives_agrees}
use Rattle.model.proofs.Search.{Search}
use Rattle.model.proofs.Search.Entries.{well_led_short}
use Rattle.model.proofs.Search.Steps.{grant_arrives_search, granted_search, release_arrives_search}
use Rattle.model.proofs.Search.Join.{joined_search}
use Rattle.model.proofs.Search.Lists.{at_home_search, at_object_search}
use Rattle.model.proofs.Measure.{measure_of, measure}
use Rattle.model.proofs.Agreement.Request
use Rattle.model.proofs.Agreement.Release

abbrev pub Invariant : Board → Type 0
Invariant b = Agreement b × Search b

-- what one delivery does
pub record Progress (b c : Board) : Type 0 where
  pub invariant : Invariant c
  pub less : measure c < measure b

module _ (b : Board) (k : Agreement b) (search : Search b) (i : ℕ) (lt : i < 64) where
  abbrev f : Numbered Message
  f = without b i

  -- ---- a grant, a release, a request
  grant_arrives_progress : (p o : ℕ) (m : Bool) → b.messages i ≡ some (grant p o m) → Progress b (grant_arrives b f p o m)
  unfolding grant_arrives total
  grant_arrives_progress p o m here = record { invariant = (grant_arrives_agrees b k i p o m lt here, grant_arrives_search b k i p o m lt here search); less = less }
    where
      less : measure (grant_arrives b f p o m) < measure b
      less = omega (arith, take_weigh b.messages i (grant p o m) lt here measure_of)

  release_arrives_progress : (p o : ℕ) → b.messages i ≡ some (release p o) → Progress b (release_arrives b f p o)
  unfolding release_arrives total
  release_arrives_progress p o here = record { invariant = (release_arrives_agrees b k i p o lt here, release_arrives_search b k i p o lt here (Release.room b k i p o lt here) search); less = less }
    where
      less : measure (release_arrives b f p o) < measure b
      less = omega (arith, Release.sent b k i p o lt here measure_of, take_weigh b.messages i (release p o) lt here measure_of, Release.line_split b k i p o lt here (λ _. 1), Release.lines_after b k i p o lt here (λ _. 1))

  granted_progress : (p o : ℕ) (m : Bool) → b.messages i ≡ some (request p o m) → b.line o ≡ [] → clear (b.holder o) p m ≡ true → Progress b (granted b f p o m)
  unfolding granted total
  granted_progress p o m here e c = record { invariant = (granted_agrees b k i p o m lt here e c, granted_search b k i p o m lt here e search); less = less }
    where
      less : measure (granted b f p o m) < measure b
      less = omega (arith, Request.sent b k i p o m lt here e c measure_of, take_weigh b.messages i (request p o m) lt here measure_of)

  start_list_less : (p : ℕ) (qs : List ℕ) → weigh (λ _. 1) f < 64 → weigh measure_of (start_list p qs f) ≤ weigh measure_of f + 30
  start_list_less p [] room = omega arith
  start_list_less p (q ∷ qs) room = omega (arith, send_weigh f (list (led_by 0 p ∷ map (led_by 0) (q ∷ qs)) 1 none) room measure_of)

  joined_progress : (p o : ℕ) (m : Bool) → b.messages i ≡ some (request p o m) → Progress b (joined b f p o m)
  unfolding joined total
  joined_progress p o m here = record { invariant = (agreement, joined_search b k i p o m lt here agreement search); less = less }
    where
      agreement : Agreement (joined b f p o m)
      agreement = joined_agrees b k i p o m lt here

      less : measure (joined b f p o m) < measure b
      less = omega (arith, start_list_less p (fresh (p ∷ []) (waited_for (b.holder o) (b.line o ++ standing p m ∷ []) p)) (room_left b k i (request p o m) lt here), take_weigh b.messages i (request p o m) lt here measure_of, Request.lines_after b k i p o m lt here (λ _. 1))

  request_arrives_progress : (p o : ℕ) (m : Bool) → b.messages i ≡ some (request p o m) → Progress b (request_arrives b f p o m)
  request_arrives_progress p o m here = request_arrives_either (Progress b) b f p o m (granted_progress p o m here) (λ _. joined_progress p o m here)

  -- ---- a list: it goes on by one place, to a home or to an object, or ends
  module _ (es : List Entry) (n : ℕ) (t : Option ℕ) (here : b.messages i ≡ some (list es n t)) where
    room : weigh (λ _. 1) f < 64
    room = room_left b k i (list es n t) lt here

    next_below : n < 16
    next_below = let l = search.lists es n t (take_this b.messages i _ lt here) in omega (arith, l.inside, well_led_short b es l.entries)

    only_lists_entry_done : (xs : List Entry) (d : Dec (suc n < length xs)) → OnlyLists f (ite d (send (list xs (suc n) none) f) f)
    only_lists_entry_done xs (yes c) = only_lists_send f xs (suc n) none room
    only_lists_entry_done xs (no c) = only_lists_none f

    entry_done_less : (xs : List Entry) (d : Dec (suc n < length xs)) → weigh measure_of (ite d (send (list xs (suc n) none) f) f) ≤ weigh measure_of f + 2 * (15 - n)
    entry_done_less xs (yes c) = omega (arith, send_weigh f (list xs (suc n) none) room measure_of, next_below)
    entry_done_less xs (no c) = omega arith

    -- it weighed more than at its next entry's home
    heavy : (t : Option ℕ) → 2 * (15 - n) + 1 ≤ measure_of (list es n t)
    heavy none = omega (arith, next_below)
    heavy (some o) = omega (arith, next_below)

    abbrev Lowers : Board → Type 0
    Lowers b' = Agreement b' × (measure b' < measure b)

    entry_done_lowers : (xs : List Entry) → Lowers (entry_done b f xs n)
    unfolding entry_done total
    entry_done_lowers xs = (
      list_agrees b k i es n t lt here (ite (dec_lt (suc n) (length xs)) (send (list xs (suc n) none) f) f) b.place (only_lists_entry_done xs (dec_lt (suc n) (length xs))),
      omega (arith, entry_done_less xs (dec_lt (suc n) (length xs)), take_weigh b.messages i (list es n t) lt here measure_of, heavy t),
    )

    recorded_lowers : (s : ℕ) (r : List ℕ) → Lowers (record_ring b f s r)
    unfolding record_ring total
    recorded_lowers s r = (list_agrees b k i es n t lt here f (with_ring b.place s r) (only_lists_none f), omega (arith, take_weigh b.messages i (list es n t) lt here measure_of, heavy t))

    at_object_lowers : (o : ℕ) → Lowers (at_object b f es n o)
    at_object_lowers o = at_object_either Lowers b f es n o entry_done_lowers (recorded_lowers (entry_at es 0).who (along_leads n es n []))

  at_home_lowers : (es : List Entry) (n : ℕ) (here : b.messages i ≡ some (list es n none)) → Lowers es n none here (at_home b f es n)
  unfolding total
  at_home_lowers es n here = at_home_either (Lowers es n none here) b f es n (entry_done_lowers es n none here es) (λ a. (
    list_agrees b k i es n none lt here (send (list es n (some a.object)) f) b.place (only_lists_send f es n (some a.object) (room es n none here)),
    omega (arith, send_weigh f (list es n (some a.object)) (room es n none here) measure_of, take_weigh b.messages i (list es n none) lt here measure_of, next_below es n none here),
  ))

  -- ---- any message
  pub delivery_progress : (m : Message) → b.messages i ≡ some m → Progress b (deliver b i m)
  unfolding deliver act
  delivery_progress (request p o m) here = request_arrives_progress p o m here
  delivery_progress (grant p o m) here = grant_arrives_progress p o m here
  delivery_progress (release p o) here = release_arrives_progress p o here
  delivery_progress (list es n none) here = let h = at_home_lowers es n here in record { invariant = (h.0, at_home_search b k i es n none lt here search); less = h.1 }
  delivery_progress (list es n (some o)) here = let h = at_object_lowers es n (some o) here o in record { invariant = (h.0, at_object_search b k i es n (some o) lt here search o refl); less = h.1 }
