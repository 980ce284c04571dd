-- A process joins: a new ring passes through it, since arcs are opened out of it only, and the list it starts has all
-- it waits for, so that list will find the ring.
use mathlib.Core.Path.{◌≡◌, refl, sym}
use mathlib.Core.Logic.{◌⊎◌, inl, inr, ⊎_elim, ◌≢◌}
use mathlib.Core.Bool.{Bool, true}
use mathlib.Core.Option.{Option, none, some}
use mathlib.Core.List.{List, [], ◌∷◌, ◌++◌, map}
use Prim.Native.Nat.{ℕ, zero, suc, ◌<◌}
use native.Mathlib.Omega.{arith}
use Rattle.model.specs.Lists.{Has, has?, fresh}
use Rattle.model.specs.Tables.{InFlight}
use Rattle.model.specs.Book.{standing, Line, WaitsAt, waited_for}
use Rattle.model.specs.Rings.{IsRing}
use Rattle.model.specs.Board.{Entry, led_by, entry_at, names, wants, request, list, Board, Waits, start_list, joined, without}
use Rattle.model.specs.Totals.{weigh}
use Rattle.model.proofs.Tables.{put_same, put_everywhere, some_not_none}
use Rattle.model.proofs.Lists.{fresh_in, fresh_all, fresh_distinct}
use Rattle.model.proofs.Flight.{send_old, send_this, send_new, take_this, take_other, take_new, kinds_apart}
use Rattle.model.proofs.Book.{Fit}
use Rattle.model.proofs.Book.Arcs.{join_keep, join_back}
use Rattle.model.proofs.Book.WaitedFor.{waits_at_range, waited_for_complete, waited_for_sound}
use Rattle.model.proofs.Rings.{Next, ring_next, ring_out, ring_map}
use Rattle.model.proofs.Agreement.{Agreement, room_left}
use Rattle.model.proofs.Search.{Underway, Listed, Covered, Search, waits_apart, waits_there, underway_keep, ring_stays, covered_keep}
use Rattle.model.proofs.Search.Entries.{longer_well_led, listed_right, starter_well_led}

module _ (b : Board) (k : Agreement b) (i p o : ℕ) (m : Bool) (lt : i < 64) (here : b.messages i ≡ some (request p o m)) (k' : Agreement (joined b (without b i) p o m)) (search : Search b) where
  abbrev b' : Board
  b' = joined b (without b i) p o m

  abbrev l' : Line
  l' = b.line o ++ standing p m ∷ []

  abbrev qs : List ℕ
  qs = fresh (p ∷ []) (waited_for (b.holder o) l' p)

  -- the list that p starts with x
  abbrev list_of : List ℕ → List Entry
  list_of x = led_by 0 p ∷ map (led_by 0) x

  room : weigh (λ _. 1) (without b i) < 64
  room = room_left b k i (request p o m) lt here

  arc_stays : (q r : ℕ) → Waits b q r → (b.released r ≡ true) ⊎ Waits b' q r
  unfolding Waits joined
  arc_stays q r w = inr (w.0, put_everywhere (λ u l. WaitsAt (b.holder u) (b.line u) q r → WaitsAt (b.holder u) l q r) b.line o l' (join_keep (b.holder o) (standing p m) q r (b.line o)) (λ u _ v. v) w.0 w.1)

  arc_before : (q r : ℕ) → Waits b' q r → (p ≡ q) ⊎ Waits b q r
  unfolding Waits joined
  arc_before q r w = ⊎_elim (λ e. inl e) (λ v. inr (w.0, v)) (put_everywhere (λ u l. WaitsAt (b.holder u) l q r → (p ≡ q) ⊎ WaitsAt (b.holder u) (b.line u) q r) b.line o l' (join_back (b.holder o) (standing p m) q r (b.line o)) (λ u _ v. inr v) w.0 w.1)

  -- what p waits for, it waits for at o
  fits : Fit (b.holder o) l'
  unfolding joined
  fits = rw (put_same b.line o o l' refl) at (k'.fit o)

  noted_wait : b.wait p ≡ wants o m
  noted_wait = (k.requests p o m (take_this b.messages i (request p o m) lt here)).0

  waits_here : (y : ℕ) → Waits b' p y → WaitsAt (b.holder o) l' p y
  unfolding joined
  waits_here y w = rw (put_same b.line o o l' refl) at (waits_there b' k' p y o m noted_wait w)

  listed : (y : ℕ) → Waits b' p y → Has y qs
  listed y w = ⊎_elim (λ x. ⊎_elim (λ e. absurd (waits_apart b' k' p y w e)) (λ x. absurd x) x) (λ x. x) (fresh_all (p ∷ []) (waited_for (b.holder o) l' p) y (waited_for_complete (b.holder o) l' p y fits (waits_here y w)))

  waited : (y : ℕ) → Has y qs → Waits b' p y
  unfolding Waits joined
  waited y h = (o, rw (put_same b.line o o l' refl) (waited_for_sound (b.holder o) l' p y (fresh_in (p ∷ []) (waited_for (b.holder o) l' p) y h).0))

  below : p < 16
  below = (k.requests p o m (take_this b.messages i (request p o m) lt here)).1

  -- ---- the lists in flight
  new_list : (q : ℕ) (qs' : List ℕ) → qs ≡ q ∷ qs' → Underway b' (list_of (q ∷ qs')) 1
  new_list q qs' e = record { first = omega arith; inside = omega arith; entries = longer_well_led (led_by 0 p ∷ []) 0 (q ∷ qs') b' (starter_well_led b' p below) (omega arith) (rw e at (fresh_distinct (p ∷ []) (waited_for (b.holder o) l' p))) new }
    where
      new : (y : ℕ) → Has y (q ∷ qs') → (Has y (names (led_by 0 p ∷ [])) → ⊥) × Waits b' p y × (y < 16)
      new y h = let w = waited y (rw e h) in ((λ z. ⊎_elim (λ x. waits_apart b' k' p y w x) (λ x. x) z), w, waits_at_range (b.holder o) l' p y fits (waits_here y w))

  lists_after : (x : List ℕ) → qs ≡ x → (es : List Entry) (n : ℕ) (t : Option ℕ) → InFlight (start_list p x (without b i)) (list es n t) → InFlight b.messages (list es n t) ⊎ Underway b' es n
  lists_after [] e es n t f = inl (take_new b.messages i _ lt here _ f)
  lists_after (q ∷ qs') e es n t f = ⊎_elim
      (λ z. let e1 : es ≡ list_of (q ∷ qs') = cc in let e2 : n ≡ 1 = cc in inr (rw (e1, e2) (new_list q qs' e)))
      (λ a. inl (take_new b.messages i _ lt here _ a)) (send_new (without b i) _ _ f)

  lists_stay : (x : List ℕ) (es : List Entry) (n : ℕ) (t : Option ℕ) → InFlight b.messages (list es n t) → InFlight (start_list p x (without b i)) (list es n t)
  lists_stay x es n t f = go x (take_other b.messages i (request p o m) lt here _ (kinds_apart _ _ (omega arith)) f)
    where
      go : (x : List ℕ) → InFlight (without b i) (list es n t) → InFlight (start_list p x (without b i)) (list es n t)
      go [] a = a
      go (q ∷ qs') a = send_old (without b i) _ room _ a

  started : (x : List ℕ) → (x ≡ []) ⊎ InFlight (start_list p x (without b i)) (list (list_of x) 1 none)
  started [] = inl refl
  started (q ∷ qs') = inr (send_this (without b i) _ room)

  -- ---- a ring through p: p waits for the next on it, so a list is started, and will find it
  through : (r : List ℕ) → IsRing (Waits b') r → Has p r → Covered b' r
  unfolding joined
  through r h j = record {
    who = p;
    member = j;
    found = ⊎_elim
        (λ e. let x = ring_out (Waits b') r p h j in absurd (nobody e x.0 (listed x.0 x.2)))
        (λ f. inr (record { entries = list_of qs; next = 1; towards = none; travels = f; starter = refl; finds = record { done = done; noted = λ o e. some_not_none none o e refl } }))
        (started qs);
  }
    where
      nobody : qs ≡ [] → (y : ℕ) → Has y qs → ⊥
      nobody e y a = rw e at a

      done : (j : ℕ) → j < 1 → (y : ℕ) → Next r (entry_at (list_of qs) j).who y → Listed (list_of qs) y × (y ≢ p)
      done zero c y n = let w = ring_next (Waits b') r p y h n in (listed_right (led_by 0 p ∷ []) 0 qs y (listed y w), λ z. waits_apart b' k' p y w (sym z))
      done (suc j) c y n = absurd (omega arith)

  pub joined_search : Search b'
  unfolding joined
  joined_search = record {
    lists = λ es n t f. ⊎_elim (λ a. underway_keep b b' k arc_stays (λ q g. g) es n (search.lists es n t a)) (λ l. l) (lists_after qs refl es n t f);
    recorded = λ s f. ring_stays b b' k arc_stays (λ q g. g) (b.place s) (search.recorded s f);
    own = search.own;
    complete = λ r h. elim (has? p r) [
      | yes j ↦ through r h j
      | no j ↦ let g = ring_map (Waits b') (Waits b) r (λ q y a w. ⊎_elim (λ e. absurd (j (rw e a))) (λ v. v) (arc_before q y w)) h in
          covered_keep b b' k arc_stays (λ q g. g) (λ q y w. refl) (lists_stay qs) refl r g (search.complete r g)
    ];
  }
