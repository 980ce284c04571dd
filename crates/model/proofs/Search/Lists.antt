-- A list arrives: a ring it records is true; those it adds are waited for; and a list that will find a ring cannot run
-- out, since from the starter the ring leads through listed and done entries, none of which waits for the starter.
use mathlib.Core.Path.{◌≡◌, refl, ap, sym, ◌∙◌}
use mathlib.Core.Logic.{◌⊎◌, inl, inr, ⊎_elim, ◌≢◌, ite}
use mathlib.Core.Bool.{Bool, true}
use mathlib.Core.Option.{Option, none, some}
use mathlib.Core.List.{List, [], ◌∷◌, ◌++◌}
use Prim.Native.Nat.{ℕ, suc, ◌≤◌, ◌<◌}
use native.Mathlib.Omega.{arith}
use native.Mathlib.Decide.{ℕ_discrete, dec_lt}
use lib.ListN.{length}
use Rattle.model.specs.Lists.{Has, has?, fresh}
use Rattle.model.specs.Tables.{Numbered, send, InFlight}
use Rattle.model.specs.Book.{mode_in, waited_for}
use Rattle.model.specs.Rings.{IsRing}
use Rattle.model.specs.Board.{Entry, entry_at, names, along_leads, Wanted, wants, Message, list, Board, Waits, Filled, with_messages, with_place, entry_done, home_says, at_home, with_ring, record_ring, added, closes, line_says, at_object, without}
use Rattle.model.specs.Totals.{weigh}
use Rattle.model.proofs.Tables.{some_not_none}
use Rattle.model.proofs.Lists.{fresh_in, fresh_all, fresh_distinct}
use Rattle.model.proofs.Flight.{send_old, send_this, send_new, take_this, take_old, take_new}
use Rattle.model.proofs.Book.WaitedFor.{waits_at_in, waits_at_range, mode_in_sound, mode_in_complete, waited_for_complete, waited_for_sound}
use Rattle.model.proofs.Rings.{Next, ring_next, ring_out, next_member, exhausted}
use Rattle.model.proofs.Rings.Leads.{leads_ring}
use Rattle.model.proofs.Places.{with_ring_fills, with_ring_all}
use Rattle.model.proofs.Agreement.{Agreement, room_left}
use Rattle.model.proofs.Search.{WellLed, Underway, Listed, WillFind, Searching, Search, waits_line, waits_idle, waits_apart, waits_there, underway_keep}
use Rattle.model.proofs.Search.Entries.{names_listed, longer, longer_length, longer_left, longer_well_led, listed_left, listed_right}

ring_filled : (W : ℕ → ℕ → Type 0) (r : List ℕ) → IsRing W r → Filled r
ring_filled W [] h = h
ring_filled W (x ∷ l) h = tt

module _ (b : Board) (k : Agreement b) (i : ℕ) (es : List Entry) (n : ℕ) (t : Option ℕ) (lt : i < 64) (here : b.messages i ≡ some (list es n t)) (search : Search b) where
  abbrev f : Numbered Message
  f = without b i

  room : weigh (λ _. 1) f < 64
  room = room_left b k i (list es n t) lt here

  known : Underway b es n
  known = search.lists es n t (take_this b.messages i _ lt here)

  -- the starter, and the process asked
  abbrev s : ℕ
  s = (entry_at es 0).who

  abbrev asked : ℕ
  asked = (entry_at es n).who

  -- ---- the board with other messages and other recorded rings
  module _ (g : Numbered Message) (pl : ℕ → List ℕ) (new : (xs : List Entry) (j : ℕ) (u : Option ℕ) → InFlight g (list xs j u) → InFlight f (list xs j u) ⊎ Underway b xs j) (kept : (x : Message) → InFlight f x → InFlight g x)
      (truth : (q : ℕ) → Filled (pl q) → IsRing (Waits b) (pl q)) (own : (q : ℕ) → Filled (pl q) → (l : List ℕ) × (pl q ≡ q ∷ l)) (stay : (q : ℕ) → Filled (b.place q) → Filled (pl q)) where
    abbrev b' : Board
    b' = with_place (with_messages b g) pl

    underway_still : (xs : List Entry) (j : ℕ) → Underway b xs j → Underway b' xs j
    unfolding Waits
    underway_still = underway_keep b b' k (λ p q w. inr w) (λ p h. h)

    finds_still : (xs : List Entry) (j : ℕ) (u : Option ℕ) (r : List ℕ) → WillFind b xs j u r → WillFind b' xs j u r
    finds_still xs j u r h = record { done = h.done; noted = h.noted }

    module _ (goes_on : (r : List ℕ) → IsRing (Waits b) r → Has s r → WillFind b es n t r → Filled (pl s) ⊎ Searching b' r s) where
      found : (r : List ℕ) (q : ℕ) → IsRing (Waits b) r → Has q r → Filled (b.place q) ⊎ Searching b r q → Filled (pl q) ⊎ Searching b' r q
      found r q h j (inl x) = inl (stay q x)
      found r q h j (inr x) = ⊎_elim this other (take_old b.messages i (list es n t) lt here _ x.travels)
        where
          this : list x.entries x.next x.towards ≡ list es n t → Filled (pl q) ⊎ Searching b' r q
          this e =
              let e1 : x.entries ≡ es = cc in
              let e2 : x.next ≡ n = cc in
              let e3 : x.towards ≡ t = cc in
              let e4 : q ≡ s = sym x.starter ∙ ap (λ (l : List Entry). (entry_at l 0).who) e1 in
              rw e4 (goes_on r h (rw e4 at j) (rw (e1, e2, e3) at x.finds))

          other : InFlight f (list x.entries x.next x.towards) → Filled (pl q) ⊎ Searching b' r q
          other a = inr (record { entries = x.entries; next = x.next; towards = x.towards; travels = kept _ a; starter = x.starter; finds = finds_still _ _ _ r x.finds })

      list_search : Search b'
      unfolding Waits
      list_search = record {
        lists = λ xs j u h. underway_still xs j (⊎_elim (λ a. search.lists xs j u (take_new b.messages i _ lt here _ a)) (λ a. a) (new xs j u h));
        recorded = truth;
        own = own;
        complete = λ r h. let c = search.complete r h in record { who = c.who; member = c.member; found = found r c.who h c.member c.found };
      }

  -- ---- a list is sent in its place, and will find what it would have found
  sent_search : (xs : List Entry) (j : ℕ) (u : Option ℕ) → Underway b xs j → (entry_at xs 0).who ≡ s → ((r : List ℕ) → IsRing (Waits b) r → WillFind b es n t r → WillFind b xs j u r) → Search (with_messages b (send (list xs j u) f))
  sent_search xs j u led begins finds = list_search (send (list xs j u) f) b.place
      (λ ys l v h. ⊎_elim (λ e. let e1 : ys ≡ xs = cc in let e2 : l ≡ j = cc in inr (rw (e1, e2) led)) (λ a. inl a) (send_new f (list xs j u) _ h))
      (send_old f (list xs j u) room) search.recorded search.own (λ q h. h)
      (λ r h m g. let w = finds r h g in inr (record { entries = xs; next = j; towards = u; travels = send_this f (list xs j u) room; starter = begins; finds = record { done = w.done; noted = w.noted } }))

  -- ---- the entry is done
  module _ (xs : List Entry) (led : WellLed b xs) (inside : n < length xs) (begins : (entry_at xs 0).who ≡ s)
      (done : (r : List ℕ) → IsRing (Waits b) r → WillFind b es n t r → (j : ℕ) → j < suc n → (y : ℕ) → Next r (entry_at xs j).who y → Listed xs y × (y ≢ s)) where
    -- had it asked every entry, the ring would never come back to the starter
    not_exhausted : (r : List ℕ) → IsRing (Waits b) r → Has s r → WillFind b es n t r → length xs ≤ suc n → ⊥
    not_exhausted r h j g le = exhausted s (Listed xs) r j (0, omega arith, begins) (λ a y nx p. done r h g p.0 (omega arith) y (rw p.2 nx))

    next_search : (d : Dec (suc n < length xs)) → Search (with_messages b (ite d (send (list xs (suc n) none) f) f))
    next_search (yes c) = sent_search xs (suc n) none (record { first = omega arith; inside = c; entries = led }) begins
        (λ r h g. record { done = λ j lt y nx. let x = done r h g j lt y nx in (x.0, λ z. x.1 (z ∙ begins)); noted = λ o e. some_not_none none o e refl })
    next_search (no c) = list_search f b.place (λ ys j u h. inl h) (λ x a. a) search.recorded search.own (λ q h. h)
        (λ r h j g. absurd (not_exhausted r h j g (omega arith)))

    entry_done_search : Search (entry_done b f xs n)
    unfolding entry_done
    entry_done_search = next_search (dec_lt (suc n) (length xs))

  -- an entry that is in no ring is done with nothing added
  skipped_search : ((r : List ℕ) → IsRing (Waits b) r → WillFind b es n t r → Has asked r → ⊥) → Search (entry_done b f es n)
  skipped_search out = entry_done_search es known.entries known.inside refl (λ r h g j lt y nx. elim (ℕ_discrete j n) [
    | yes e ↦ absurd (out r h g (next_member r asked y (rw e at nx)))
    | no c ↦ g.done j (omega arith) y nx
  ])

  -- ---- at a home
  home_search : (x : Option Wanted) → b.wait asked ≡ x → Search (home_says x b f es n)
  home_search none e = skipped_search (λ r h g j. let y = ring_out (Waits b) r asked h j in let l = waits_line b k asked y.0 y.2 in some_not_none (b.wait asked) _ l.3 e)
  home_search (some a) e = sent_search es n (some a.object) known refl (λ r h g. record { done = g.done; noted = λ o z i. (a.mode, e ∙ wants_it a o z) })
    where
      wants_it : (a : Wanted) (o : ℕ) → some a.object ≡ some o → some a ≡ wants o a.mode
      wants_it a o z = let y : a.object ≡ o = cc in rw (← y)

  pub at_home_search : Search (at_home b f es n)
  unfolding at_home
  at_home_search = home_search (b.wait asked) refl

  -- ---- at an object
  module _ (o : ℕ) (on-its-way : t ≡ some o) where
    abbrev qs : List ℕ
    qs = waited_for (b.holder o) (b.line o) asked

    abbrev unlisted : List ℕ
    unlisted = fresh (names es) qs

    absent : mode_in asked (b.line o) ≡ none → Search (entry_done b f es n)
    absent e = skipped_search (λ r h g j.
        let y = ring_out (Waits b) r asked h j in
        let w = g.noted o on-its-way j in
        let v = waits_there b k asked y.0 o w.0 w.1 y.2 in
        let l = waits_at_in (b.holder o) (b.line o) asked y.0 v in
        some_not_none (mode_in asked (b.line o)) l.0 (mode_in_complete asked l.0 (b.holder o) (b.line o) (k.fit o).apart l.1) e)

    module _ (m : Bool) (stands : mode_in asked (b.line o) ≡ some m) where
      noted_wait : b.wait asked ≡ wants o m
      noted_wait = (k.in_line o asked m (mode_in_sound asked m (b.line o) stands)).0

      waited : (y : ℕ) → Has y qs → Waits b asked y
      unfolding Waits
      waited y h = (o, waited_for_sound (b.holder o) (b.line o) asked y h)

      listed : (y : ℕ) → Waits b asked y → Has y qs
      listed y w = waited_for_complete (b.holder o) (b.line o) asked y (k.fit o) (waits_there b k asked y o m noted_wait w)

      -- ---- the starter is among them: a ring is recorded
      abbrev ring : List ℕ
      ring = along_leads n es n []

      ring_true : Has s qs → IsRing (Waits b) ring × ((l : List ℕ) × (ring ≡ s ∷ l))
      ring_true h = leads_ring (Waits b) (λ q. b.released q ≡ true) (waits_idle b k) es s refl known.entries.leads known.entries.arcs known.entries.different (λ p w. waits_apart b k p p w refl) n known.first known.inside (waited s h)

      recorded_search : Has s qs → Search (record_ring b f s ring)
      unfolding record_ring
      recorded_search h = list_search f (with_ring b.place s ring) (λ ys j u h. inl h) (λ x a. a)
          (with_ring_all b.place s ring (λ q x. IsRing (Waits b) x) search.recorded (ring_true h).0)
          (with_ring_all b.place s ring (λ q x. (l : List ℕ) × (x ≡ q ∷ l)) search.own (ring_true h).1)
          (λ q a. filled q (inr a)) (λ r _ j g. inl (filled s (inl refl)))
        where
          filled : (q : ℕ) → (q ≡ s) ⊎ Filled (b.place q) → Filled (with_ring b.place s ring q)
          filled = with_ring_fills b.place s ring (ring_filled (Waits b) ring (ring_true h).0)

      -- ---- it is not: those not yet listed are added
      newcomer : (y : ℕ) → Has y unlisted → (Has y (names es) → ⊥) × Waits b asked y × (y < 16)
      newcomer y h = let a = fresh_in (names es) qs y h in (a.1, waited y a.0, waits_at_range (b.holder o) (b.line o) asked y (k.fit o) (waited_for_sound (b.holder o) (b.line o) asked y a.0))

      done_after : (Has s qs → ⊥) → (r : List ℕ) → IsRing (Waits b) r → WillFind b es n t r → (j : ℕ) → j < suc n → (y : ℕ) → Next r (entry_at (longer es n unlisted) j).who y → Listed (longer es n unlisted) y × (y ≢ s)
      done_after c r h g j lt y nx = elim (ℕ_discrete j n) [
        | yes e ↦ let w = listed y (ring_next (Waits b) r asked y h (rw e at next_before)) in (⊎_elim (λ a. listed_left es n unlisted y (names_listed es y a)) (λ a. listed_right es n unlisted y a) (fresh_all (names es) qs y w), λ z. c (rw (← z) w))
        | no e ↦ let d = g.done j (omega arith) y next_before in (listed_left es n unlisted y d.0, d.1)
      ]
        where
          next_before : Next r (entry_at es j).who y
          next_before = rw (longer_left es n unlisted j (omega (arith, known.inside))) at nx

      added_search : (Has s qs → ⊥) → Search (entry_done b f (es ++ added es n qs) n)
      unfolding added
      added_search c = entry_done_search (longer es n unlisted) (longer_well_led es n unlisted b known.entries known.inside (fresh_distinct (names es) qs) newcomer) (omega (arith, longer_length es n unlisted, known.inside)) (ap (λ (x : Entry). x.who) (longer_left es n unlisted 0 (omega (arith, known.inside)))) (done_after c)

      closes_search : (d : Dec (Has s qs)) → Search (closes d qs b f es n)
      closes_search (yes h) = recorded_search h
      closes_search (no c) = added_search c

    object_search : (x : Option Bool) → mode_in asked (b.line o) ≡ x → Search (line_says x qs b f es n)
    object_search none e = absent e
    object_search (some m) e = closes_search m e (has? s qs)

    pub at_object_search : Search (at_object b f es n o)
    unfolding at_object
    at_object_search = object_search (mode_in asked (b.line o)) refl
