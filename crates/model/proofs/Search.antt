-- Lists and rings: the invariant of every board reached. Every arc of a list was true and is, or its target has
-- released; every ring has a member whose place is filled, or a list of a member in flight that will find it: such
-- a list cannot run out, since the ring leads from the starter through listed and done entries back to the starter.
pub mod Entries
pub mod Steps
pub mod Join
pub mod Lists
use mathlib.Core.Path.{◌≡◌, ap, sym, ◌∙◌}
use mathlib.Core.Logic.{◌⊎◌, inl, inr, ⊎_elim, ◌≢◌}
use mathlib.Core.Bool.{Bool, true}
use mathlib.Core.Option.{Option, some}
use mathlib.Core.List.{List, ◌∷◌}
use Prim.Native.Nat.{ℕ, ◌<◌}
use lib.ListN.{length}
use Rattle.model.specs.Lists.{Has}
use Rattle.model.specs.Tables.{InFlight}
use Rattle.model.specs.Book.{In, WaitsAt}
use Rattle.model.specs.Rings.{IsRing}
use Rattle.model.specs.Board.{Entry, entry_at, wants, list, Board, Waits, Filled}
use Rattle.model.proofs.Tables.{some_not_none}
use Rattle.model.proofs.Book.WaitedFor.{waits_at_in, waits_at_apart}
use Rattle.model.proofs.Rings.{Next, ring_out, ring_keep, ring_map}
use Rattle.model.proofs.Agreement.{wanted_object, Agreement}

-- the entries of a list: each later one is led by an earlier one, which waits for it unless it has released
pub record WellLed (b : Board) (es : List Entry) : Type 0 where
  pub leads : (j : ℕ) → 0 < j → j < length es → (entry_at es j).lead < j
  pub arcs : (j : ℕ) → 0 < j → j < length es → (b.released (entry_at es j).who ≡ true) ⊎ Waits b (entry_at es (entry_at es j).lead).who (entry_at es j).who
  pub different : (i j : ℕ) → i < j → j < length es → (entry_at es i).who ≢ (entry_at es j).who
  pub range : (j : ℕ) → j < length es → (entry_at es j).who < 16

-- a list in flight, whose next entry is n
pub record Underway (b : Board) (es : List Entry) (n : ℕ) : Type 0 where
  pub first : 0 < n
  pub inside : n < length es
  pub entries : WellLed b es

-- y is an entry of the list
abbrev pub Listed : List Entry → ℕ → Type 0
Listed es y = (i : ℕ) × (i < length es) × ((entry_at es i).who ≡ y)

-- The list will find the ring r: whom a done entry waits for within r is listed, and is not the starter; and if the
-- list is on its way to the object t for an entry in r, the home of that entry notes a wait for t.
pub record WillFind (b : Board) (es : List Entry) (n : ℕ) (t : Option ℕ) (r : List ℕ) : Type 0 where
  pub done : (j : ℕ) → j < n → (y : ℕ) → Next r (entry_at es j).who y → Listed es y × (y ≢ (entry_at es 0).who)
  pub noted : (o : ℕ) → t ≡ some o → Has (entry_at es n).who r → (m : Bool) × (b.wait (entry_at es n).who ≡ wants o m)

-- a list of s in flight that will find r
pub record Searching (b : Board) (r : List ℕ) (s : ℕ) : Type 0 where
  pub entries : List Entry
  pub next : ℕ
  pub towards : Option ℕ
  pub travels : InFlight b.messages (list entries next towards)
  pub starter : (entry_at entries 0).who ≡ s
  pub finds : WillFind b entries next towards r

-- some member of r has its place filled, or a list in flight that will find r
pub record Covered (b : Board) (r : List ℕ) : Type 0 where
  pub who : ℕ
  pub member : Has who r
  pub found : Filled (b.place who) ⊎ Searching b r who

pub record Search (b : Board) : Type 0 where
  -- every list in flight is led truly
  pub lists : (es : List Entry) (n : ℕ) (t : Option ℕ) → InFlight b.messages (list es n t) → Underway b es n
  -- every recorded ring is true, and begins with the process whose place it is
  pub recorded : (s : ℕ) → Filled (b.place s) → IsRing (Waits b) (b.place s)
  pub own : (s : ℕ) → Filled (b.place s) → (l : List ℕ) × (b.place s ≡ s ∷ l)
  -- no ring is missed
  pub complete : (r : List ℕ) → IsRing (Waits b) r → Covered b r

-- ---- the waits of a board
module _ (b : Board) (k : Agreement b) where
  -- who waits stands in a line, and its home notes that
  pub waits_line : (p q : ℕ) → Waits b p q → (o : ℕ) × (m : Bool) × In p m (b.line o) × (b.wait p ≡ wants o m)
  unfolding Waits
  waits_line p q w = let i = waits_at_in (b.holder w.0) (b.line w.0) p q w.1 in (w.0, i.0, i.1, (k.in_line w.0 p i.0 i.1).0)

  pub waits_idle : (p q : ℕ) → b.released p ≡ true → Waits b p q → ⊥
  waits_idle p q g w = let l = waits_line p q w in some_not_none (b.wait p) _ l.3 (k.idle p g)

  pub waits_apart : (p q : ℕ) → Waits b p q → p ≢ q
  unfolding Waits
  waits_apart p q w = waits_at_apart (b.holder w.0) (b.line w.0) p q w.1

  -- whose home notes a wait for o waits at o
  pub waits_there : (p q o : ℕ) (m : Bool) → b.wait p ≡ wants o m → Waits b p q → WaitsAt (b.holder o) (b.line o) p q
  unfolding Waits waits_line
  waits_there p q o m e w = let l = waits_line p q w in let z : l.0 ≡ o = ap wanted_object (sym l.3 ∙ e) in rw z at w.1

-- ---- a step in which an arc is lost only to a process that has released
module _ (b b' : Board) (k : Agreement b) (keep : (p q : ℕ) → Waits b p q → (b.released q ≡ true) ⊎ Waits b' p q) (released : (p : ℕ) → b.released p ≡ true → b'.released p ≡ true) where
  well_led_keep : (es : List Entry) → WellLed b es → WellLed b' es
  well_led_keep es l = record {
    leads = l.leads;
    arcs = λ j h i. ⊎_elim (λ g. inl (released _ g)) (λ w. ⊎_elim (λ g. inl (released _ g)) (λ v. inr v) (keep _ _ w)) (l.arcs j h i);
    different = l.different;
    range = l.range;
  }

  pub underway_keep : (es : List Entry) (n : ℕ) → Underway b es n → Underway b' es n
  underway_keep es n l = record { first = l.first; inside = l.inside; entries = well_led_keep es l.entries }

  pub ring_stays : (r : List ℕ) → IsRing (Waits b) r → IsRing (Waits b') r
  ring_stays = ring_keep (Waits b) (Waits b') (λ q. b.released q ≡ true) keep (waits_idle b k)

  module _ (waits : (p q : ℕ) → Waits b p q → b'.wait p ≡ b.wait p) (travels : (es : List Entry) (n : ℕ) (t : Option ℕ) → InFlight b.messages (list es n t) → InFlight b'.messages (list es n t)) (place : b'.place ≡ b.place) where
    will_find_keep : (es : List Entry) (n : ℕ) (t : Option ℕ) (r : List ℕ) → IsRing (Waits b) r → WillFind b es n t r → WillFind b' es n t r
    will_find_keep es n t r h g = record {
      done = g.done;
      noted = λ o e i. let w = g.noted o e i in let x = ring_out (Waits b) r (entry_at es n).who h i in (w.0, waits _ _ x.2 ∙ w.1);
    }

    pub covered_keep : (r : List ℕ) → IsRing (Waits b) r → Covered b r → Covered b' r
    covered_keep r h c = record {
      who = c.who;
      member = c.member;
      found = ⊎_elim (λ f. inl (rw place f)) (λ x. inr (record { entries = x.entries; next = x.next; towards = x.towards; travels = travels _ _ _ x.travels; starter = x.starter; finds = will_find_keep _ _ _ r h x.finds })) c.found;
    }

-- a step that starts no list and opens no arc
pub record Calm (b b' : Board) : Type 0 where
  pub released : (p : ℕ) → b.released p ≡ true → b'.released p ≡ true
  pub arcs : (p q : ℕ) → Waits b p q → (b.released q ≡ true) ⊎ Waits b' p q
  pub arcs_before : (p q : ℕ) → Waits b' p q → Waits b p q
  pub noted : (p q : ℕ) → Waits b p q → b'.wait p ≡ b.wait p
  pub lists : (es : List Entry) (n : ℕ) (t : Option ℕ) → InFlight b.messages (list es n t) → InFlight b'.messages (list es n t)
  pub lists_before : (es : List Entry) (n : ℕ) (t : Option ℕ) → InFlight b'.messages (list es n t) → InFlight b.messages (list es n t)
  pub place : b'.place ≡ b.place

pub search_keep : (b b' : Board) → Agreement b → Calm b b' → Search b → Search b'
search_keep b b' k c search = record {
  lists = λ es n t f. underway_keep b b' k c.arcs c.released es n (search.lists es n t (c.lists_before es n t f));
  recorded = λ s f. ring_stays b b' k c.arcs c.released (b'.place s) (rw c.place (search.recorded s (rw c.place at f)));
  own = λ s f. rw c.place (search.own s (rw c.place at f));
  complete = λ r h. let g = ring_map (Waits b') (Waits b) r (λ p q _. c.arcs_before p q) h in covered_keep b b' k c.arcs c.released c.noted c.lists c.place r g (search.complete r g);
}
