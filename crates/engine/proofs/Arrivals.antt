-- What a delivery makes, by the kind of the message, on the board whose number is freed: what the handlers hand back is what the rules say.
use mathlib.Core.Path.{◌≡◌, refl, sym, ap, ◌∙◌}
use mathlib.Core.Logic.{◌≢◌}
use mathlib.Core.Bool.{Bool, true, false, ◌&&◌}
use mathlib.Core.List.{List}
use Prim.Native.Nat.{ℕ, ◌+◌}
use native.Mathlib.Omega.{arith}
use borrow.Author.Tests.{ne_eqb}
use lib.Dec.{ltb}
use lib.ListN.{length}
use Rattle.rules.specs.declared.Mode.{Mode}
use Rattle.rules.specs.declared.Wait.{Wait}
use Rattle.rules.specs.declared.Wait.TheVariants.{NotWaiting, Waiting}
use Rattle.rules.specs.declared.Kind.TheVariants.{Free, Request, Grant, Release, ListToHome, ListToObject}
use Rattle.rules.specs.declared.Entries.{Entries}
use Rattle.rules.specs.declared.Message.{Message}
use Rattle.rules.specs.declared.Process.{Process}
use Rattle.rules.specs.declared.Object.{Object}
use Rattle.rules.specs.declared.Ring.{Ring}
use Rattle.rules.specs.declared.Board.{Board}
use Rattle.rules.specs.Tables.{pick, among}
use Rattle.rules.specs.Book.{place_in, waited_for, held, joined, welcome, struck, settled, release_arrives}
use Rattle.rules.specs.Home.{granted}
use Rattle.rules.specs.Lists.{no_entries, nothing, to_home, starter, starter_of, asked_of, add_all, with_next, started, list_at_home, list_at_object, looking, along_leads, ring_of, no_ring, keeping, request_arrives, entry_done}
use Rattle.rules.specs.Board.{process_at, object_at, kind_at, list_at, ring_at, put_process, put_object, put_ring, freed, send, send_grants}
use Rattle.rules.specs.Commands.{recording, delivered}
use Rattle.rules.proofs.Tables.{true_not_false}
use Rattle.rules.proofs.Lists.{add_all_grown, started_next, along_some}
use Rattle.lists.specs.declared.Leg.{Leg}
use Rattle.lists.specs.Onwards.{asks_next, onward, closes, asked_waits_for, grown}
use Rattle.objects.specs.Fronts.{let_in}

-- ---- a list that is sent where it has an entry to ask
abbrev pub asking : Entries → Message
asking l = record { kind = asks_next l.next l.count; list = l }

asks : (y : Board) (l : Entries) → send y (asking l) ≡ send y (pick (ltb l.next l.count) (to_home l) nothing)
unfolding send
asks y l = go (ltb l.next l.count)
  where
    go : (t : Bool) → send y (record { kind = pick t ListToHome Free; list = l }) ≡ send y (pick t (to_home l) nothing)
    go true = refl
    go false = refl

asks_started : (y : Board) (p : ℕ) (qs : List ℕ) → send y (asking (add_all (starter p) 0 qs)) ≡ send y (started p qs)
unfolding started
asks_started y p qs = asks y (add_all (starter p) 0 qs) ∙ rw (started_next p qs)

asks_done : (y : Board) (l : Entries) → send y (asking (with_next l (l.next + 1))) ≡ send y (entry_done l)
unfolding entry_done
asks_done y l = asks y (with_next l (l.next + 1))

-- at a home it is written again with the entry asked next
moves_on : (y : Board) (l : Entries) (w : Wait) → send y (record { kind = (onward l.next l.count w).kind; list = with_next l (onward l.next l.count w).next }) ≡ send y (list_at_home l w)
unfolding entry_done send
moves_on y l (Waiting o m) = refl
moves_on y l NotWaiting = go (ltb (l.next + 1) l.count)
  where
    go : (t : Bool) → send y (record { kind = pick t ListToHome Free; list = with_next l (pick t (l.next + 1) 0) }) ≡ send y (pick t (to_home (with_next l (l.next + 1))) nothing)
    go true = refl
    go false = refl

-- ---- a list at an object, where the process asked next stands at its place of the line
module _ (l : Entries) (o : Object) where
  abbrev place : ℕ
  place = place_in o (asked_of l)

  abbrev waited : List ℕ
  waited = asked_waits_for l o place

  -- the list, with those waited for where the process stands in the line
  abbrev fuller : Bool → Entries
  fuller t = pick t (add_all l l.next waited) l

  looked_ring : closes l o place ≡ true → list_at_object l o ≡ record { sent = nothing; ring = ring_of (along_leads l.next l l.next) }
  unfolding list_at_object
  looked_ring = go (ltb place o.line_count) (among (starter_of l) waited)
    where
      go : (t u : Bool) → (t && u) ≡ true → pick t (looking u l waited) (record { sent = entry_done l; ring = no_ring }) ≡ record { sent = nothing; ring = ring_of (along_leads l.next l l.next) }
      go true true z = refl
      go true false z = absurd (true_not_false (sym z))
      go false u z = absurd (true_not_false (sym z))

  looked_past : closes l o place ≡ false → list_at_object l o ≡ record { sent = entry_done (fuller (ltb place o.line_count)); ring = no_ring }
  unfolding list_at_object
  looked_past = go (ltb place o.line_count) (among (starter_of l) waited)
    where
      go : (t u : Bool) → (t && u) ≡ false → pick t (looking u l waited) (record { sent = entry_done l; ring = no_ring }) ≡ record { sent = entry_done (fuller t); ring = no_ring }
      go true true z = absurd (true_not_false z)
      go true false z = refl
      go false u z = refl

  asks_grown : (y : Board) → send y (asking (grown l o place)) ≡ send y (entry_done (fuller (ltb place o.line_count)))
  asks_grown y = go (ltb place o.line_count)
    where
      go : (t : Bool) → send y (asking (with_next (fuller t) (l.next + 1))) ≡ send y (entry_done (fuller t))
      go true = let e : (fuller true).next ≡ l.next = (add_all_grown l l.next waited).next in ap (λ (k : ℕ). send y (asking (with_next (fuller true) (k + 1)))) (sym e) ∙ asks_done y (fuller true)
      go false = asks_done y l

-- ---- a delivery: y is the board on which its number is freed
module _ (b : Board) (n : ℕ) (y : Board) (e : y ≡ freed b n) where
  pub nothing_arrives : kind_at b n ≡ Free → y ≡ delivered b n
  unfolding delivered
  nothing_arrives k = rw k e

  pub grant-arrives : (p o : ℕ) (m : Mode) → kind_at b n ≡ Grant p o m → (i : ℕ) (old new : Process) → i ≡ p → old ≡ process_at b p → new ≡ granted old o m
      → put_process y i new ≡ delivered b n
  unfolding delivered
  grant-arrives p o m k i old new ei eo en = rw (k, ei, en, eo, e)

  module _ (p o : ℕ) (m : Mode) (k : kind_at b n ≡ Request p o m) (i : ℕ) (old new : Object) (ei : i ≡ o) (eo : old ≡ object_at b o) (w : Bool) (ew : w ≡ welcome old p m) where
    pub request_granted : w ≡ true → new ≡ held old p m → (none : Entries) → none ≡ no_entries → send (put_object y i new) (record { kind = Grant p o m; list = none }) ≡ delivered b n
    unfolding delivered request_arrives
    request_granted t en none ez = let z : welcome (object_at b o) p m ≡ true = rw (← eo) (rw (← ew) t) in rw (k, ei, en, ez, eo, e, z)

    pub request_joins : w ≡ false → new ≡ joined old p m → (l : Entries) → l ≡ add_all (starter p) 0 (waited_for old p m old.line_count) → send (put_object y i new) (asking l) ≡ delivered b n
    unfolding delivered request_arrives
    request_joins f en l el =
        let z : welcome (object_at b o) p m ≡ false = rw (← eo) (rw (← ew) f) in
        let qs = waited_for old p m old.line_count in
        let f : send (put_object y i new) (asking l) ≡ send (put_object y i new) (started p qs) = rw el (asks_started (put_object y i new) p qs) in
        f ∙ rw (k, ei, en, eo, e, z)

  pub release-arrives : (p o : ℕ) → kind_at b n ≡ Release p o → (i : ℕ) (old new : Object) → i ≡ o → old ≡ object_at b o → new ≡ struck old p
      → send_grants (put_object y i (let_in new)) i (settled new.line_count new).grants ≡ delivered b n
  unfolding delivered release_arrives
  release-arrives p o k i old new ei eo en = rw (k, ei, en, eo, e)

  module _ (l : Entries) (el : l ≡ list_at b n) where
    pub list-at-home : kind_at b n ≡ ListToHome → (p : ℕ) (book : Process) (r : Leg) → p ≡ asked_of l → book ≡ process_at b p → r ≡ onward l.next l.count book.wait
        → send y (record { kind = r.kind; list = with_next l r.next }) ≡ delivered b n
    unfolding delivered
    list-at-home k p book r ep eb er =
        let f : send y (record { kind = r.kind; list = with_next l r.next }) ≡ send y (list_at_home l book.wait) = rw er (moves_on y l book.wait) in
        f ∙ rw (k, eb, ep, el, e)

    module _ (o : ℕ) (k : kind_at b n ≡ ListToObject o) (old : Object) (eo : old ≡ object_at b o) (place : ℕ) (ep : place ≡ place_in old (asked_of l)) (t : Bool) (et : t ≡ closes l old place) where
      arrives : send (recording y (starter_of l) (list_at_object l old).ring) (list_at_object l old).sent ≡ delivered b n
      unfolding delivered
      arrives = rw (k, eo, el, e)

      closes_is : (u : Bool) → t ≡ u → closes l old (place_in old (asked_of l)) ≡ u
      closes_is u f = rw (← ep) (sym et ∙ f)

      -- no ring was found: the list goes on or ends
      pub no-ring : t ≡ false → (next : Entries) → next ≡ grown l old place → send y (asking next) ≡ delivered b n
      unfolding recording
      no-ring f next en =
          let g : send y (asking next) ≡ send y (entry_done (fuller l old (ltb (place_in old (asked_of l)) old.line_count))) = rw (en, ep) (asks_grown l old y) in
          g ∙ rw (looked_past l old (closes_is false f)) at arrives

      -- a ring was found: it is kept in the starter's place, and the list ends
      pub ring_found : t ≡ true → (s : ℕ) (ring kept old' : Ring) → s ≡ starter_of l → ring ≡ ring_of (along_leads l.next l l.next) → old' ≡ ring_at b s → kept ≡ keeping old' ring → put_ring y s kept ≡ delivered b n
      unfolding recording send
      ring_found f s ring kept old' es er eo' ek = put ∙ rw (looked_ring l old (closes_is true f)) at arrives
        where
          some : length (along_leads l.next l l.next) ≢ 0
          some z = omega (arith, along_some l.next l l.next, z)

          put : put_ring y s kept ≡ recording y (starter_of l) (ring_of (along_leads l.next l l.next))
          put = rw (ne_eqb (length (along_leads l.next l l.next)) 0 some, ek, er, eo', es, e)
