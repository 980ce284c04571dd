-- A list arrives, at a home or at an object: it goes on, ends, or records a ring. The rules and the model agree.
use mathlib.Core.Path.{◌≡◌, refl, ap, ap₂, sym, ◌∙◌}
use mathlib.Core.Logic.{if_pos, if_neg}
use mathlib.Core.Option.{none, some}
use mathlib.Core.List.{List, [], ◌∷◌, ◌++◌, append-nil}
use Prim.Native.Nat.{ℕ, suc, ◌≤◌, ◌<◌}
use native.Mathlib.Omega.{arith}
use native.Mathlib.Numerals.{add-one}
use native.Mathlib.Decide.{dec_lt}
use lib.ListN.{length}
use borrow.Author.Tests.{lt-ltb, le-ltb, ne_eqb}
use Rattle.rules.specs.declared.Wait.{Wait}
use Rattle.rules.specs.declared.Wait.TheVariants.{NotWaiting, Waiting}
use Rattle.rules.specs.declared.Entries.{Entries}
use Rattle.rules.specs.declared.Message.{Message}
use Rattle.rules.specs.declared.Looked.{Looked}
use Rattle.rules.specs.declared.Object.{Object}
use Rattle.rules.specs.declared.Board.{Board}
use Rattle.rules.specs.Tables.{among}
use Rattle.rules.specs.Book.{mode_at, place_in, waited_for}
use Rattle.rules.specs.Lists.{nothing, no_ring, entry_at, lead_at, starter_of, asked_of, add_all, with_next, to_home, to_an_object, entry_done, list_at_home, along_leads, ring_of, looking, list_at_object}
use Rattle.rules.specs.Board.{process_at, object_at, list_at, ring_at, freed, send}
use Rattle.rules.specs.Commands.{recording}
use Rattle.rules.specs.Waits.{Among}
use Rattle.rules.proofs.Tables.{is_among, not_among, rows_at}
use Rattle.rules.proofs.Book.{place_in_le, place_in_is, place_in_before}
use Rattle.rules.proofs.Lists.{add_all_grown}
use Rattle.laws.specs.Shape.{ListShaped}
use Rattle.laws.proofs.Books.{waited_below}
use Rattle.laws.proofs.Lists.{growing}
use Rattle.laws.proofs.Kept.{Good}
use Rattle.model.specs.Lists.{Has, has?}
use Rattle.model.specs.Tables.{Numbered, put, send as sendM}
use Rattle.model.specs.Board.{Entry, list, led_by, added, with_messages, without, record_ring, keep_filled, home_says, at_home, closes, at_object, entry_at as entryAtM, entry_done as entryDoneM, along_leads as alongLeadsM, Message as MessageM, Board as BoardM}
use Rattle.promises.proofs.Seen.Tables.{seen_set, put_self, has_to, has_from}
use Rattle.promises.proofs.Seen.{wait_seen, entries_seen, sent_seen, seen, board_path}
use Rattle.promises.proofs.Seen.Objects.{place_view, away_view}
use Rattle.promises.proofs.Seen.Lists.{entries_count, add_view, along_view, ring_seen, keeping_view}
use Rattle.promises.proofs.Shape.{few_processes, book}
use Rattle.promises.proofs.Sends.{ready, freed_messages, freed_ready, freed_room, send_view}

send_nothing : (b : Board) → send b nothing ≡ b
unfolding send
send_nothing b = refl

no-ring : (b : Board) (s : ℕ) → recording b s no_ring ≡ b
unfolding recording
no-ring b s = refl

keep_empty : (l : List ℕ) → keep_filled l [] ≡ l
keep_empty [] = refl
keep_empty (x ∷ l) = refl

module _ (b : Board) (g : Good b) (i : ℕ) (lt : i < 64) (s : ListShaped (list_at b i) b.process_count) where
  abbrev M : BoardM
  M = seen b

  abbrev f : Numbered MessageM
  f = without M i

  abbrev l : Entries
  l = list_at b i

  abbrev es : List Entry
  es = entries_seen l

  abbrev n : ℕ
  n = l.next

  abbrev c : ℕ
  c = b.process_count

  few : c ≤ 16
  few = few_processes b g

  off : (seen (freed b i)).messages ≡ f
  off = freed_messages b (ready b g) i lt

  taken_out : seen (freed b i) ≡ with_messages M f
  taken_out = board_path _ _ refl refl refl refl refl off refl

  name : (j : ℕ) → j < l.count → (entryAtM es j).who ≡ entry_at l j
  name j h = ap (λ (x : Entry). x.who) (rows_at l.count (λ k. led_by (lead_at l k) (entry_at l k)) j _ h)

  starter_name : (entryAtM es 0).who ≡ starter_of l
  starter_name = name 0 (omega (arith, s.inside))

  -- a message sent in its place
  sends : (m : Message) (x : MessageM) → sent_seen m ≡ some x → seen (send (freed b i) m) ≡ with_messages M (sendM x f)
  sends m x e = send_view (freed b i) (freed_ready b (ready b g) i lt) m x e (freed_room b (ready b g) i lt) _ taken_out

  -- the list goes on, or ends
  on : (m : Entries) → seen (send (freed b i) (entry_done m)) ≡ entryDoneM M f (entries_seen m) m.next
  unfolding entry_done entryDoneM
  on m = rw (add-one j) (elim (dec_lt j' (length (entries_seen m))) [
    | yes h ↦ rw (lt-ltb j' m.count (omega (arith, entries_count m)), if_pos (dec_lt j' (length (entries_seen m))) h sent f) (sends (to_home (with_next m j')) _ refl)
    | no h ↦ rw (le-ltb j' m.count (omega (arith, entries_count m)), if_neg (dec_lt j' (length (entries_seen m))) h sent f, send_nothing (freed b i)) taken_out
  ])
    where
      j : ℕ
      j = m.next

      j' : ℕ
      j' = suc j

      sent : Numbered MessageM
      sent = sendM (list (entries_seen m) j' none) f

  -- ---- at a home
  pub home_view : seen (send (freed b i) (list_at_home l (process_at b (asked_of l)).wait)) ≡ at_home M f es n
  unfolding at_home
  home_view = rw (name n s.inside) (go (process_at b (asked_of l)).wait)
    where
      go : (x : Wait) → seen (send (freed b i) (list_at_home l x)) ≡ home_says (wait_seen x) M f es n
      go NotWaiting = on l
      go (Waiting o m) = sends (to_an_object l o) _ refl

  -- ---- at an object
  -- what its home makes of the list
  abbrev looked : Looked → Board
  looked r = send (recording (freed b i) (starter_of l) r.ring) r.sent

  goes_on : (m : Message) → seen (looked (record { sent = m; ring = no_ring })) ≡ seen (send (freed b i) m)
  goes_on m = ap (λ (c : Board). seen (send c m)) (no-ring (freed b i) (starter_of l))

  -- a ring found is recorded in the starter's place
  ring_kept : (ps : List ℕ) → seen (recording (freed b i) (starter_of l) (ring_of ps)) ≡ record_ring M f (starter_of l) ps
  unfolding recording record_ring
  ring_kept [] = board_path _ _ refl refl refl refl refl off (sym (put_self M.place (starter_of l) _ (keep_empty (M.place (starter_of l)))))
  ring_kept (p ∷ ps) = rw (ne_eqb (suc (length ps)) 0 (omega arith)) (board_path _ _ refl refl refl refl refl off
      (seen_set ring_seen b.rings (starter_of l) _ no_ring (omega (arith, g.sized.rings, few, s.who.used 0 (omega (arith, s.inside)))) ∙ ap (λ (x : List ℕ). put M.place (starter_of l) x) (keeping_view (ring_at b (starter_of l)) (p ∷ ps))))

  ring_found : seen (looked (record { sent = nothing; ring = ring_of (along_leads n l n) })) ≡ record_ring M f (starter_of l) (alongLeadsM n es n [])
  ring_found =
      let ps = along_leads n l n in
      ap seen (send_nothing (recording (freed b i) (starter_of l) (ring_of ps))) ∙ ring_kept ps ∙ ap (record_ring M f (starter_of l)) (sym (append-nil ps) ∙ along_view n l n [] (omega arith) s.inside s.leads)

  -- those whom the process waits for are added
  grows : (qs : List ℕ) → ((q : ℕ) → Among q qs → q < c) → seen (send (freed b i) (entry_done (add_all l n qs))) ≡ entryDoneM M f (es ++ added es n qs) n
  grows qs below = on (add_all l n qs) ∙ ap₂ (λ (x : List Entry) (j : ℕ). entryDoneM M f x j)
      (add_view c n few qs l s.inside (growing l c (g.sized.who i) (g.sized.leads i) s) below) (add_all_grown l n qs).next

  module _ (o : ℕ) (lo : o < b.object_count) where
    abbrev ob : Object
    ob = object_at b o

    abbrev at : ℕ
    at = place_in ob (asked_of l)

    abbrev qs : List ℕ
    qs = waited_for ob (asked_of l) (mode_at ob at) at

    below : (q : ℕ) → Among q qs → q < c
    below q = waited_below ob c (book b g o lo) (asked_of l) (mode_at ob at) at q (place_in_le ob (asked_of l))

    closing : (d : Dec (Has (entryAtM es 0).who qs)) → seen (looked (looking (among (starter_of l) qs) l qs)) ≡ closes d qs M f es n
    closing (yes h) = rw (is_among (starter_of l) qs (has_from (starter_of l) qs (rw starter_name at h)), starter_name) ring_found
    closing (no h) = rw (not_among (starter_of l) qs (λ a. h (rw starter_name (has_to (starter_of l) qs a)))) (goes_on _ ∙ grows qs below)

    pub object_view : seen (looked (list_at_object l ob)) ≡ at_object M f es n o
    unfolding list_at_object at_object
    object_view = rw (name n s.inside) (elim (dec_lt at ob.line_count) [
      | yes h ↦
          let v = place_view ob (asked_of l) at h (place_in_before ob (asked_of l)) (place_in_is ob (asked_of l) h) in
          rw (lt-ltb at ob.line_count h, v.0, ← v.1) (closing (has? (entryAtM es 0).who qs))
      | no h ↦ rw (le-ltb at ob.line_count (omega arith), away_view ob (asked_of l) (λ k a. place_in_before ob (asked_of l) k (omega arith))) (goes_on _ ∙ on l)
    ])
