-- Messages taken out and sent: the rules and the model agree.
use mathlib.Core.Path.{◌≡◌, refl, ap, ap₂, ◌∙◌}
use mathlib.Core.Bool.{Bool, true, false}
use mathlib.Core.Option.{Option, none, some}
use mathlib.Core.List.{List, [], ◌∷◌, map}
use Prim.Native.Nat.{ℕ, zero, suc, ◌+◌, ◌≤◌, ◌<◌}
use native.Mathlib.Omega.{arith}
use lib.ListN.{length, get_or, set, length-set}
use Rattle.rules.specs.declared.Mode.{Mode}
use Rattle.rules.specs.declared.Kind.{Kind}
use Rattle.rules.specs.declared.Kind.TheVariants.{Free, Request, Grant, Release, ListToHome, ListToObject}
use Rattle.rules.specs.declared.Entries.{Entries}
use Rattle.rules.specs.declared.Flight.{Flight}
use Rattle.rules.specs.declared.Message.{Message}
use Rattle.rules.specs.declared.Board.{Board}
use Rattle.rules.specs.Bits.{taken, without_bit, free_from, lowest_free}
use Rattle.rules.specs.Book.{is_exclusive}
use Rattle.rules.specs.Lists.{plain, no_entries}
use Rattle.rules.specs.Board.{kind_at, list_at, no_flight, freed, is_message, send, send_grants, load}
use Rattle.rules.proofs.Bits.{without_same, lowest_free_some}
use Rattle.rules.proofs.Load.{Matched, matched_freed, matched_message, room_below, send_nothing, send_sent, load_send}
use Rattle.laws.proofs.Kept.{Good}
use Rattle.model.specs.Tables.{Numbered, put, lowest_from, lowest_free as lowestFreeM, send as sendM}
use Rattle.model.specs.Board.{grant, with_messages, Message as MessageM, send_grants as sendGrantsM, Board as BoardM}
use Rattle.promises.proofs.Seen.Tables.{seen_set_both}
use Rattle.promises.proofs.Seen.{message_seen, sent_seen, seen, board_path}
use Rattle.promises.proofs.Seen.Objects.{waiter_of}

-- ---- the lowest free number
abbrev pub is_there : Option MessageM → Bool
is_there none = false
is_there (some x) = true

pub there_kind : (k : Kind) (l : Entries) → is_message k ≡ is_there (message_seen k l)
there_kind Free l = refl
there_kind (Request p o m) l = refl
there_kind (Grant p o m) l = refl
there_kind (Release p o) l = refl
there_kind ListToHome l = refl
there_kind (ListToObject o) l = refl

free_lowest : (occupied : ℕ) (f : Numbered MessageM) (d i : ℕ) → ((j : ℕ) → j < i + d → taken occupied j ≡ is_there (f j)) → free_from occupied d i ≡ lowest_from d i f
unfolding free_from lowest_from
free_lowest occupied f zero i h = refl
free_lowest occupied f (suc d) i h =
    let go : (x : Option MessageM) → f i ≡ x → free_from occupied (suc d) i ≡ lowest_from (suc d) i f = elim [
      | none ↦ λ e. let t : taken occupied i ≡ false = h i (omega arith) ∙ ap is_there e in rw (t, e, free_from, lowest_from)
      | some a ↦ λ e. let t : taken occupied i ≡ true = h i (omega arith) ∙ ap is_there e in rw (t, e, free_from, lowest_from) (free_lowest occupied f d (suc i) (λ j l. h j (omega arith)))
    ] in
    go (f i) refl

-- ---- what sending rests on; the books and the rings may be written meanwhile
abbrev pub Ready : Board → Type 0
Ready b = (length b.flights ≡ 64) × (length b.lists ≡ 64) × Matched b

pub ready : (b : Board) → Good b → Ready b
ready b g = (g.sized.flights, g.sized.lists, g.shaped.records.flying)

module _ (b : Board) (r : Ready b) where
  lowest_view : lowest_free b.occupied ≡ lowestFreeM (seen b).messages
  unfolding lowest_free lowestFreeM
  lowest_view = free_lowest b.occupied (seen b).messages 64 0 (λ j h. r.2 j (omega arith) ∙ there_kind (kind_at b j) (list_at b j))

  -- a kind and a list, written under one number
  put_seen : (n : ℕ) (f : Flight) (l : Entries) → n < 64
      → (λ i. message_seen (get_or (set b.flights n f) i no_flight).kind (get_or (set b.lists n l) i no_entries)) ≡ put (seen b).messages n (message_seen f.kind l)
  put_seen n f l h = seen_set_both (λ (f : Flight) (l : Entries). message_seen f.kind l) b.flights b.lists n f no_flight l no_entries (omega (arith, r.0)) (omega (arith, r.1))

  -- ---- a number freed
  module _ (n : ℕ) (h : n < 64) where
    pub freed_messages : (seen (freed b n)).messages ≡ put (seen b).messages n none
    freed_messages = put_seen n no_flight no_entries h

    pub freed_ready : Ready (freed b n)
    freed_ready = (length-set b.flights n _ ∙ r.0, length-set b.lists n _ ∙ r.1, matched_freed b n r.2)

    pub freed_room : lowest_free (freed b n).occupied < 64
    freed_room = omega (arith, lowest_free_some (without_bit b.occupied n) n h (without_same b.occupied n))

  -- ---- a message sent
  pub send_none : (m : Message) → sent_seen m ≡ none → send b m ≡ b
  send_none m e = send_nothing b m (there_kind m.kind m.list ∙ ap is_there e)

  module _ (m : Message) (x : MessageM) (e : sent_seen m ≡ some x) (h : lowest_free b.occupied < 64) where
    is-message : is_message m.kind ≡ true
    is-message = there_kind m.kind m.list ∙ ap is_there e

    send_seen : seen (send b m) ≡ with_messages (seen b) (sendM x (seen b).messages)
    unfolding sendM
    send_seen = ap seen (send_sent b m is-message h)
        ∙ board_path _ _ refl refl refl refl refl (put_seen _ _ m.list h ∙ ap₂ (λ (n : ℕ) (y : Option MessageM). put (seen b).messages n y) lowest_view e) refl

    pub send_view : (w : BoardM) → seen b ≡ w → seen (send b m) ≡ with_messages w (sendM x w.messages)
    send_view w e = send_seen ∙ ap (λ (w : BoardM). with_messages w (sendM x w.messages)) e

    send_ready : Ready (send b m)
    send_ready = rw (send_sent b m is-message h) (length-set b.flights _ _ ∙ r.0, length-set b.lists _ _ ∙ r.1, matched_message b _ m (omega (arith, r.0)) is-message r.2)

-- ---- grants sent one after another
pub grants_view : (gs : List (ℕ × Mode)) (b : Board) (o : ℕ) → Ready b → load b + length gs ≤ 64 → seen (send_grants b o gs) ≡ with_messages (seen b) (sendGrantsM o (map waiter_of gs) (seen b).messages)
unfolding send_grants sendGrantsM
grants_view [] b o r h = refl
grants_view (g ∷ gs) b o r h =
    let m = plain (Grant g.0 o g.1) in
    let x = grant g.0 o (is_exclusive g.1) in
    let room : lowest_free b.occupied < 64 = room_below b r.2 (omega arith) in
    grants_view gs (send b m) o (send_ready b r m x refl room) (omega (arith, load_send b r.0 r.2 m (omega arith)))
    ∙ ap (λ (w : BoardM). with_messages w (sendGrantsM o (map waiter_of gs) w.messages)) (send_view b r m x refl room (seen b) refl)
