-- A request arrives: it is granted at once, or it joins the line and a list is started. The rules and the model agree.
use mathlib.Core.Path.{◌≡◌, refl, ap, ◌∙◌}
use mathlib.Core.Bool.{Bool, true, false, ◌&&◌}
use mathlib.Core.Option.{some}
use mathlib.Core.List.{List, [], ◌∷◌, ◌++◌}
use Prim.Native.Nat.{ℕ, ◌≤◌, ◌<◌}
use native.Mathlib.Omega.{arith}
use Rattle.rules.specs.declared.Mode.{Mode}
use Rattle.rules.specs.declared.Kind.TheVariants.{Request, Grant}
use Rattle.rules.specs.declared.Message.{Message}
use Rattle.rules.specs.declared.Object.{Object}
use Rattle.rules.specs.declared.Arrived.{Arrived}
use Rattle.rules.specs.declared.Board.{Board}
use Rattle.rules.specs.Tables.{pick}
use Rattle.rules.specs.Book.{is_exclusive, who_at, waited_for, held, joined, welcome}
use Rattle.rules.specs.Lists.{plain, started, request_arrives}
use Rattle.rules.specs.Board.{object_at, kind_at, no_object, put_object, freed, send}
use Rattle.rules.specs.Waits.{Among}
use Rattle.laws.proofs.Books.{waited_below}
use Rattle.laws.proofs.Kept.{Good}
use Rattle.laws.proofs.Room.{not_in, room_in}
use Rattle.model.specs.Lists.{fresh, is_empty}
use Rattle.model.specs.Tables.{Numbered, put, put_pair, send as sendM}
use Rattle.model.specs.Book.{Line, Holders, standing as standingM, clear as clearM}
use Rattle.model.specs.Board.{grant, with_messages, start_list, without, answered, granted, joined as joinedM, request_arrives as requestArrivesM, Message as MessageM, Board as BoardM}
use Rattle.promises.proofs.Seen.Tables.{seen_set, put_self, empty_view}
use Rattle.promises.proofs.Seen.{holders_seen, exclusive_at, line_seen, sent_seen, seen, board_path}
use Rattle.promises.proofs.Seen.Objects.{clear_view, join_view, held_view, joined_seen, joined_holders}
use Rattle.promises.proofs.Seen.Lists.{start_none, start_some}
use Rattle.promises.proofs.Shape.{few_processes, object_there, book}
use Rattle.promises.proofs.Sends.{ready, freed_messages, freed_ready, freed_room, send_none, send_view}

-- other books of objects, and other messages
abbrev with_books : BoardM → (ℕ → Holders) → (ℕ → Line) → Numbered MessageM → BoardM
with_books w h l f = record { wait = w.wait; hold = w.hold; released = w.released; holder = h; line = l; messages = f; place = w.place }

module _ (b : Board) (g : Good b) (i p o : ℕ) (m : Mode) (lt : i < 64) (here : kind_at b i ≡ Request p o m) (lp : p < b.process_count) (lo : o < b.object_count) where
  abbrev M : BoardM
  M = seen b

  abbrev x : Bool
  x = is_exclusive m

  abbrev f : Numbered MessageM
  f = without M i

  abbrev ob : Object
  ob = object_at b o

  abbrev c : ℕ
  c = b.process_count

  few : c ≤ 16
  few = few_processes b g

  room : ob.line_count < 16
  room = room_in b g i p o m lt here

  -- the object's book written
  put_seen : (y : Object) (h : Holders) (l : Line) → holders_seen y ≡ h → line_seen y ≡ l → seen (put_object (freed b i) o y) ≡ with_books M (put M.holder o h) (put M.line o l) f
  put_seen y h l e1 e2 = board_path _ _ refl refl refl
      (seen_set holders_seen b.objects o y no_object (object_there b g o lo) ∙ ap (λ (z : Holders). put M.holder o z) e1)
      (seen_set line_seen b.objects o y no_object (object_there b g o lo) ∙ ap (λ (z : Line). put M.line o z) e2)
      (freed_messages b (ready b g) i lt) refl

  -- and a message sent
  sent-seen : (y : Object) (s : Message) (a : MessageM) (w : BoardM) → sent_seen s ≡ some a → seen (put_object (freed b i) o y) ≡ w → seen (send (put_object (freed b i) o y) s) ≡ with_messages w (sendM a w.messages)
  sent-seen y s a w e = send_view (put_object (freed b i) o y) (freed_ready b (ready b g) i lt) s a e (freed_room b (ready b g) i lt) w

  -- it is granted at once
  at_once : seen (send (put_object (freed b i) o (held ob p m)) (plain (Grant p o m))) ≡ granted M f p o x
  unfolding granted put_pair
  at_once = sent-seen (held ob p m) (plain (Grant p o m)) (grant p o x) _ refl (put_seen (held ob p m) _ _ (held_view ob p m) refl)
      ∙ board_path _ _ refl refl refl refl (put_self M.line o (line_seen ob) refl) refl refl

  -- it joins, and a list is started
  later : seen (send (put_object (freed b i) o (joined ob p m)) (started p (waited_for ob p m ob.line_count))) ≡ joinedM M f p o x
  unfolding joinedM
  later = rw (← join_view ob p m (g.sized.line o) room (not_in b g i p o m lt here)) (go (fresh (p ∷ []) qs) refl)
    where
      qs : List ℕ
      qs = waited_for ob p m ob.line_count

      y : Object
      y = joined ob p m

      l : Line
      l = line_seen ob ++ standingM p x ∷ []

      v : seen (put_object (freed b i) o y) ≡ with_books M M.holder (put M.line o l) f
      v = put_seen y _ _ (joined_holders ob p m) (joined_seen ob p m (g.sized.line o) room) ∙ board_path _ _ refl refl refl (put_self M.holder o (holders_seen ob) refl) refl refl refl

      below : (q : ℕ) → Among q qs → q < c
      below q = waited_below ob c (book b g o lo) p m ob.line_count q (omega arith)

      go : (r : List ℕ) → fresh (p ∷ []) qs ≡ r → seen (send (put_object (freed b i) o y) (started p qs)) ≡ with_books M M.holder (put M.line o l) (start_list p r f)
      go [] e = ap seen (send_none (put_object (freed b i) o y) (freed_ready b (ready b g) i lt) (started p qs) (start_none p c qs lp few below e)) ∙ v
      go (q ∷ r) e = sent-seen y (started p qs) _ _ (start_some p c qs lp few below q r e) v

  pub request_view : seen (send (put_object (freed b i) o (request_arrives ob p o m).object) (request_arrives ob p o m).sent) ≡ requestArrivesM M f p o x
  unfolding request_arrives requestArrivesM welcome
  request_view = rw (empty_view ob.line_count (λ k. standingM (who_at ob k) (exclusive_at ob k)), clear_view ob p m) (go (is_empty (line_seen ob) && clearM (holders_seen ob) p x))
    where
      now : Arrived
      now = record { object = held ob p m; sent = plain (Grant p o m) }

      then : Arrived
      then = record { object = joined ob p m; sent = started p (waited_for ob p m ob.line_count) }

      go : (y : Bool) → seen (send (put_object (freed b i) o (pick y now then).object) (pick y now then).sent) ≡ answered y M f p o x
      go true = at_once
      go false = later
