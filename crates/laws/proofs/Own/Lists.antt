-- Lists: sending writes one number, so a list that is in flight after a command was there before or was sent by it. A list that arrives
-- sends itself with the same starter, and a request that is not welcome sends the list of its process.
use mathlib.Core.Path.{◌≡◌, refl, ap, ap₂, sym, ◌∙◌, subst}
use mathlib.Core.Logic.{◌⊎◌, inl, inr, ⊎_elim}
use mathlib.Core.Bool.{Bool, true, false}
use mathlib.Core.List.{List, [], ◌∷◌}
use Prim.Native.Nat.{ℕ, ◌+◌, ◌<◌}
use native.Mathlib.Omega.{arith}
use native.Mathlib.Decide.{ℕ_discrete}
use lib.Dec.{eqb, ltb}
use lib.ListN.{length, get_or, length-set}
use lib.Seq.{get_or-set_same, get_or-set_other}
use borrow.Author.Tests.{ltb-true}
use Rattle.rules.specs.declared.Mode.{Mode}
use Rattle.rules.specs.declared.Wait.{Wait}
use Rattle.rules.specs.declared.Wait.TheVariants.{NotWaiting, Waiting}
use Rattle.rules.specs.declared.Kind.{Kind}
use Rattle.rules.specs.declared.Kind.TheVariants.{Free, Request, Grant, Release, ListToHome, ListToObject}
use Rattle.rules.specs.declared.Entries.{Entries}
use Rattle.rules.specs.declared.Flight.{Flight}
use Rattle.rules.specs.declared.Message.{Message}
use Rattle.rules.specs.declared.Object.{Object}
use Rattle.rules.specs.declared.Looked.{Looked}
use Rattle.rules.specs.declared.Ring.{Ring}
use Rattle.rules.specs.declared.Arrived.{Arrived}
use Rattle.rules.specs.declared.Board.{Board}
use Rattle.rules.specs.declared.Command.{Command}
use Rattle.rules.specs.declared.Command.TheVariants as Do
use Rattle.rules.specs.declared.Answer.TheVariants.{Done}
use Rattle.rules.specs.Tables.{among}
use Rattle.rules.specs.Bits.{lowest_free}
use Rattle.rules.specs.Book.{who_at, mode_at, place_in, waited_for, joined, welcome, release_arrives}
use Rattle.rules.specs.Lists.{no_entries, plain, starter_of, asked_of, add_all, to_home, entry_done, starter, started, list_at_home, looking, list_at_object, request_arrives}
use Rattle.rules.specs.Board.{no_flight, no_object, process_at, object_at, kind_at, list_at, put_object, put_message, freed, is_message, put_first, send, send_grants}
use Rattle.rules.specs.Commands.{recording, arriving, mode_of, requested, released, delivered, effect}
use Rattle.rules.specs.Shape.{step}
use Rattle.rules.specs.Waits.{Stands}
use Rattle.rules.proofs.Tables.{true_not_false}
use Rattle.rules.proofs.Book.{joined_count, joined_who, joined_mode}
use Rattle.rules.proofs.Lists.{add_all_grown, started_first}
use Rattle.rules.proofs.Load.{freed_same, freed_other}
use Rattle.laws.specs.Shape.{Sized, KindShaped}
use Rattle.laws.specs.Own.{message_at, is_list_kind, Starts, Goes, stays, from_home, from_object}
use Rattle.laws.proofs.Tables.{by_pick}
use Rattle.laws.proofs.Local.{send_untouched}
use Rattle.laws.proofs.Kept.{Good, good, deliver_below, Did, refused, accepted, did}
use Rattle.laws.proofs.Room.{room_in}

-- ---- numbers: a send writes one, and leaves the others
abbrev Long : Board → Type 0
Long b = (length b.flights ≡ 64) × (length b.lists ≡ 64)

message_path : (k k' : Kind) (l l' : Entries) → k ≡ k' → l ≡ l' → ◌≡◌ {A = Message} (record { kind = k; list = l }) (record { kind = k'; list = l' })
message_path k k' l l' e f = ap₂ (λ (x : Kind) (y : Entries). record { kind = x; list = y }) e f

put_there : (b : Board) (n : ℕ) (m : Message) (k : ℕ) → Long b → n < 64 → (message_at (put_message b n m) k ≡ message_at b k) ⊎ (message_at (put_message b n m) k ≡ m)
put_there b n m k s h = elim (ℕ_discrete k n) [
  | yes e ↦ inr (rw e (message_path _ m.kind _ m.list
      (ap (λ (f : Flight). f.kind) (get_or-set_same b.flights n _ no_flight (omega (arith, s.0))))
      (get_or-set_same b.lists n m.list no_entries (omega (arith, s.1)))))
  | no f ↦ inl (message_path _ _ _ _ (ap (λ (x : Flight). x.kind) (get_or-set_other b.flights n k _ no_flight f)) (get_or-set_other b.lists n k m.list no_entries f))
]

sent_there : (b : Board) (m : Message) (k : ℕ) → Long b → (message_at (send b m) k ≡ message_at b k) ⊎ (message_at (send b m) k ≡ m)
unfolding send put_first
sent_there b m k s =
    let P : Board → Type 0 = λ c. (message_at c k ≡ message_at b k) ⊎ (message_at c k ≡ m) in
    by_pick P (is_message m.kind)
    (λ e. by_pick P (ltb (lowest_free b.occupied) 64) (λ l. put_there b (lowest_free b.occupied) m k s (ltb-true _ 64 l)) (λ l. inl refl))
    (λ e. inl refl)

send_long : (b : Board) (m : Message) → Long b → Long (send b m)
unfolding send put_first
send_long b m s = by_pick Long (is_message m.kind) (λ e. by_pick Long (ltb (lowest_free b.occupied) 64) (λ l. (length-set b.flights _ _ ∙ s.0, length-set b.lists _ _ ∙ s.1)) (λ l. s)) (λ e. s)

-- a list is no other message
no-list : {m : Message} (x : Message) → is_list_kind m.kind ≡ true → m ≡ x → is_list_kind x.kind ≡ false → ⊥
no-list x e z f = true_not_false (sym e ∙ ap (λ (y : Message). is_list_kind y.kind) z ∙ f)

grants_there : (gs : List (ℕ × Mode)) (b : Board) (o k : ℕ) → Long b → is_list_kind (kind_at (send_grants b o gs) k) ≡ true → message_at (send_grants b o gs) k ≡ message_at b k
unfolding send_grants
grants_there [] b o k s e = refl
grants_there (g ∷ gs) b o k s e =
    let m = plain (Grant g.0 o g.1) in
    let z = grants_there gs (send b m) o k (send_long b m s) e in
    ⊎_elim (λ y. z ∙ y) (λ y. absurd (no-list m e (z ∙ y) refl)) (sent_there b m k s)

-- ---- for each kind of message, the one list that it can send
abbrev SendsOn : Kind → Entries → Board → Message → Type 0
SendsOn Free l b m = ⊥
SendsOn (Request p o x) l b m = m ≡ (request_arrives (object_at b o) p o x).sent
SendsOn (Grant p o x) l b m = ⊥
SendsOn (Release p o) l b m = ⊥
SendsOn ListToHome l b m = m ≡ list_at_home l (process_at b (asked_of l)).wait
SendsOn (ListToObject o) l b m = m ≡ (list_at_object l (object_at b o)).sent

recording_there : (b : Board) (i : ℕ) (r : Ring) (k : ℕ) → (message_at (recording b i r) k ≡ message_at b k) × (Long b → Long (recording b i r))
unfolding recording
recording_there b i r k = by_pick (λ (c : Board). (message_at c k ≡ message_at b k) × (Long b → Long c)) (eqb r.count 0) (λ e. (refl, λ s. s)) (λ e. (refl, λ s. s))

arrived : (x : Kind) (l : Entries) (b : Board) (k : ℕ) → Long b → is_list_kind (kind_at (arriving x l b) k) ≡ true
    → (message_at (arriving x l b) k ≡ message_at b k) ⊎ SendsOn x l b (message_at (arriving x l b) k)
arrived Free l b k s e = inl refl
arrived (Request p o m) l b k s e = sent_there (put_object b o (request_arrives (object_at b o) p o m).object) (request_arrives (object_at b o) p o m).sent k s
arrived (Grant p o m) l b k s e = inl refl
arrived (Release p o) l b k s e = inl (grants_there (release_arrives (object_at b o) p).grants (put_object b o (release_arrives (object_at b o) p).object) o k s e)
arrived ListToHome l b k s e = sent_there b (list_at_home l (process_at b (asked_of l)).wait) k s
arrived (ListToObject o) l b k s e =
    let r = list_at_object l (object_at b o) in
    let h = recording_there b (starter_of l) r.ring k in
    ⊎_elim (λ z. inl (z ∙ h.0)) inr (sent_there (recording b (starter_of l) r.ring) r.sent k (h.1 s))

-- ---- a list that goes on keeps its starter
abbrev Keeps : ℕ → Message → Type 0
Keeps s m = is_list_kind m.kind ≡ true → starter_of m.list ≡ s

done_keeps : (l : Entries) → Keeps (starter_of l) (entry_done l)
unfolding entry_done
done_keeps l = by_pick (Keeps (starter_of l)) (ltb (l.next + 1) l.count) (λ _ _. refl) (λ _ e. absurd (true_not_false (sym e)))

home_keeps : (l : Entries) (w : Wait) → Keeps (starter_of l) (list_at_home l w)
home_keeps l NotWaiting = done_keeps l
home_keeps l (Waiting o m) = λ _. refl

object_keeps : (l : Entries) (o : Object) → 0 < l.count → Keeps (starter_of l) (list_at_object l o).sent
unfolding list_at_object
object_keeps l o h =
    let k = place_in o (asked_of l) in
    let qs = waited_for o (asked_of l) (mode_at o k) k in
    by_pick (λ (x : Looked). Keeps (starter_of l) x.sent) (ltb k o.line_count) (λ _. go (among (starter_of l) qs) qs) (λ _. done_keeps l)
  where
    go : (t : Bool) (qs : List ℕ) → Keeps (starter_of l) (looking t l qs).sent
    go true qs e = absurd (true_not_false (sym e))
    go false qs e = done_keeps (add_all l l.next qs) e ∙ (add_all_grown l l.next qs).entries 0 h

-- ---- a request that sends a list was not welcome
started_list : (p : ℕ) (qs : List ℕ) → is_list_kind (started p qs).kind ≡ true → started p qs ≡ to_home (add_all (starter p) 0 qs)
unfolding started
started_list p qs = by_pick (λ (m : Message). is_list_kind m.kind ≡ true → m ≡ to_home (add_all (starter p) 0 qs)) (ltb 1 (add_all (starter p) 0 qs).count) (λ _ _. refl) (λ _ e. absurd (true_not_false (sym e)))

request_list : (x : Object) (p o : ℕ) (m : Mode) → is_list_kind (request_arrives x p o m).sent.kind ≡ true
    → ((request_arrives x p o m).object ≡ joined x p m) × ((request_arrives x p o m).sent ≡ to_home (add_all (starter p) 0 (waited_for x p m x.line_count)))
unfolding request_arrives
request_list x p o m = by_pick (λ (y : Arrived). is_list_kind y.sent.kind ≡ true → (y.object ≡ joined x p m) × (y.sent ≡ to_home (add_all (starter p) 0 (waited_for x p m x.line_count)))) (welcome x p m)
    (λ _ e. absurd (true_not_false (sym e)))
    (λ _ e. (refl, started_list p (waited_for x p m x.line_count) e))

-- ---- where a list comes from
abbrev pub Whence : Board → Command → ℕ → Type 0
Whence b c k = ((n : ℕ) × (is_list_kind (kind_at b n) ≡ true) × (starter_of (list_at b n) ≡ starter_of (list_at (step b c).board k)) × Goes b c n k) ⊎ Starts b c (starter_of (list_at (step b c).board k)) k

was_there : (b : Board) (c : Command) (k : ℕ) → is_list_kind (kind_at (step b c).board k) ≡ true → message_at (step b c).board k ≡ message_at b k → Whence b c k
was_there b c k i e = inl (k, sym (ap (λ (m : Message). is_list_kind m.kind) e) ∙ i, sym (ap (λ (m : Message). starter_of m.list) e), stays refl e)

module _ (b : Board) (g : Good b) (n : ℕ) (h : n < 64) (a : (step b (Do.Deliver n)).answer ≡ Done) (e : (step b (Do.Deliver n)).board ≡ delivered b n) (k : ℕ) where
  abbrev new : Board
  new = (step b (Do.Deliver n)).board

  -- the message under number k after the delivery
  is-sent : (x : Message) → message_at (delivered b n) k ≡ x → message_at new k ≡ x
  is-sent x z = ap (λ (y : Board). message_at y k) e ∙ z

  object_new : (p o : ℕ) (m : Mode) → kind_at b n ≡ Request p o m → o < length b.objects → object_at new o ≡ (request_arrives (object_at b o) p o m).object
  unfolding delivered
  object_new p o m q l =
      let r = request_arrives (object_at b o) p o m in
      ap (λ (y : Board). object_at y o) (e ∙ ap (λ (x : Kind). arriving x (list_at b n) (freed b n)) q)
      ∙ ap (λ (os : List Object). get_or os o no_object) (send_untouched (put_object (freed b n) o r.object) r.sent).objects
      ∙ get_or-set_same b.objects o r.object no_object l

  stands_last : (p o : ℕ) (m : Mode) → kind_at b n ≡ Request p o m → object_at new o ≡ joined (object_at b o) p m → Stands new o (object_at b o).line_count p m
  stands_last p o m q z =
      let x = object_at b o in
      let room = room_in b g n p o m h q in
      record {
        inside = subst (λ (y : Object). x.line_count < y.line_count) (sym z) (omega (arith, joined_count x p m room));
        who = ap (λ (y : Object). who_at y x.line_count) z ∙ joined_who x p m room (g.sized.line o);
        mode = ap (λ (y : Object). mode_at y x.line_count) z ∙ joined_mode x p m room;
      }

  -- what was sent, by the kind of the message
  by_kind : is_list_kind (kind_at new k) ≡ true → (x : Kind) → kind_at b n ≡ x → KindShaped x (list_at b n) b.process_count b.object_count → SendsOn x (list_at b n) (freed b n) (message_at new k) → Whence b (Do.Deliver n) k
  by_kind i Free q s z = absurd z
  by_kind i (Request p o m) q s z =
      let r = request_list (object_at b o) p o m (sym (ap (λ (y : Message). is_list_kind y.kind) z) ∙ i) in
      let list : message_at new k ≡ to_home (add_all (starter p) 0 (waited_for (object_at b o) p m (object_at b o).line_count)) = z ∙ r.1 in
      let own : p ≡ starter_of (list_at new k) = sym (ap (λ (y : Message). starter_of y.list) list ∙ started_first p (waited_for (object_at b o) p m (object_at b o).line_count)) in
      inr (subst (λ (s : ℕ). Starts b (Do.Deliver n) s k) own (record {
        number = n;
        object = o;
        mode = m;
        delivers = (refl, a);
        request = q;
        stands = stands_last p o m q (object_new p o m q (omega (arith, s.1, g.sized.objects, g.shaped.records.table.count_of_objects.1)) ∙ r.0);
        list = list;
      }))
  by_kind i (Grant p o m) q s z = absurd z
  by_kind i (Release p o) q s z = absurd z
  by_kind i ListToHome q s z = inl (n, ap is_list_kind q, sym (ap (λ (y : Message). starter_of y.list) z ∙ home_keeps (list_at b n) (process_at b (asked_of (list_at b n))).wait (sym (ap (λ (y : Message). is_list_kind y.kind) z) ∙ i)), from_home (refl, a) q z)
  by_kind i (ListToObject o) q s z = inl (n, ap is_list_kind q, sym (ap (λ (y : Message). starter_of y.list) z ∙ object_keeps (list_at b n) (object_at b o) (omega (arith, s.1.two)) (sym (ap (λ (y : Message). is_list_kind y.kind) z) ∙ i)), from_object o (refl, a) q z)

  -- the number that was freed carries no list, and the others are as before
  freed_there : is_list_kind (kind_at (freed b n) k) ≡ true → message_at (freed b n) k ≡ message_at b k
  freed_there i = elim (ℕ_discrete k n) [
    | yes z ↦ absurd (true_not_false (sym i ∙ ap (λ (j : ℕ). is_list_kind (kind_at (freed b n) j)) z ∙ ap is_list_kind (freed_same b n)))
    | no f ↦ message_path _ _ _ _ (freed_other b n k f) (get_or-set_other b.lists n k no_entries no_entries f)
  ]

  delivery_list : is_list_kind (kind_at new k) ≡ true → Whence b (Do.Deliver n) k
  unfolding delivered
  delivery_list i =
      let i' : is_list_kind (kind_at (delivered b n) k) ≡ true = subst (λ (y : Board). is_list_kind (kind_at y k) ≡ true) e i in
      let long : Long (freed b n) = (length-set b.flights n _ ∙ g.sized.flights, length-set b.lists n _ ∙ g.sized.lists) in
      ⊎_elim
      (λ z. was_there b (Do.Deliver n) k i (is-sent _ z ∙ freed_there (sym (ap (λ (m : Message). is_list_kind m.kind) z) ∙ i')))
      (λ z. by_kind i (kind_at b n) refl (g.shaped.records.messages n) (subst (SendsOn (kind_at b n) (list_at b n) (freed b n)) (sym (is-sent _ refl)) z))
      (arrived (kind_at b n) (list_at b n) (freed b n) k long i')

pub own_list : (b : Board) (c : Command) → Sized b → (k : ℕ) → is_list_kind (kind_at (step b c).board k) ≡ true → Whence b c k
unfolding effect requested released
own_list b c s k = go c (did b c)
  where
    -- the message that a request or a release sends is no list
    asked : (x : Command) (m : Message) (y : Board) → is_list_kind m.kind ≡ false → Long y → message_at y k ≡ message_at b k → (step b x).board ≡ send y m → is_list_kind (kind_at (step b x).board k) ≡ true → Whence b x k
    asked x m y f l z e i = ⊎_elim
        (λ w. was_there b x k i (ap (λ (t : Board). message_at t k) e ∙ w ∙ z))
        (λ w. absurd (no-list m i (ap (λ (t : Board). message_at t k) e ∙ w) f))
        (sent_there y m k l)

    go : (x : Command) → Did b x → is_list_kind (kind_at (step b x).board k) ≡ true → Whence b x k
    go x (refused e) i = was_there b x k i (ap (λ (y : Board). message_at y k) e)
    go (Do.Request p o m) (accepted t d a e) i = asked (Do.Request p o m) (plain (Request p o (mode_of m))) _ refl (s.flights, s.lists) refl e i
    go (Do.Release p o) (accepted t d a e) i = asked (Do.Release p o) (plain (Release p o)) _ refl (s.flights, s.lists) refl e i
    go (Do.Deliver n) (accepted t d a e) i = delivery_list b (good b s t) n (deliver_below b n d) a e k i
