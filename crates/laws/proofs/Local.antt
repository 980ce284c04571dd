-- A delivery is local: each kind of message reads one book, at its destination, and writes that one; sending touches no book.
use mathlib.Core.Path.{◌≡◌, refl, ap, ap₂, sym, ◌∙◌, subst, subst₂}
use mathlib.Core.List.{List, [], ◌∷◌, map}
use Prim.Native.Nat.{ℕ}
use native.Mathlib.Omega.{arith}
use native.Mathlib.Decide.{ℕ_discrete, dec_lt}
use lib.Dec.{eqb, ltb}
use lib.ListN.{length, get_or, set}
use lib.Seq.{get_or-set_same, get_or-set_other, set_out}
use Rattle.rules.specs.declared.Mode.{Mode}
use Rattle.rules.specs.declared.Kind.{Kind}
use Rattle.rules.specs.declared.Kind.TheVariants.{Free, Request, Grant, Release, ListToHome, ListToObject}
use Rattle.rules.specs.declared.Entries.{Entries}
use Rattle.rules.specs.declared.Message.{Message}
use Rattle.rules.specs.declared.Process.{Process}
use Rattle.rules.specs.declared.Object.{Object}
use Rattle.rules.specs.declared.Ring.{Ring}
use Rattle.rules.specs.declared.Board.{Board}
use Rattle.rules.specs.Bits.{lowest_free}
use Rattle.rules.specs.Book.{release_arrives}
use Rattle.rules.specs.Home.{granted}
use Rattle.rules.specs.Lists.{plain, starter_of, asked_of, list_at_home, list_at_object, request_arrives}
use Rattle.rules.specs.Board.{no_process, no_object, process_at, object_at, kind_at, list_at, put_process, put_object, freed, is_message, put_first, send, send_grants}
use Rattle.rules.specs.Commands.{recording, arriving, delivered}
use Rattle.laws.specs.Shape.{Sized}
use Rattle.laws.specs.Local.{home_of_process, home_of_object, goes_to, sends, finds, destination, sent, found, send_all, with_books, acted, SameTable, SameBooks, Elsewhere, SameMessage, SameDelivery, DeliveryLocal}
use Rattle.laws.proofs.Tables.{by_pick}

-- ---- what stays while messages are sent and a ring is kept
pub record Untouched (b c : Board) : Type 0 where
  pub table : SameTable b c
  pub processes : c.processes ≡ b.processes
  pub objects : c.objects ≡ b.objects

pub same_table : (b : Board) → SameTable b b
same_table b = record { nodes = refl; count_of_processes = refl; count_of_objects = refl; home_of_process = refl; home_of_object = refl }

tables : (a b c : Board) → SameTable a b → SameTable b c → SameTable a c
tables a b c s t = record { nodes = s.nodes ∙ t.nodes; count_of_processes = s.count_of_processes ∙ t.count_of_processes; count_of_objects = s.count_of_objects ∙ t.count_of_objects; home_of_process = s.home_of_process ∙ t.home_of_process; home_of_object = s.home_of_object ∙ t.home_of_object }

pub untouched : (b : Board) → Untouched b b
untouched b = record { table = same_table b; processes = refl; objects = refl }

pub send_untouched : (b : Board) (m : Message) → Untouched b (send b m)
unfolding send put_first
send_untouched b m = by_pick (Untouched b) (is_message m.kind) (λ e. by_pick (Untouched b) (ltb (lowest_free b.occupied) 64) (λ l. record { table = record { nodes = refl; count_of_processes = refl; count_of_objects = refl; home_of_process = refl; home_of_object = refl }; processes = refl; objects = refl }) (λ l. untouched b)) (λ e. untouched b)

sent_untouched : (ms : List Message) (b : Board) → Untouched b (send_all b ms)
sent_untouched [] b = untouched b
sent_untouched (m ∷ ms) b =
    let s = send_untouched b m in
    let r = sent_untouched ms (send b m) in
    record { table = tables b (send b m) (send_all (send b m) ms) s.table r.table; processes = r.processes ∙ s.processes; objects = r.objects ∙ s.objects }

recorded_untouched : (b : Board) (s : ℕ) (r : Ring) → Untouched b (recording b s r)
unfolding recording
recorded_untouched b s r = by_pick (Untouched b) (eqb r.count 0) (λ e. untouched b) (λ e. record { table = record { nodes = refl; count_of_processes = refl; count_of_objects = refl; home_of_process = refl; home_of_object = refl }; processes = refl; objects = refl })

-- ---- a delivery: the one book written, then the ring kept, then the messages sent
abbrev pub written : Kind → Entries → Board → Board
written Free l b = b
written (Request p o m) l b = put_object b o (request_arrives (object_at b o) p o m).object
written (Grant p o m) l b = put_process b p (granted (process_at b p) o m)
written (Release p o) l b = put_object b o (release_arrives (object_at b o) p).object
written ListToHome l b = b
written (ListToObject o) l b = b

grants_sent : (gs : List (ℕ × Mode)) (b : Board) (o : ℕ) → send_grants b o gs ≡ send_all b (map (λ g. plain (Grant g.0 o g.1)) gs)
unfolding send_grants
grants_sent [] b o = refl
grants_sent (g ∷ gs) b o = grants_sent gs (send b (plain (Grant g.0 o g.1))) o

arriving_is : (k : Kind) (l : Entries) (b : Board) → arriving k l b ≡ send_all (recording (written k l b) (starter_of l) (finds k l b)) (sends k l b)
unfolding recording
arriving_is Free l b = refl
arriving_is (Request p o m) l b = refl
arriving_is (Grant p o m) l b = refl
arriving_is (Release p o) l b = grants_sent (release_arrives (object_at b o) p).grants _ o
arriving_is ListToHome l b = refl
arriving_is (ListToObject o) l b = refl

-- ---- where a message goes, what it sends and finds, hangs on the table of homes and the one book
-- the board with another table of homes
abbrev housed : Board → List ℕ → List ℕ → Board
housed b hp ho = record {
  nodes = b.nodes;
  process_count = b.process_count;
  object_count = b.object_count;
  process_home = hp;
  object_home = ho;
  processes = b.processes;
  objects = b.objects;
  occupied = b.occupied;
  flights = b.flights;
  lists = b.lists;
  rings = b.rings;
}

goes_same : (k : Kind) (l : Entries) (b c : Board) → SameTable b c → goes_to k l b ≡ goes_to k l c
goes_same k l b c t = ap₂ (λ (hp ho : List ℕ). goes_to k l (housed b hp ho)) t.home_of_process t.home_of_object ∙ by_homes k
  where
    -- nothing else of the board is looked at
    by_homes : (k : Kind) → goes_to k l (housed b c.process_home c.object_home) ≡ goes_to k l c
    by_homes Free = refl
    by_homes (Request p o m) = refl
    by_homes (Grant p o m) = refl
    by_homes (Release p o) = refl
    by_homes ListToHome = refl
    by_homes (ListToObject o) = refl

sends_same : (k : Kind) (l : Entries) (b c : Board) → SameBooks b c (goes_to k l b) → sends k l b ≡ sends k l c
sends_same Free l b c s = refl
sends_same (Request p o m) l b c s = ap (λ (x : Object). (request_arrives x p o m).sent ∷ []) (s.objects o refl)
sends_same (Grant p o m) l b c s = refl
sends_same (Release p o) l b c s = ap (λ (x : Object). map (λ g. plain (Grant g.0 o g.1)) (release_arrives x p).grants) (s.objects o refl)
sends_same ListToHome l b c s = ap (λ (x : Process). list_at_home l x.wait ∷ []) (s.processes (asked_of l) refl)
sends_same (ListToObject o) l b c s = ap (λ (x : Object). (list_at_object l x).sent ∷ []) (s.objects o refl)

finds_same : (k : Kind) (l : Entries) (b c : Board) → SameBooks b c (goes_to k l b) → finds k l b ≡ finds k l c
finds_same Free l b c s = refl
finds_same (Request p o m) l b c s = refl
finds_same (Grant p o m) l b c s = refl
finds_same (Release p o) l b c s = refl
finds_same ListToHome l b c s = refl
finds_same (ListToObject o) l b c s = ap (λ (x : Object). (list_at_object l x).ring) (s.objects o refl)

-- so the messages in flight have no part in it
module _ (k : Kind) (l : Entries) (b : Board) (n : ℕ) where
  freed_books : (v : ℕ) → SameBooks (freed b n) b v
  freed_books v = record { processes = λ p e. refl; objects = λ o e. refl }

  sends_freed : sends k l (freed b n) ≡ sends k l b
  sends_freed = sends_same k l (freed b n) b (freed_books _)

  finds_freed : finds k l (freed b n) ≡ finds k l b
  finds_freed = finds_same k l (freed b n) b (freed_books _)

  goes_freed : goes_to k l (freed b n) ≡ goes_to k l b
  goes_freed = goes_same k l (freed b n) b (record { nodes = refl; count_of_processes = refl; count_of_objects = refl; home_of_process = refl; home_of_object = refl })

-- ---- the whole of a delivery
-- the written board is the old one with its books
pub written_books : (k : Kind) (l : Entries) (b : Board) → with_books b (written k l b).processes (written k l b).objects ≡ written k l b
written_books Free l b = refl
written_books (Request p o m) l b = refl
written_books (Grant p o m) l b = refl
written_books (Release p o) l b = refl
written_books ListToHome l b = refl
written_books (ListToObject o) l b = refl

written_table : (k : Kind) (l : Entries) (b : Board) → SameTable b (written k l b)
written_table k l b = subst (SameTable b) (written_books k l b) (record { nodes = refl; count_of_processes = refl; count_of_objects = refl; home_of_process = refl; home_of_object = refl })

module _ (b : Board) (n : ℕ) where
  abbrev K : Kind
  K = kind_at b n

  abbrev L : Entries
  L = list_at b n

  -- the board with its number freed and its book written
  abbrev pub wrote : Board
  wrote = written K L (freed b n)

  pub delivered_is : delivered b n ≡ send_all (recording wrote (starter_of L) (found b n)) (sent b n)
  unfolding delivered
  delivered_is = arriving_is K L (freed b n) ∙ ap₂ (λ (r : Ring) (ms : List Message). send_all (recording wrote (starter_of L) r) ms) (finds_freed K L b n) (sends_freed K L b n)

  delivered_untouched : Untouched wrote (delivered b n)
  delivered_untouched =
      let r = recorded_untouched wrote (starter_of L) (found b n) in
      let s = sent_untouched (sent b n) (recording wrote (starter_of L) (found b n)) in
      subst (Untouched wrote) (sym delivered_is) (record { table = tables wrote _ _ r.table s.table; processes = s.processes ∙ r.processes; objects = s.objects ∙ r.objects })

  pub acted_is : acted b n ≡ recording wrote (starter_of L) (found b n)
  acted_is = ap (λ (c : Board). recording c (starter_of L) (found b n)) (ap₂ (λ (ps : List Process) (os : List Object). with_books (freed b n) ps os) delivered_untouched.processes delivered_untouched.objects ∙ written_books K L (freed b n))

  pub delivery_all : delivered b n ≡ send_all (acted b n) (sent b n)
  delivery_all = delivered_is ∙ ap (λ (c : Board). send_all c (sent b n)) (sym acted_is)

  pub delivery_table : SameTable b (delivered b n)
  delivery_table = let t = tables (freed b n) wrote (delivered b n) (written_table K L (freed b n)) delivered_untouched.table in record { nodes = t.nodes; count_of_processes = t.count_of_processes; count_of_objects = t.count_of_objects; home_of_process = t.home_of_process; home_of_object = t.home_of_object }

-- ---- other nodes
written_elsewhere : (k : Kind) (l : Entries) (b : Board) → Elsewhere b (written k l b) (goes_to k l b)
written_elsewhere Free l b = record { processes = λ q f. refl; objects = λ q f. refl }
written_elsewhere (Request p o m) l b = record { processes = λ q f. refl; objects = λ q f. get_or-set_other b.objects o q _ no_object (λ z. f (ap (home_of_object b) z)) }
written_elsewhere (Grant p o m) l b = record { processes = λ q f. get_or-set_other b.processes p q _ no_process (λ z. f (ap (home_of_process b) z)); objects = λ q f. refl }
written_elsewhere (Release p o) l b = record { processes = λ q f. refl; objects = λ q f. get_or-set_other b.objects o q _ no_object (λ z. f (ap (home_of_object b) z)) }
written_elsewhere ListToHome l b = record { processes = λ q f. refl; objects = λ q f. refl }
written_elsewhere (ListToObject o) l b = record { processes = λ q f. refl; objects = λ q f. refl }

pub delivery_elsewhere : (b : Board) (n : ℕ) → Elsewhere b (delivered b n) (destination b n)
delivery_elsewhere b n =
    let e = written_elsewhere (kind_at b n) (list_at b n) (freed b n) in
    let u = delivered_untouched b n in
    let g = goes_freed (kind_at b n) (list_at b n) b n in
    record {
      processes = λ q f. ap (λ (ps : List Process). get_or ps q no_process) u.processes ∙ e.processes q (λ z. f (z ∙ g));
      objects = λ q f. ap (λ (os : List Object). get_or os q no_object) u.objects ∙ e.objects q (λ z. f (z ∙ g));
    }

-- ---- two boards that agree
pub set_agree : {A : Type 0} (l r : List A) (p q : ℕ) (x y d : A) → length l ≡ length r → x ≡ y → get_or l q d ≡ get_or r q d → get_or (set l p x) q d ≡ get_or (set r p y) q d
set_agree {A} l r p q x y d s z e = elim (ℕ_discrete q p) [
  | yes w ↦ elim (dec_lt p (length l)) [
    | yes h ↦ subst (λ (i : ℕ). get_or (set l p x) i d ≡ get_or (set r p y) i d) (sym w) (get_or-set_same l p x d h ∙ z ∙ sym (get_or-set_same r p y d (omega arith)))
    | no h ↦ ap (λ (t : List A). get_or t q d) (set_out l p x (omega arith)) ∙ e ∙ sym (ap (λ (t : List A). get_or t q d) (set_out r p y (omega arith)))
  ]
  | no w ↦ get_or-set_other l p q x d w ∙ e ∙ sym (get_or-set_other r p q y d w)
]

module _ (l : Entries) (b c : Board) (sp : length b.processes ≡ length c.processes) (so : length b.objects ≡ length c.objects) where
  written_same : (k : Kind) → SameBooks b c (goes_to k l b) → SameBooks (written k l b) (written k l c) (goes_to k l b)
  written_same Free s = s
  written_same (Request p o m) s = record { processes = s.processes; objects = λ q e. set_agree b.objects c.objects o q _ _ no_object so (ap (λ (x : Object). (request_arrives x p o m).object) (s.objects o refl)) (s.objects q e) }
  written_same (Grant p o m) s = record { processes = λ q e. set_agree b.processes c.processes p q _ _ no_process sp (ap (λ (x : Process). granted x o m) (s.processes p refl)) (s.processes q e); objects = s.objects }
  written_same (Release p o) s = record { processes = s.processes; objects = λ q e. set_agree b.objects c.objects o q _ _ no_object so (ap (λ (x : Object). (release_arrives x p).object) (s.objects o refl)) (s.objects q e) }
  written_same ListToHome s = s
  written_same (ListToObject o) s = s

-- the same books, also after what touches none
books_along : (b c d e : Board) (v : ℕ) → Untouched b d → Untouched c e → SameBooks b c v → SameBooks d e v
books_along b c d e v t u s = record {
  processes = λ p h. ap (λ (ps : List Process). get_or ps p no_process) t.processes ∙ s.processes p (ap (λ (r : List ℕ). get_or r p 0) t.table.home_of_process ∙ h) ∙ sym (ap (λ (ps : List Process). get_or ps p no_process) u.processes);
  objects = λ o h. ap (λ (os : List Object). get_or os o no_object) t.objects ∙ s.objects o (ap (λ (r : List ℕ). get_or r o 0) t.table.home_of_object ∙ h) ∙ sym (ap (λ (os : List Object). get_or os o no_object) u.objects);
}

module _ (b c : Board) (n : ℕ) (sb : Sized b) (sc : Sized c) (t : SameTable b c) (m : SameMessage b c n) (s : SameBooks b c (destination b n)) where
  abbrev k : Kind
  k = kind_at b n

  abbrev l : Entries
  l = list_at b n

  freed_same : SameBooks (freed b n) (freed c n) (goes_to k l (freed b n))
  freed_same = subst (SameBooks (freed b n) (freed c n)) (sym (goes_freed k l b n)) (record { processes = s.processes; objects = s.objects })

  wrote_same : SameBooks (wrote b n) (wrote c n) (destination b n)
  wrote_same =
      subst₂ (λ (k' : Kind) (l' : Entries). SameBooks (wrote b n) (written k' l' (freed c n)) (destination b n)) m.kind m.list
      (subst (SameBooks (wrote b n) (written k l (freed c n))) (goes_freed k l b n)
      (written_same l (freed b n) (freed c n) (sb.processes ∙ sym sc.processes) (sb.objects ∙ sym sc.objects) k freed_same))

  pub delivery_same : SameDelivery b c n
  delivery_same = record {
    to = goes_same k l b c t ∙ ap₂ (λ (k' : Kind) (l' : Entries). goes_to k' l' c) m.kind m.list;
    books = books_along (wrote b n) (wrote c n) (delivered b n) (delivered c n) (destination b n) (delivered_untouched b n) (delivered_untouched c n) wrote_same;
    messages = sends_same k l b c s ∙ ap₂ (λ (k' : Kind) (l' : Entries). sends k' l' c) m.kind m.list;
    ring = finds_same k l b c s ∙ ap₂ (λ (k' : Kind) (l' : Entries). finds k' l' c) m.kind m.list;
  }

pub delivery_local : DeliveryLocal
delivery_local = record { all = delivery_all; table = delivery_table; elsewhere = delivery_elsewhere; same = delivery_same }
