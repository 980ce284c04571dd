-- The lengths that the types say are kept by every command: ranges keep those of lines and lists, the table of homes stays, and a ring
-- that is found along at most 16 places is padded to 16.
use mathlib.Core.Path.{◌≡◌, refl, ap, sym, ◌∙◌, subst}
use mathlib.Core.List.{List, [], ◌∷◌}
use Prim.Native.Nat.{ℕ, ◌<◌}
use lib.Dec.{eqb, ltb}
use lib.ListN.{length, get_or}
use Rattle.rules.specs.declared.Kind.{Kind}
use Rattle.rules.specs.declared.Kind.TheVariants.{Free, Request, Grant, Release, ListToHome, ListToObject}
use Rattle.rules.specs.declared.Entries.{Entries}
use Rattle.rules.specs.declared.Message.{Message}
use Rattle.rules.specs.declared.Process.{Process}
use Rattle.rules.specs.declared.Ring.{Ring}
use Rattle.rules.specs.declared.Board.{Board}
use Rattle.rules.specs.declared.Command.{Command}
use Rattle.rules.specs.declared.Command.TheVariants as Do
use Rattle.rules.specs.Bits.{lowest_free}
use Rattle.rules.specs.Answers.{done}
use Rattle.rules.specs.Lists.{no_ring, starter_of, keeping}
use Rattle.rules.specs.Board.{object_at, kind_at, list_at, ring_at, put_process, freed, is_message, put_first, send}
use Rattle.rules.specs.Commands.{recording, requested, released, delivered, effect, answer_to, turn}
use Rattle.rules.specs.Ranges.{Ranged}
use Rattle.laws.specs.Shape.{Sized, SizesKept}
use Rattle.laws.specs.Local.{finds, found, sent, send_all, SameTable}
use Rattle.laws.proofs.Tables.{by_pick, each_set}
use Rattle.laws.proofs.Ranges.{turn_ranged}
use Rattle.laws.proofs.Lists.{found_size}
use Rattle.laws.proofs.Local.{same_table, send_untouched, written_books, wrote, delivered_is, delivery_table}

abbrev RingsSized : List Ring → Type 0
RingsSized rs = (i : ℕ) → length (get_or rs i no_ring).processes ≡ 16

-- ---- sending leaves the rings
pub send_rings : (b : Board) (m : Message) → (send b m).rings ≡ b.rings
unfolding send put_first
send_rings b m = by_pick (λ (c : Board). c.rings ≡ b.rings) (is_message m.kind) (λ e. by_pick (λ (c : Board). c.rings ≡ b.rings) (ltb (lowest_free b.occupied) 64) (λ l. refl) (λ l. refl)) (λ e. refl)

sent_rings : (ms : List Message) (b : Board) → (send_all b ms).rings ≡ b.rings
sent_rings [] b = refl
sent_rings (m ∷ ms) b = sent_rings ms (send b m) ∙ send_rings b m

-- ---- a ring that is found has its 16 places
finds_size : (k : Kind) (l : Entries) (b : Board) → l.next < 16 → length (finds k l b).processes ≡ 16
finds_size Free l b h = refl
finds_size (Request p o m) l b h = refl
finds_size (Grant p o m) l b h = refl
finds_size (Release p o) l b h = refl
finds_size ListToHome l b h = refl
finds_size (ListToObject o) l b h = found_size l (object_at b o) h

recorded_rings : (b : Board) (i : ℕ) (x : Ring) → RingsSized b.rings → length x.processes ≡ 16 → RingsSized (recording b i x).rings
unfolding recording keeping
recorded_rings b i x s z =
    by_pick (λ (c : Board). RingsSized c.rings) (eqb x.count 0) (λ e. s)
    (λ e. each_set (λ _ (y : Ring). length y.processes ≡ 16) b.rings i (keeping (ring_at b i) x) no_ring (by_pick (λ (y : Ring). length y.processes ≡ 16) (eqb (ring_at b i).count 0) (λ f. z) (λ f. s i)) s)

delivered_rings : (b : Board) (n : ℕ) → Ranged b → RingsSized b.rings → RingsSized (delivered b n).rings
delivered_rings b n r s =
    let same : (wrote b n).rings ≡ b.rings = sym (ap (λ (c : Board). c.rings) (written_books (kind_at b n) (list_at b n) (freed b n))) in
    let kept = recorded_rings (wrote b n) (starter_of (list_at b n)) (found b n) (subst RingsSized (sym same) s) (finds_size (kind_at b n) (list_at b n) b (r.entries n).next) in
    subst RingsSized (sym (ap (λ (c : Board). c.rings) (delivered_is b n) ∙ sent_rings (sent b n) (recording (wrote b n) (starter_of (list_at b n)) (found b n)))) kept

-- ---- commands
record Kept (b c : Board) : Type 0 where
  table : SameTable b c
  rings : RingsSized c.rings

-- the book of a process is written and a message sent
asked_kept : (b : Board) (p : ℕ) (x : Process) (m : Message) → Sized b → Kept b (send (put_process b p x) m)
asked_kept b p x m s =
    let t = (send_untouched (put_process b p x) m).table in
    record {
      table = record { nodes = t.nodes; count_of_processes = t.count_of_processes; count_of_objects = t.count_of_objects; home_of_process = t.home_of_process; home_of_object = t.home_of_object };
      rings = subst RingsSized (sym (send_rings (put_process b p x) m)) s.ring;
    }

effect_kept : (b : Board) (c : Command) → Sized b → Ranged b → Kept b (effect b c)
unfolding effect requested released
effect_kept b (Do.Request p o m) s r = asked_kept b p _ _ s
effect_kept b (Do.Release p o) s r = asked_kept b p _ _ s
effect_kept b (Do.Deliver n) s r = record { table = delivery_table b n; rings = delivered_rings b n r s.ring }

turn_kept : (b : Board) (c : Command) → Sized b → Ranged b → Kept b (turn b c).board
unfolding turn
turn_kept b c s r = by_pick (Kept b) (done (answer_to b c)) (λ e. effect_kept b c s r) (λ e. record { table = same_table b; rings = s.ring })

pub sizes_kept : SizesKept
sizes_kept b c s r =
    let k = turn_kept b c s r in
    let t = turn_ranged b c r in
    record {
      home_of_process = ap length (sym k.table.home_of_process) ∙ s.home_of_process;
      home_of_object = ap length (sym k.table.home_of_object) ∙ s.home_of_object;
      processes = t.processes;
      objects = t.objects;
      flights = t.flights;
      lists = t.lists;
      rings = t.rings;
      line = λ o. (t.lines o).size;
      who = λ n. (t.entries n).size;
      leads = λ n. (t.entries n).leads_size;
      ring = k.rings;
    }
