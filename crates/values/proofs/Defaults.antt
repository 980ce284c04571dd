-- The empty records: what `Default` gives is the record of zeros that the rules name.
use Rattle.std.proofs.Common.{◌≡◌, ◌∙◌, sym, ℕ, ◌<◌, Bool, false, List, replicate, arith}
use Rattle.std.proofs.lemmas.List.{ext_get_or, length-replicate, get_or-replicate}
use Rattle.std.specs.Array.{AllOfLen}
use Rattle.rules.specs.declared.Entries.{Entries}
use Rattle.rules.specs.declared.Flight.{Flight}
use Rattle.rules.specs.declared.Kind.{Kind}
use Rattle.rules.specs.declared.Kind.TheVariants.{Free}
use Rattle.rules.specs.declared.Object.{Object}
use Rattle.rules.specs.declared.Process.{Process}
use Rattle.rules.specs.declared.Ring.{Ring}
use Rattle.rules.specs.declared.Wait.{Wait}
use Rattle.rules.specs.declared.Wait.TheVariants.{NotWaiting}
use Rattle.rules.specs.Board.{no_process, no_object, no_flight}
use Rattle.rules.specs.Lists.{no_entries, no_ring}

-- each of the n places is zero
abbrev pub Zeros : List ℕ → ℕ → Type 0
Zeros xs n = AllOfLen (λ x. x ≡ 0) xs n

-- a row whose n places are all zero is the row of zeros
pub zeros : (xs : List ℕ) (n : ℕ) → Zeros xs n → xs ≡ replicate n 0
zeros xs n a = ext_get_or 0 xs (replicate n 0) (a.long ∙ sym (length-replicate n 0)) (λ i l. let b : i < n = omega (arith, a.long) in a.at i 0 b ∙ sym (get_or-replicate n i 0 0 b))

entries_at : (w l : List ℕ) (c n : ℕ) → w ≡ replicate 16 0 → l ≡ replicate 16 0 → c ≡ 0 → n ≡ 0 → ◌≡◌ {A = Entries} (record { who = w; leads = l; count = c; next = n }) no_entries
entries_at w l c n e f g h = rw (e, f, g, h)

pub entries_default : (e : Entries) → Zeros e.who 16 × (Zeros e.leads 16 × ((e.count ≡ 0) × (e.next ≡ 0))) → e ≡ no_entries
entries_default e (w, (l, (c, n))) = entries_at e.who e.leads e.count e.next (zeros e.who 16 w) (zeros e.leads 16 l) c n

ring_at : (w : List ℕ) (c : ℕ) → w ≡ replicate 16 0 → c ≡ 0 → ◌≡◌ {A = Ring} (record { processes = w; count = c }) no_ring
ring_at w c e f = rw (e, f)

pub ring_default : (r : Ring) → Zeros r.processes 16 × (r.count ≡ 0) → r ≡ no_ring
ring_default r (w, c) = ring_at r.processes r.count (zeros r.processes 16 w) c

process_at : (s x : ℕ) (w : Wait) (r : Bool) → s ≡ 0 → x ≡ 0 → w ≡ NotWaiting → r ≡ false → ◌≡◌ {A = Process} (record { shared = s; exclusive = x; wait = w; released = r }) no_process
process_at s x w r e f g h = rw (e, f, g, h)

pub process_default : (p : Process) → (p.shared ≡ 0) × ((p.exclusive ≡ 0) × ((p.wait ≡ NotWaiting) × (p.released ≡ false))) → p ≡ no_process
process_default p (s, (x, (w, r))) = process_at p.shared p.exclusive p.wait p.released s x w r

object_at : (s x : ℕ) (l : List ℕ) (e c : ℕ) → s ≡ 0 → x ≡ 0 → l ≡ replicate 16 0 → e ≡ 0 → c ≡ 0 → ◌≡◌ {A = Object} (record { shared = s; exclusive = x; line = l; line_exclusive = e; line_count = c }) no_object
object_at s x l e c f g h i j = rw (f, g, h, i, j)

pub object_default : (o : Object) → (o.shared ≡ 0) × ((o.exclusive ≡ 0) × (Zeros o.line 16 × ((o.line_exclusive ≡ 0) × (o.line_count ≡ 0)))) → o ≡ no_object
object_default o (s, (x, (l, (e, c)))) = object_at o.shared o.exclusive o.line o.line_exclusive o.line_count s x (zeros o.line 16 l) e c

flight_at : (k : Kind) → k ≡ Free → ◌≡◌ {A = Flight} (record { kind = k }) no_flight
flight_at k e = rw e

pub flight_default : (f : Flight) → f.kind ≡ Free → f ≡ no_flight
flight_default f e = flight_at f.kind e
