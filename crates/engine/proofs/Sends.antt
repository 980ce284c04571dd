-- A message that is sent takes the lowest free number: what the engine writes, by what it found, and its load.
use mathlib.Core.Path.{◌≡◌, sym, ap, ◌∙◌}
use mathlib.Core.Logic.{◌≢◌}
use mathlib.Core.Bool.{true, false}
use mathlib.Core.List.{List}
use Prim.Native.Nat.{ℕ, ◌+◌, ◌-◌, ◌≤◌, ◌<◌}
use native.Mathlib.Omega.{arith}
use lib.ListN.{set, get_or, length}
use Rattle.rules.specs.declared.Kind.{Kind}
use Rattle.rules.specs.declared.Entries.{Entries}
use Rattle.rules.specs.declared.Message.{Message}
use Rattle.rules.specs.declared.Object.{Object}
use Rattle.rules.specs.declared.Board.{Board}
use Rattle.rules.specs.Bits.{with_bit, without_bit, lowest_free}
use Rattle.rules.specs.Lists.{no_entries}
use Rattle.rules.specs.Board.{with, no_flight, object_at, kind_at, put_object, put_message, freed, is_message, send, kind_load, load}
use Rattle.rules.proofs.Bits.{without_same, lowest-free, lowest_free_some}
use Rattle.rules.proofs.Tables.{not_passed, not_failed}
use Rattle.sums.proofs.Sums as Sums
use Rattle.rules.proofs.Load.{Matched, message_load, no_message, matched_free, send_sent, load_freed, load_free_number, load_object}

-- ---- a record that is read out of a table, with any default
pub read_at : {A : Type 0} (xs : List A) (i j : ℕ) (d f : A) → i ≡ j → j < length xs → get_or xs i d ≡ get_or xs j f
read_at xs i j d f e l = rw e (Sums.read_at xs j d f l)

-- a number that was just freed leaves one to take
pub one_free : (occ n : ℕ) → n < 64 → lowest_free (without_bit occ n) < 64
one_free occ n h = omega (arith, lowest_free_some (without_bit occ n) n h (without_same occ n))

-- ---- what the engine makes of a turn: the rule's board, with its load
pub record Made (x : Board) (w : ℕ) (y : Board) : Type 0 where
  pub board : x ≡ y
  pub loaded : w ≡ load x

none_to_send : (k : Kind) → kind_load k ≡ 0 → is_message k ≡ false
none_to_send k e = not_passed (is_message k) (λ t. omega (arith, message_load k t))

some_to_send : (k : Kind) → kind_load k ≢ 0 → is_message k ≡ true
some_to_send k n = not_failed (is_message k) (λ f. n (ap kind_load (no_message k f)))

sends_none : (y : Board) (m : Message) → is_message m.kind ≡ false → y ≡ send y m
unfolding send
sends_none y m e = rw e

-- message m is written under the lowest free number t
module _ (y : Board) (m : Message) (t occ : ℕ) (et : t ≡ lowest_free y.occupied) (eo : occ ≡ with_bit y.occupied t) (l : t < 64) where
  abbrev pub put : Board
  put = with y y.processes y.objects occ (set y.flights t (record { kind = m.kind })) (set y.lists t m.list) y.rings

  put_there : put ≡ put_message y (lowest_free y.occupied) m
  put_there = rw (eo, et)

  free_below : lowest_free y.occupied < 64
  free_below = omega (arith, et)

  pub put_sends : is_message m.kind ≡ true → put ≡ send y m
  put_sends e = put_there ∙ sym (send_sent y m e free_below)

  put_load : length y.flights ≡ 64 → Matched y → load put ≡ load y + kind_load m.kind
  put_load z h = ap load put_there ∙ load_free_number y (lowest_free y.occupied) m free_below (omega (arith, free_below)) (matched_free y h (lowest_free y.occupied) free_below (lowest-free y.occupied free_below))

-- message m is sent on board y, of load w, by what the code found: its load, and the lowest free number t
module _ (y : Board) (w : ℕ) (ew : w ≡ load y) (m : Message) (more : ℕ) (em : more ≡ kind_load m.kind) (last : Board) (el : send y m ≡ last) where
  pub sent_none : more ≡ 0 → Made y w last
  sent_none z = record { board = sends_none y m (none_to_send m.kind (sym em ∙ z)) ∙ el; loaded = ew }

  pub sent_here : length y.flights ≡ 64 → Matched y → (t occ : ℕ) (et : t ≡ lowest_free y.occupied) (eo : occ ≡ with_bit y.occupied t) (l : t < 64) → more ≢ 0 → Made (put y m t occ et eo l) (w + more) last
  sent_here z h t occ et eo l n = record {
    board = put_sends y m t occ et eo l (some_to_send m.kind (λ f. n (em ∙ f))) ∙ el;
    loaded = omega (arith, ew, em, put_load y m t occ et eo l z h);
  }

-- ---- loads: a number freed, a process's book, an object's book
module _ (b : Board) (n : ℕ) (h : n < 64) (w less : ℕ) (ew : w ≡ load b) (k : Kind) (ek : kind_at b n ≡ k) (el : less ≡ kind_load k) where
  freed_load : load (freed b n) + less ≡ w
  freed_load = omega (arith, load_freed b n h, ap kind_load ek)

  pub freed_fits : less ≤ w
  freed_fits = omega (arith, freed_load)

  pub freed_left : (y : Board) → y ≡ freed b n → w - less ≡ load y
  freed_left y e = omega (arith, freed_load, ap load e)

module _ (y : Board) (o : ℕ) (x : Object) (h : o < 16) (z : length y.objects ≡ 16) (w : ℕ) (ew : w ≡ load y) where
  object_load : load (put_object y o x) + (object_at y o).line_count ≡ w + x.line_count
  object_load = omega (arith, load_object y o x h (omega arith))

  -- the line is as long as before
  pub same_line : x.line_count ≡ (object_at y o).line_count → w ≡ load (put_object y o x)
  same_line e = omega (arith, object_load, e)

  module _ (old new : ℕ) (eo : old ≡ (object_at y o).line_count) (en : new ≡ x.line_count) where
    pub object-fits : old ≤ w + new
    object-fits = omega (arith, object_load)

    pub object_changed : w + new - old ≡ load (put_object y o x)
    object_changed = omega (arith, object_load)

-- ---- the board without message n, as the code writes it
pub freed_from : (b : Board) (n i occ : ℕ) (none : Entries) → i ≡ n → occ ≡ without_bit b.occupied n → none ≡ no_entries
    → with b b.processes b.objects occ (set b.flights i no_flight) (set b.lists i none) b.rings ≡ freed b n
freed_from b n i occ none ei eo ez = rw (ei, eo, ez)

pub same_matched : (x y : Board) → x ≡ y → Matched y → Matched x
same_matched x y e h = rw e h
