-- A release on the engine's board: nobody is let in, one is, or several are. A grant to the front leaves the load as it was: one less
-- in the line, one more message.
use mathlib.Core.Path.{◌≡◌, refl, sym, ap, ◌∙◌}
use mathlib.Core.Bool.{true, false}
use Prim.Native.Nat.{ℕ, ◌+◌, ◌-◌, ◌≤◌, ◌<◌}
use native.Mathlib.Omega.{arith}
use lib.ListN.{set, length}
use Rattle.rules.specs.declared.Kind.{Kind}
use Rattle.rules.specs.declared.Kind.TheVariants.{Grant}
use Rattle.rules.specs.declared.Entries.{Entries}
use Rattle.rules.specs.declared.Object.{Object}
use Rattle.rules.specs.declared.Board.{Board}
use Rattle.rules.specs.Bits.{with_bit, lowest_free}
use Rattle.rules.specs.Book.{who_at, mode_at, struck, settled}
use Rattle.rules.specs.Lists.{no_entries}
use Rattle.rules.specs.Board.{with, object_at, put_object, send, send_grants, load}
use Rattle.rules.specs.Ranges.{LineRanged}
use Rattle.rules.proofs.Load.{Matched, load_object}
use Rattle.objects.specs.Fronts.{front_goes, let_in}
use Rattle.objects.proofs.Fronts.{let_in_ends}
use Rattle.engine.specs.Grants.{places_from}
use Rattle.engine.proofs.Granting.{those_let_in, one_let_in, grants_first}
use Rattle.engine.proofs.Sends.{Made, sent_here}

pub struck_line : (o : Object) (p : ℕ) → LineRanged o → LineRanged (struck o p)
struck_line o p r = record { size = r.size; count = r.count; who = r.who }

pub line_is : (x y : Object) → x ≡ y → LineRanged y → LineRanged x
line_is x y e r = rw e r

-- the first of those let in from a line of object o is sent its grant, on board x of load w; it was the only one, or grants are left
pub record LetIn (x : Board) (w o : ℕ) (line : Object) (granted : ℕ) (last : Board) : Type 0 where
  pub ends : granted ≡ 1 → Made x w last
  pub goes : (r : Board) (v : ℕ) → r ≡ send_grants x o (places_from line 1 (granted - 1)) → v ≡ load r → Made r v last

-- ---- board y has load w; x is the struck book, with as long a line as the old one; the book then goes to place i
module _ (y : Board) (w : ℕ) (ew : w ≡ load y) (i : ℕ) (h : i < 16) (z : length y.objects ≡ 16) (x : Object) (ec : x.line_count ≡ (object_at y i).line_count) (last : Board) (el : send_grants (put_object y i (let_in x)) i (settled x.line_count x).grants ≡ last) where
  inside : i < length y.objects
  inside = omega arith

  -- so many are let in
  placed : (n : ℕ) → n ≡ x.line_count - (let_in x).line_count → send_grants (put_object y i (let_in x)) i (places_from x 0 n) ≡ last
  placed n e = rw (← those_let_in x n e) el

  pub none_granted : front_goes x ≡ false → Made (put_object y i x) w last
  unfolding send_grants places_from
  none_granted f =
      let e = let_in_ends x f in
      record { board = rw e at (placed 0 (omega (arith, ap (λ (b : Object). b.line_count) e))); loaded = omega (arith, load_object y i x h inside) }

  -- the first is let in: its grant takes the lowest free number t
  module _ (f : front_goes x ≡ true) (o : ℕ) (ei : i ≡ o) (next : Object) (en : next ≡ let_in x) (out : Kind) (ek : out ≡ Grant (who_at x 0) o (mode_at x 0)) (none : Entries) (ez : none ≡ no_entries)
      (u : length y.flights ≡ 64) (m : Matched y) (t occ : ℕ) (et : t ≡ lowest_free y.occupied) (eo : occ ≡ with_bit y.occupied t) (l : t < 64) where
    abbrev first_granted : Board
    first_granted = with y y.processes (set y.objects i next) occ (set y.flights t (record { kind = out })) (set y.lists t none) y.rings

    abbrev granted : ℕ
    granted = x.line_count - next.line_count

    some_granted : next.line_count < x.line_count
    some_granted = omega (arith, one_let_in x f, ap (λ (b : Object). b.line_count) en)

    -- so many stand less in the line
    book_load : w - granted ≡ load (put_object y i next)
    book_load = omega (arith, some_granted, load_object y i next h inside)

    load_some : granted ≤ w
    load_some = omega (arith, some_granted, load_object y i next h inside)

    sent : Made first_granted (w - granted + 1) (send (put_object y i next) (record { kind = out; list = none }))
    sent = sent_here (put_object y i next) (w - granted) book_load (record { kind = out; list = none }) 1 (rw ek) (send (put_object y i next) (record { kind = out; list = none })) refl u m t occ et eo l (λ e. omega (arith, e))

    left : send_grants first_granted o (places_from x 1 (granted - 1)) ≡ last
    left =
        ap (λ (b : Board). send_grants b o (places_from x 1 (granted - 1))) sent.board
        ∙ rw (ek, ez, en, ← ei) (sym (grants_first (put_object y i (let_in x)) i x 0 (x.line_count - (let_in x).line_count) (x.line_count - (let_in x).line_count - 1) (omega (arith, one_let_in x f))))
        ∙ placed (x.line_count - (let_in x).line_count) refl

    one_granted : granted ≡ 1 → Made first_granted w last
    unfolding send_grants places_from
    one_granted e = record { board = (let d : granted - 1 ≡ 0 = omega arith in rw d at left); loaded = omega (arith, sent.loaded, load_some) }

    more_granted : (r : Board) (v : ℕ) → r ≡ send_grants first_granted o (places_from x 1 (granted - 1)) → v ≡ load r → Made r v last
    more_granted r v er ev = record { board = er ∙ left; loaded = ev }

    pub first-granted : LetIn first_granted w o x granted last
    first-granted = record { ends = one_granted; goes = more_granted }
