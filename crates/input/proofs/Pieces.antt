-- An input that is read piece by piece: each piece lengthens what was read by itself. Assumes nothing.
use mathlib.Core.Path.{◌≡◌, refl, sym, ap, ◌∙◌}
use mathlib.Core.List.{List, [], ◌++◌, append-nil}
use Prim.Native.Nat.{ℕ, ◌+◌, ◌-◌, ◌≤◌, ◌<◌}
use native.Mathlib.Omega.{arith}
use native.Mathlib.Decide.{dec_lt}
use lib.ListN.{length, take, drop, length-append}
use lib.Seq.{take_all, take-append-le, take-append-add, take_at, length-take-le, drop-length}
use Rattle.std.specs.Prelude.{Option}
use Rattle.std.specs.Io.KnownBytes.{Consumes}
use Rattle.std.proofs.KnownBytes.{Consumes-nil, Consumes-trans}
use Rattle.text.specs.Text.{written, behind}
use Rattle.text.proofs.Text.{written_parts, behind_length}
use Rattle.input.specs.Input.{Pieces, none, one, Taken, PiecesTaken}

-- nothing was read yet
pub taken_none : (buffer : List ℕ) → Taken [] buffer 0
taken_none buffer = record { first = refl; whole = refl }

module _ (buffer w p : List ℕ) (n : ℕ) (size : length buffer ≡ 65536) (t : Taken w buffer n) where
  -- the buffer is full: nothing is put
  full : 65536 ≤ n → take (n + length p) (behind 65536 buffer n p) ≡ take 65536 (w ++ p)
  unfolding behind written
  full h =
      let none : 65536 - n ≡ 0 = omega arith in
      rw none
      (take_all (n + length p) buffer (omega arith)
      ∙ sym (take_all n buffer (omega arith))
      ∙ t.first
      ∙ sym (take-append-le 65536 w p (omega (arith, t.whole))))

  -- where there was room, the buffer holds all that came before
  before : n ≤ 65536 → take n buffer ≡ w
  before h = t.first ∙ take_all 65536 w (omega (arith, t.whole))

  -- the whole piece fits
  fitting : n + length p ≤ 65536 → take (n + length p) (behind 65536 buffer n p) ≡ take 65536 (w ++ p)
  unfolding behind
  fitting h =
      let size_of : length (w ++ p) ≡ n + length p = length-append w p ∙ ap (λ (k : ℕ). k + length p) (sym t.whole) in
      rw (take_all (65536 - n) p (omega arith))
      (ap (take (n + length p)) (written_parts buffer n p (omega arith))
      ∙ ap (λ (x : List ℕ). take (n + length p) (x ++ p ++ drop (n + length p) buffer)) (before (omega arith))
      ∙ take_at (w ++ p) (drop (n + length p) buffer) (n + length p) size_of
      ∙ sym (take_all 65536 (w ++ p) (omega (arith, size_of))))

  -- a part of it does, and fills the buffer
  filling : n < 65536 → 65536 < n + length p → take (n + length p) (behind 65536 buffer n p) ≡ take 65536 (w ++ p)
  unfolding behind
  filling h g =
      let q = take (65536 - n) p in
      let some : length q ≡ 65536 - n = length-take-le (65536 - n) p (omega arith) in
      let up : n + length q ≡ length buffer = omega (arith, some, size) in
      let rest : drop (n + length q) buffer ≡ [] = ap (λ (k : ℕ). drop k buffer) up ∙ drop-length buffer in
      let sum : length w + (65536 - n) ≡ 65536 = omega (arith, t.whole) in
      take_all (n + length p) (behind 65536 buffer n p) (omega (arith, behind_length 65536 buffer n p))
      ∙ written_parts buffer n q (omega (arith, some))
      ∙ ap (λ (x : List ℕ). x ++ q ++ drop (n + length q) buffer) (before (omega arith))
      ∙ ap (λ (x : List ℕ). w ++ q ++ x) rest
      ∙ append-nil (w ++ q)
      ∙ sym (take-append-add w p (65536 - n))
      ∙ ap (λ (k : ℕ). take k (w ++ p)) sum

  pub taken_more : Taken (w ++ p) (behind 65536 buffer n p) (n + length p)
  taken_more = record {
    first = elim (dec_lt n 65536) [
      | yes h ↦ elim (dec_lt 65536 (n + length p)) [ yes g ↦ filling h g | no g ↦ fitting (omega (arith, g)) ]
      | no h ↦ full (omega (arith, h))
    ];
    whole = ap (λ (k : ℕ). k + length p) t.whole ∙ sym (length-append w p);
  }

pieces_length : (old w buffer : List ℕ) (n : ℕ) → Pieces old w buffer n → length buffer ≡ length old
pieces_length old w buffer n none = refl
pieces_length old w buffer n (one {w = v} {buffer = before} {n = m} r p) = behind_length 65536 before m p ∙ pieces_length old v before m r

pub pieces_taken : PiecesTaken
pieces_taken old w buffer n size none = taken_none old
pieces_taken old w buffer n size (one {w = v} {buffer = before} {n = m} r p) = taken_more before v p m (pieces_length old v before m r ∙ size) (pieces_taken old v before m size r)

-- some pieces were taken in, and one more
pub some_more : (old buffer p : List ℕ) (n : ℕ) {after : List ℕ} {m : ℕ} → ((w : List ℕ) × Pieces old w buffer n) → after ≡ behind 65536 buffer n p → m ≡ n + length p → ((w : List ℕ) × Pieces old w after m)
some_more old buffer p n t e f = rw (e, f) (t.0 ++ p, one t.1 p)

pub as_long : (buffer p : List ℕ) (n : ℕ) {after : List ℕ} → length buffer ≡ 65536 → after ≡ behind 65536 buffer n p → length after ≡ 65536
as_long buffer p n size e = rw e (behind_length 65536 buffer n p ∙ size)

-- pieces that a reader gave were taken in, and one more
pub more_known : (old buffer p : List ℕ) (n : ℕ) (a b c : Option (List ℕ)) {after : List ℕ} {m : ℕ} → ((w : List ℕ) × Pieces old w buffer n × Consumes a b w) → after ≡ behind 65536 buffer n p → m ≡ n + length p → Consumes b c p → ((w : List ℕ) × Pieces old w after m × Consumes a c w)
more_known old buffer p n a b c t e f r = rw (e, f) (t.0 ++ p, one t.1 p, Consumes-trans a b c t.0 p t.2 r)

pub none_known : (old : List ℕ) (a : Option (List ℕ)) → ((w : List ℕ) × Pieces old w old 0 × Consumes a a w)
none_known old a = ([], none, Consumes-nil a)
