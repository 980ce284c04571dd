-- Laws of the lines: each by the parts that are put one after another, and the sides and lines of a board by one more of them.
-- Assumes nothing.
use mathlib.Core.Path.{◌≡◌, refl, sym, ap, ◌∙◌}
use mathlib.Core.Bool.{true, false}
use mathlib.Core.List.{List, [], ◌∷◌, ◌++◌, append_assoc, append-nil}
use Prim.Native.Nat.{ℕ, zero, suc, ◌+◌, ◌<◌}
use native.Mathlib.Omega.{arith}
use native.Mathlib.Numerals.{add-one}
use lib.Dec.{eqb}
use lib.ListN.{length, take, get_or, replicate}
use Rattle.rules.specs.declared.Ran.{Ran}
use Rattle.rules.specs.Answers.{number}
use Rattle.rules.specs.Sheet.{run_sheet}
use borrow.Author.Tests.{eq-eqb, ne_eqb}
use Rattle.rules.specs.declared.Mode.{Mode}
use Rattle.rules.specs.declared.Mode.TheVariants.{Shared, Exclusive}
use Rattle.rules.specs.declared.Object.{Object}
use Rattle.rules.specs.declared.Ring.{Ring}
use Rattle.rules.specs.declared.Board.{Board}
use Rattle.rules.specs.Tables.{rows, count_of}
use Rattle.rules.specs.Bits.{taken}
use Rattle.rules.specs.Book.{hold_in, holder_at, who_at, mode_at}
use Rattle.rules.specs.Board.{object_at, ring_at, in_flight, tally}
use Rattle.text.specs.Text.{decimal, after_spaces, spaced, line_of, flat, at_most}
use Rattle.printed.specs.Lines.{letter, entry, entry_if, holder_entries, line_entries, object_line, object_lines, ring_entries, ring_line, ring_lines, last_line, command_line, command_lines, refused_line, printed, printed_sheet, word_ring, word_messages, word_rings, word_sheet}
use Rattle.text.proofs.Text.{spaces_append, spaces_one, added_two}

-- ---- an entry of a table, and one of the first n: what is read past the end does not matter
pub same_at : {A : Type 0} (l : List A) (i : ℕ) (d e : A) → i < length l → get_or l i d ≡ get_or l i e
same_at [] i d e h = absurd (omega arith)
same_at (x ∷ l) zero d e h = refl
same_at (x ∷ l) (suc i) d e h = same_at l i d e (omega arith)

pub first_at : {A : Type 0} (n : ℕ) (l : List A) (i : ℕ) (d e : A) → i < length (take n l) → get_or (take n l) i d ≡ get_or l i e
first_at zero l i d e h = absurd (omega arith)
first_at (suc n) [] i d e h = absurd (omega arith)
first_at (suc n) (x ∷ l) zero d e h = refl
first_at (suc n) (x ∷ l) (suc i) d e h = first_at n l i d e (omega arith)

-- ---- one more
pub side_next : (f : ℕ → List (List ℕ)) (k : ℕ) → after_spaces (flat k f) ++ after_spaces (f k) ≡ after_spaces (flat (k + 1) f)
unfolding flat
side_next f k = rw add-one (sym (spaces_append (flat k f) (f k)))

pub rows_next : (f : ℕ → List ℕ) (k : ℕ) → after_spaces (rows k f) ++ after_spaces (f k ∷ []) ≡ after_spaces (rows (k + 1) f)
unfolding rows
rows_next f k = rw add-one (sym (spaces_append (rows k f) (f k ∷ [])))

-- the same behind what stands on a page
module _ (page : List ℕ) where
  pub side_added : (f : ℕ → List (List ℕ)) (k : ℕ) {new last : List ℕ} → new ≡ page ++ after_spaces (flat k f) → last ≡ new ++ after_spaces (f k)
      → last ≡ page ++ after_spaces (flat (k + 1) f)
  side_added f k x y = added_two page (after_spaces (flat k f)) (after_spaces (f k)) x y (side_next f k)

  pub rows_added : (f : ℕ → List ℕ) (k : ℕ) {new last : List ℕ} → new ≡ page ++ after_spaces (rows k f) → last ≡ new ++ after_spaces (f k ∷ [])
      → last ≡ page ++ after_spaces (rows (k + 1) f)
  rows_added f k x y = added_two page (after_spaces (rows k f)) (after_spaces (f k ∷ [])) x y (rows_next f k)

-- ---- none yet
pub no_side : (f : ℕ → List (List ℕ)) → [] ≡ after_spaces (flat 0 f)
unfolding flat after_spaces
no_side f = refl

pub no_rows : (f : ℕ → List ℕ) → [] ≡ after_spaces (rows 0 f)
unfolding rows after_spaces
no_rows f = refl

-- ---- all of them
pub holders_whole : (o : Object) {p : ℕ} → p ≡ 16 → after_spaces (flat p (λ q. entry_if q (holder_at o q))) ≡ after_spaces (holder_entries o)
unfolding holder_entries
holders_whole o e = rw e

pub line_whole : (o : Object) {k : ℕ} → k ≡ at_most 16 o.line_count → after_spaces (rows k (λ j. entry (who_at o j) (mode_at o j))) ≡ after_spaces (line_entries o)
unfolding line_entries
line_whole o e = rw e

pub members_whole : (r : Ring) {k : ℕ} → k ≡ at_most 16 r.count → after_spaces (rows k (λ j. decimal (get_or r.processes j 0))) ≡ after_spaces (ring_entries r)
unfolding ring_entries
members_whole r e = rw e

pub objects_whole : (b : Board) {i : ℕ} → i ≡ at_most 16 b.object_count → flat i (λ j. object_line j (object_at b j)) ≡ object_lines b
unfolding object_lines
objects_whole b e = rw e

pub rings_whole : (b : Board) {s : ℕ} → s ≡ 16 → flat s (λ j. ring_line (ring_at b j)) ≡ ring_lines b
unfolding ring_lines
rings_whole b e = rw e

pub commands_whole : (n : ℕ) (room : List ℕ) {i : ℕ} → i ≡ at_most 4096 n → flat i (λ j. command_line j (get_or room j 0)) ≡ command_lines n room
unfolding command_lines
commands_whole n room e = rw e

-- ---- entries; a number that the code has comes with its equation
pub entry_parts : (p : ℕ) (m : Mode) {w l : ℕ} → w ≡ p → l ≡ letter m → ((32 ∷ []) ++ decimal w) ++ l ∷ [] ≡ after_spaces (entry p m ∷ [])
unfolding entry
entry_parts p m {w} {l} e f = rw (e, f) (sym (spaces_one (decimal p ++ letter m ∷ [])))

pub member_parts : (p : ℕ) {w : ℕ} → w ≡ p → (32 ∷ []) ++ decimal w ≡ after_spaces (decimal p ∷ [])
member_parts p {w} e = rw e (sym (spaces_one (decimal p)))

module _ (o : Object) (p : ℕ) where
  pub held_exclusive : taken o.exclusive p ≡ true → after_spaces (entry p Exclusive ∷ []) ≡ after_spaces (entry_if p (holder_at o p))
  unfolding hold_in
  held_exclusive e = rw e

  pub held_shared : taken o.exclusive p ≡ false → taken o.shared p ≡ true → after_spaces (entry p Shared ∷ []) ≡ after_spaces (entry_if p (holder_at o p))
  unfolding hold_in
  held_shared e f = rw (e, f)

  pub held_not : taken o.exclusive p ≡ false → taken o.shared p ≡ false → [] ≡ after_spaces (entry_if p (holder_at o p))
  unfolding hold_in after_spaces
  held_not e f = rw (e, f)

-- ---- lines
module _ (a b c d e f : List ℕ) where
  in_six : ((((a ++ b) ++ c) ++ d) ++ e) ++ f ≡ a ++ (b ++ (c ++ (d ++ (e ++ f))))
  in_six = simp append_assoc

  in_five : (((a ++ b) ++ c) ++ d) ++ e ≡ a ++ (b ++ (c ++ (d ++ e)))
  in_five = simp append_assoc

  in_four : ((a ++ b) ++ c) ++ d ≡ a ++ (b ++ (c ++ d))
  in_four = simp append_assoc

  after_three : (a ++ (b ++ c)) ++ d ≡ a ++ (b ++ (c ++ d))
  after_three = simp append_assoc

  after_words : (a ++ (b ++ (c ++ []))) ++ d ≡ a ++ (b ++ (c ++ d))
  after_words = simp (append_assoc, append-nil)

  after_word : (a ++ []) ++ d ≡ a ++ d
  after_word = simp append-nil

pub object_parts : (i : ℕ) (o : Object)
    → (((((111 ∷ []) ++ decimal i) ++ after_spaces (holder_entries o)) ++ 32 ∷ 47 ∷ []) ++ after_spaces (line_entries o)) ++ 10 ∷ [] ≡ object_line i o
unfolding object_line line_of spaced after_spaces
object_parts i o =
    let h = after_spaces (holder_entries o) in
    let l = after_spaces (line_entries o) in
    in_six (111 ∷ []) (decimal i) h (32 ∷ 47 ∷ []) l (10 ∷ [])
    ∙ sym (after_three (111 ∷ decimal i) h (32 ∷ 47 ∷ l) (10 ∷ []) [] [])
    ∙ ap (λ (x : List ℕ). (111 ∷ decimal i ++ x) ++ 10 ∷ []) (sym (spaces_append (holder_entries o) ((47 ∷ []) ∷ line_entries o)))

pub ring_parts : (r : Ring) → (eqb r.count 0 ≡ false) → (word_ring ++ after_spaces (ring_entries r)) ++ 10 ∷ [] ≡ ring_line r
unfolding ring_line line_of spaced
ring_parts r e = rw e

pub ring_none : (r : Ring) → (eqb r.count 0 ≡ true) → [] ≡ ring_line r
unfolding ring_line
ring_none r e = rw e

pub last_parts : (b : Board) {m t : ℕ} → m ≡ count_of 64 (in_flight b) → t ≡ tally b
    → ((((word_messages ++ 32 ∷ []) ++ decimal m) ++ (32 ∷ word_rings ++ 32 ∷ [])) ++ decimal t) ++ 10 ∷ [] ≡ last_line b
unfolding last_line line_of spaced after_spaces
last_parts b {m} {t} e f =
    in_five (word_messages ++ 32 ∷ []) (decimal m) (32 ∷ word_rings ++ 32 ∷ []) (decimal t) (10 ∷ []) []
    ∙ sym (ap (λ (x : List ℕ). word_messages ++ 32 ∷ x) (after_words (decimal m) (32 ∷ word_rings ++ 32 ∷ []) (decimal t) (10 ∷ []) [] []))
    ∙ rw (e, f)

pub command_parts : (i a : ℕ) {w : ℕ} → w ≡ a → ((decimal (i + 1) ++ 32 ∷ []) ++ decimal w) ++ 10 ∷ [] ≡ command_line i a
unfolding command_line line_of spaced after_spaces
command_parts i a {w} e =
    in_four (decimal (i + 1)) (32 ∷ []) (decimal w) (10 ∷ []) [] []
    ∙ sym (after_words (decimal (i + 1)) (32 ∷ []) (decimal w) (10 ∷ []) [] [])
    ∙ rw e

pub refused_parts : (n : ℕ) {w : ℕ} → w ≡ n → ((word_sheet ++ 32 ∷ []) ++ decimal w) ++ 10 ∷ [] ≡ refused_line n
unfolding refused_line line_of spaced after_spaces
refused_parts n {w} e =
    append_assoc (word_sheet ++ 32 ∷ []) (decimal w) (10 ∷ [])
    ∙ sym (ap (λ (x : List ℕ). word_sheet ++ 32 ∷ x) (after_word (decimal w) [] [] (10 ∷ []) [] []))
    ∙ rw e

-- ---- the whole text
module _ (ran : Ran) (room : List ℕ) where
  pub printed_done : number ran.answer ≡ 0
      → ((command_lines ran.commands room ++ object_lines ran.board) ++ ring_lines ran.board) ++ last_line ran.board ≡ printed ran room
  unfolding printed
  printed_done e = rw (eq-eqb (number ran.answer) 0 e)

  pub printed_refused : {n : ℕ} → n ≡ number ran.answer → (n ≡ 0 → ⊥) → refused_line n ≡ printed ran room
  unfolding printed
  printed_refused {n} e f = rw (e, ne_eqb (number ran.answer) 0 (λ z. f (e ∙ z)))

  -- on a page that was empty
  pub done_whole : number ran.answer ≡ 0 → {empty answered shown recorded last : List ℕ}
      → empty ≡ []
      → answered ≡ empty ++ command_lines ran.commands room
      → shown ≡ answered ++ object_lines ran.board
      → recorded ≡ shown ++ ring_lines ran.board
      → last ≡ recorded ++ last_line ran.board
      → last ≡ printed ran room
  done_whole e a b c d f = rw (f, d, c, b, a) (printed_done e)

  pub refused_whole : {n : ℕ} → n ≡ number ran.answer → (n ≡ 0 → ⊥) → {empty last : List ℕ} → empty ≡ [] → last ≡ empty ++ refused_line n → last ≡ printed ran room
  refused_whole e f a b = rw (b, a) (printed_refused e f)

-- of a sheet, and of what its run handed back
pub sheet_printed : (s : List ℕ) {start : List ℕ} {ran : Ran} {room : List ℕ} → start ≡ s
    → ran ≡ (run_sheet start (replicate 4096 0)).ran → room ≡ (run_sheet start (replicate 4096 0)).room → printed ran room ≡ printed_sheet s
unfolding printed_sheet
sheet_printed s {start} {ran} {room} e f g = rw (f, g, e)
