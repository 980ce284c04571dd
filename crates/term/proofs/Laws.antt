-- Laws of a stream taken in: pieces one after another are one piece, and bytes that lie inside one sheet can be taken at once.
-- Assumes nothing.
use Rattle.std.proofs.Common.{min, ◌≡◌, refl, sym, ap, ◌∙◌, true, false, List, [], ◌∷◌, ◌++◌, ℕ, suc, ◌+◌, ◌-◌, ◌≤◌, ◌<◌, arith, add-one, eqb, length, get_or, take, drop, take-append-drop, eq-eqb, ne_eqb, lt-ltb, le-ltb}
use native.Mathlib.Decide.{dec_lt, ℕ_discrete}
use Rattle.rules.specs.Tables.{pick}
use Rattle.text.specs.Text.{at_most, behind}
use Rattle.text.proofs.Text.{at_most_below, at_most_top, behind_out, behind_one}
use Rattle.totals.specs.declared.Totals.{Totals}
use Rattle.totals.specs.Stream.{whole, long, buffer, length_of, sized}
use Rattle.term.specs.declared.Chart.{Chart}
use Rattle.term.specs.declared.Place.{Place}
use Rattle.term.specs.declared.Place.TheVariants.{Between, Length, Inside, Ended}
use Rattle.term.specs.Feed.{Fed, at, counted, is_whole, held_in, settled, onward, byte, fed, at_once, closed, end_at, ended}
use Rattle.term.specs.Term.{joined, fed_all}

-- ---- pieces
pub fed_append : (f : Fed) (a b : List ℕ) → fed f (a ++ b) ≡ fed (fed f a) b
unfolding fed
fed_append f [] b = refl
fed_append f (x ∷ a) b = fed_append (byte f.chart.totals f.chart.place f.sheet x) a b

pub fed-all : (f : Fed) (pieces : List (List ℕ)) → fed_all f pieces ≡ fed f (joined pieces)
unfolding fed fed_all joined
fed-all f [] = refl
fed-all f (p ∷ ps) = fed-all (fed f p) ps ∙ sym (fed_append f p (joined ps))

-- ---- bytes after the end
module _ (t : Totals) (sheet : List ℕ) where
  pub fed_ended : (w : List ℕ) → fed (at t Ended sheet) w ≡ at t Ended sheet
  unfolding fed byte
  fed_ended [] = refl
  fed_ended (x ∷ w) = fed_ended w

-- ---- a count that has reached its limit stays there
pub at_most_more : (top n m : ℕ) → at_most top (at_most top n + m) ≡ at_most top (n + m)
at_most_more top n m = elim (dec_lt n top) [
  | yes h ↦ ap (λ (k : ℕ). at_most top (k + m)) (sym (at_most_below top n h))
  | no f ↦ ap (λ (k : ℕ). at_most top (k + m)) (sym (at_most_top top n (omega (arith, f))))
      ∙ sym (at_most_top top (top + m) (omega arith)) ∙ at_most_top top (n + m) (omega (arith, f))
]

-- the smaller of a count and its limit
pub at_most_is : (top n k : ℕ) → k ≡ min n top → k ≡ at_most top n
at_most_is top n k e = elim (dec_lt n top) [
  | yes h ↦ let f : k ≡ n = omega (arith, e, h) in f ∙ at_most_below top n h
  | no f ↦ let g : k ≡ top = omega (arith, e, f) in g ∙ at_most_top top n (omega (arith, f))
]

-- the count is at its limit only where the buffer is full
behind_at_most : (sheet : List ℕ) (held : ℕ) (bytes : List ℕ) → behind buffer sheet (at_most (buffer + 1) held) bytes ≡ behind buffer sheet held bytes
behind_at_most sheet held bytes = elim (dec_lt held (buffer + 1)) [
  | yes h ↦ ap (λ (k : ℕ). behind buffer sheet k bytes) (sym (at_most_below (buffer + 1) held h))
  | no f ↦ ap (λ (k : ℕ). behind buffer sheet k bytes) (sym (at_most_top (buffer + 1) held (omega (arith, f))))
      ∙ sym (behind_out buffer sheet (buffer + 1) bytes (omega arith)) ∙ behind_out buffer sheet held bytes (omega (arith, f))
]

-- ---- a sheet of n bytes
pub sized_long : (n : ℕ) (kept : List ℕ) → buffer < n → sized n kept ≡ long
unfolding sized
sized_long n kept h = rw (lt-ltb buffer n h)

pub sized_whole : (n : ℕ) (kept : List ℕ) → n ≤ buffer → sized n kept ≡ whole (take n kept)
unfolding sized
sized_whole n kept h = rw (le-ltb buffer n h)

-- ---- a sheet goes on, or is counted
module _ (t : Totals) (held left : ℕ) (sheet : List ℕ) where
  pub onward_last : left ≡ 0 → onward t held left sheet ≡ at (counted t (sized held sheet)) Between sheet
  unfolding settled
  onward_last e = rw (eq-eqb left 0 e)

  pub onward_inside : 0 < left → onward t held left sheet ≡ at t (Inside held left) sheet
  unfolding settled
  onward_inside h = rw (ne_eqb left 0 (λ z. omega (arith, z)))

-- ---- bytes inside a sheet, taken at once: a first one, and no more after it than are to come
first_inside : (t : Totals) (held left : ℕ) (sheet : List ℕ) (x : ℕ) (bytes : List ℕ) → length bytes ≤ left - 1
    → fed (at t (Inside held left) sheet) (x ∷ bytes) ≡ onward t (at_most (buffer + 1) (held + suc (length bytes))) (left - suc (length bytes)) (behind buffer sheet held (x ∷ bytes))
unfolding fed byte
first_inside t held left sheet x [] h = refl
first_inside t held left sheet x (y ∷ bytes) h =
    let next = at_most (buffer + 1) (held + 1) in
    let after = behind buffer sheet held (x ∷ []) in
    let n = suc (length bytes) in
    let count : at_most (buffer + 1) (next + n) ≡ at_most (buffer + 1) (held + suc n) = at_most_more (buffer + 1) (held + 1) n ∙ ap (at_most (buffer + 1)) (omega arith) in
    let rest : left - 1 - n ≡ left - suc n = omega arith in
    let there : behind buffer after next (y ∷ bytes) ≡ behind buffer sheet held (x ∷ y ∷ bytes) =
    behind_at_most after (held + 1) (y ∷ bytes) ∙ ap (λ (k : ℕ). behind buffer after k (y ∷ bytes)) (add-one held) ∙ behind_one buffer sheet held x (y ∷ bytes) in
    ap (λ (f : Fed). fed f (y ∷ bytes)) (onward_inside t next (left - 1) after (omega arith))
    ∙ first_inside t next (left - 1) after y bytes (omega arith)
    ∙ (λ i. onward t (count i) (rest i) (there i))

-- some bytes: no more than are to come, or one where none are
pub fed_inside : (t : Totals) (held left : ℕ) (sheet bytes : List ℕ) → 0 < length bytes → length bytes - 1 ≤ left - 1
    → fed (at t (Inside held left) sheet) bytes ≡ onward t (at_most (buffer + 1) (held + length bytes)) (left - length bytes) (behind buffer sheet held bytes)
fed_inside t held left sheet [] some h = absurd (omega (arith, some))
fed_inside t held left sheet (x ∷ bytes) some h = first_inside t held left sheet x bytes (omega (arith, h))

-- ---- what can be taken at once, by the place
module _ (t : Totals) (place : Place) (sheet : List ℕ) where
  pub settled_whole : is_whole place ≡ true → settled t place sheet ≡ at (counted t (sized (held_in place) sheet)) Between sheet
  unfolding settled
  settled_whole e = rw e

  pub settled_not : is_whole place ≡ false → settled t place sheet ≡ at t place sheet
  unfolding settled
  settled_not e = rw e

module _ (t : Totals) (place : Place) (sheet : List ℕ) where
  pub moved_between : (bytes : List ℕ) → place ≡ Between → 0 < length bytes → length bytes ≤ at_once place
      → fed (at t place sheet) bytes ≡ settled t (Length (get_or bytes 0 0)) sheet
  unfolding fed byte settled
  moved_between [] e some h = absurd (omega (arith, some))
  moved_between (x ∷ []) e some h = rw e
  moved_between (x ∷ y ∷ bytes) e some h = let one : length (x ∷ y ∷ bytes) ≤ 1 = rw e at h in absurd (omega (arith, one))

  pub moved_length : (bytes : List ℕ) (high : ℕ) → place ≡ Length high → 0 < length bytes → length bytes ≤ at_once place
      → fed (at t place sheet) bytes ≡ onward t 0 (length_of high (get_or bytes 0 0)) sheet
  unfolding fed byte
  moved_length [] high e some h = absurd (omega (arith, some))
  moved_length (x ∷ []) high e some h = rw e
  moved_length (x ∷ y ∷ bytes) high e some h = let one : length (x ∷ y ∷ bytes) ≤ 1 = rw e at h in absurd (omega (arith, one))

  pub moved_inside : (bytes : List ℕ) (held left : ℕ) → place ≡ Inside held left → 0 < length bytes → length bytes ≤ at_once place
      → fed (at t place sheet) bytes ≡ onward t (at_most (buffer + 1) (held + length bytes)) (left - length bytes) (behind buffer sheet held bytes)
  moved_inside bytes held left e some h =
      let most : length bytes ≤ pick (eqb left 0) 1 left = rw e at h in
      ap (λ (p : Place). fed (at t p sheet) bytes) e ∙ fed_inside t held left sheet bytes some (rest most)
    where
      rest : length bytes ≤ pick (eqb left 0) 1 left → length bytes - 1 ≤ left - 1
      rest = elim (ℕ_discrete left 0) [
        | yes z ↦ rw (eq-eqb left 0 z) (λ m. omega (arith, m))
        | no z ↦ rw (ne_eqb left 0 z) (λ m. omega (arith, m))
      ]

  pub moved_ended : (bytes : List ℕ) → place ≡ Ended → fed (at t place sheet) bytes ≡ settled t Ended sheet
  unfolding settled
  moved_ended bytes e = ap (λ (p : Place). fed (at t p sheet) bytes) e ∙ fed_ended t sheet bytes

-- ---- the end, by the place
pub ended_at : (c : Chart) (p : Place) → c.place ≡ p → closed (end_at c.totals p) ≡ ended c
unfolding ended
ended_at c p e = ap (λ (x : Place). closed (end_at c.totals x)) (sym e)

-- ---- a piece in two parts
pub fed_parts : (f : Fed) (n : ℕ) (l : List ℕ) {front back : List ℕ} → front ≡ take n l → back ≡ drop n l → fed f l ≡ fed (fed f front) back
fed_parts f n l e g = ap (fed f) (sym (take-append-drop n l)) ∙ fed_append f (take n l) (drop n l) ∙ (λ i. fed (fed f (sym e i)) (sym g i))
