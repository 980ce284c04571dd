-- A chart has the totals of its stream's sheets, however the stream came in pieces. Assumes nothing.
use Rattle.std.proofs.Common.{◌≡◌, refl, sym, ap, ◌∙◌, List, [], ◌∷◌, ◌++◌, ℕ, zero, suc, ◌+◌, ◌-◌, ◌≤◌, ◌<◌, arith, length, take, drop, length-drop, take-append-drop, length-take-le, take_all, take_at, lt-ltb, le-ltb}
use native.Mathlib.Decide.{dec_lt}
use Rattle.text.specs.Text.{at_most, written, behind}
use Rattle.text.proofs.Text.{at_most_below, at_most_top, written_parts, behind_length}
use Rattle.totals.specs.declared.Totals.{Totals}
use Rattle.totals.specs.Stream.{Sheet, whole, cut, buffer, length_of, sized, sheets_within, sheets_in}
use Rattle.totals.specs.Totals.{totals_of}
use Rattle.term.specs.declared.Place.TheVariants.{Between}
use Rattle.term.specs.Feed.{Fed, at, counted, onward, byte, fed, end_at, ended}
use Rattle.term.specs.Term.{joined, Charted, Stops, ChartHolds}
use Rattle.term.proofs.Laws.{fed_append, fed-all, fed_ended, onward_last, onward_inside, fed_inside, sized_long, sized_whole}
use Rattle.term.proofs.Sums.{count_all, counted_all, add_up}
use Rattle.term.proofs.Lengths.{by_length}

-- ---- a sheet of n bytes, all of which came
module _ (sheet : List ℕ) (size : length sheet ≡ buffer) (n : ℕ) (w : List ℕ) (all : n ≤ length w) where
  abbrev after : List ℕ
  after = behind buffer sheet 0 (take n w)

  took : length (take n w) ≡ n
  took = length-take-le n w all

  after_length : length after ≡ buffer
  after_length = behind_length buffer sheet 0 (take n w) ∙ size

  fitting : n < buffer + 1 → after ≡ take n w ++ drop (0 + length (take n w)) sheet
  unfolding behind
  fitting h = ap (written sheet 0) (take_all (buffer - 0) (take n w) (omega (arith, h, took))) ∙ written_parts sheet 0 (take n w) (omega (arith, size, took))

  -- the buffer holds it, or it is too long in both counts
  sized_same : sized (at_most (buffer + 1) n) after ≡ sized n w
  sized_same = elim (dec_lt n (buffer + 1)) [
    | yes h ↦
        let there : take n after ≡ take n w = ap (take n) (fitting h) ∙ take_at (take n w) (drop (0 + length (take n w)) sheet) n took in
        ap (λ (k : ℕ). sized k after) (sym (at_most_below (buffer + 1) n h))
        ∙ sized_whole n after (omega (arith, h)) ∙ ap whole there ∙ sym (sized_whole n w (omega (arith, h)))
    | no f ↦ ap (λ (k : ℕ). sized k after) (sym (at_most_top (buffer + 1) n (omega (arith, f))))
        ∙ sized_long (buffer + 1) after (omega arith) ∙ sym (sized_long n w (omega (arith, f)))
  ]

  -- it is counted
  sheet_taken : (t : Totals) → fed (onward t 0 n sheet) (take n w) ≡ at (counted t (sized n w)) Between after
  unfolding fed behind written
  sheet_taken t = elim (dec_lt 0 n) [
    | yes h ↦
        ap (λ (f : Fed). fed f (take n w)) (onward_inside t 0 n sheet h)
        ∙ fed_inside t 0 n sheet (take n w) (omega (arith, took, h)) (omega (arith, took))
        ∙ onward_last t _ _ after (omega (arith, took))
        ∙ ap (λ (s : Sheet). at (counted t s) Between after) (ap (λ (k : ℕ). sized (at_most (buffer + 1) k) after) (omega (arith, took)) ∙ sized_same)
    | no f ↦ let z : n ≡ 0 = omega (arith, f) in rw z (onward_last t 0 0 sheet refl ∙ ap (λ (s : Sheet). at (counted t s) Between sheet) (sized_whole 0 sheet (omega arith) ∙ sym (sized_whole 0 w (omega arith))))
  ]

-- ---- a sheet that is cut off
cut_off : (t : Totals) (n : ℕ) (sheet w : List ℕ) → length w < n → (ended (fed (onward t 0 n sheet) w).chart).totals ≡ counted t cut
unfolding fed ended end_at
cut_off t n sheet [] h = rw (onward_inside t 0 n sheet h)
cut_off t n sheet (x ∷ w) h = rw (
  onward_inside t 0 n sheet (omega (arith, h)),
  fed_inside t 0 n sheet (x ∷ w) (omega arith) (omega (arith, h)),
  onward_inside t (at_most (buffer + 1) (0 + length (x ∷ w))) (n - length (x ∷ w)) (behind buffer sheet 0 (x ∷ w)) (omega (arith, h)),
)

-- ---- from between two sheets on: those of the rest are counted one by one
from_between : (k : ℕ) (w : List ℕ) (t : Totals) (sheet : List ℕ) → length w ≤ k → length sheet ≡ buffer → (ended (fed (at t Between sheet) w).chart).totals ≡ count_all t (sheets_within k w)
unfolding fed byte ended end_at sheets_within count_all
from_between zero [] t sheet h size = refl
from_between zero (x ∷ w) t sheet h size = absurd (omega (arith, h))
from_between (suc k) [] t sheet h size = refl
from_between (suc k) (high ∷ []) t sheet h size = refl
from_between (suc k) (high ∷ low ∷ w) t sheet h size =
    let n = length_of high low in
    elim (dec_lt (length w) n) [
      | yes l ↦ rw (lt-ltb (length w) n l) (cut_off t n sheet w l)
      | no f ↦
          let all : n ≤ length w = omega (arith, f) in
          let rest = drop n w in
          rw (le-ltb (length w) n all) (
          ap (λ (x : List ℕ). (ended (fed (onward t 0 n sheet) x).chart).totals) (sym (take-append-drop n w))
          ∙ ap (λ (g : Fed). (ended g.chart).totals) (fed_append (onward t 0 n sheet) (take n w) rest ∙ ap (λ (g : Fed). fed g rest) (sheet_taken sheet size n w all t))
          ∙ from_between k rest (counted t (sized n w)) (after sheet size n w all) (omega (arith, h, length-drop n w)) (after_length sheet size n w all))
    ]

charted : Charted
unfolding sheets_in
charted pieces sheet size =
    let w = joined pieces in
    ap (λ (f : Fed). (ended f.chart).totals) (fed-all (at (totals_of []) Between sheet) pieces)
    ∙ from_between (length w) w (totals_of []) sheet (omega arith) size
    ∙ counted_all [] (sheets_in w)

stops : Stops
unfolding ended
stops c sheet w = fed_ended (end_at c.totals c.place) sheet w

pub chart_holds : ChartHolds
chart_holds = record { charted = charted; stops = stops; sums = add_up; lengths = by_length }
