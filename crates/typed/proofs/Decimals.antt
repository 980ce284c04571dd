-- Laws of decimal numbers: a digit more, that a number kept at most at the largest one reads the same, and a letter before the digits.
-- Assumes nothing.
use Rattle.std.proofs.Common.{◌≡◌, refl, ap, ap₂, ◌∙◌, true, false, List, [], ◌∷◌, ℕ, ◌+◌, ◌-◌, ◌*◌, ◌≤◌, ◌<◌, min, Option, Some, None, arith, length, get_or, drop, eqb, ltb, add-one, drop_of_length-le, drop-cons, le-leb, lt-ltb, le-ltb}
use Rattle.std.proofs.Math.Decide.{dec_lt}
use Rattle.std.proofs.lemmas.Bool.{lt-leb}
use Rattle.std.specs.Char.{is_ascii_digit, to_ascii_lowercase}
use Rattle.std.specs.Option.{option_eq, option_or}
use Rattle.rules.proofs.Tables.{by_test}
use Rattle.typed.specs.Words.{words}
use Rattle.typed.specs.Names.{lower, place_in, mode_names}
use Rattle.typed.specs.Numbers.{is_digit, largest, decimal_from, decimal, mode_or, mode, digits}

pub digit_is : (c : ℕ) → is_ascii_digit c ≡ is_digit c
unfolding is_digit
digit_is c = refl

-- two numbers that are cut to the same one
pub cut : (n m : ℕ) (s : List ℕ) → min largest n ≡ min largest m → decimal_from n s ≡ decimal_from m s
unfolding decimal_from
cut n m [] e = ap Some e
cut n m (c ∷ s) e = by_test (is_digit c) (λ z. rw (decimal_from, z) (cut (n * 10 + (c - 48)) (m * 10 + (c - 48)) s (omega arith))) (λ z. rw (decimal_from, z))

pub decimal_goes : (n : ℕ) (w : List ℕ) (i : ℕ) → i < length w → true ≡ is_ascii_digit (get_or w i 0)
    → decimal_from n (drop i w) ≡ decimal_from (n * 10 + (get_or w i 0 - 48)) (drop (i + 1) w)
unfolding decimal_from
decimal_goes n w i h e = rw (add-one, drop-cons w i 0 h, decimal_from, ← digit_is (get_or w i 0), ← e)

pub decimal_stops : (n : ℕ) (w : List ℕ) (i : ℕ) → i < length w → false ≡ is_ascii_digit (get_or w i 0) → decimal_from n (drop i w) ≡ None
unfolding decimal_from
decimal_stops n w i h e = rw (drop-cons w i 0 h, decimal_from, ← digit_is (get_or w i 0), ← e)

pub decimal_ends : (n : ℕ) (w : List ℕ) (i : ℕ) → n ≤ largest → length w ≤ i → decimal_from n (drop i w) ≡ Some n
unfolding decimal_from
decimal_ends n w i l h = rw (drop_of_length-le w h) (ap Some (omega (arith, l)))

-- a word with no digit, and one that may have some
pub decimal_none : (w : List ℕ) → length w ≡ 0 → decimal w ≡ None
unfolding decimal
decimal_none [] h = refl
decimal_none (c ∷ w) h = absurd (omega arith)

pub decimal_some : (w : List ℕ) → false ≡ eqb (length w) 0 → decimal_from 0 w ≡ decimal w
unfolding decimal
decimal_some [] h = absurd (cc)
decimal_some (c ∷ w) h = refl

-- ---- a mode's name, or a number
or_else : (p : ℕ) (d : Option ℕ) → option_or (mode_or p None) d ≡ mode_or p d
unfolding mode_or
or_else p d = by_test (ltb p 4) (λ e. rw e) (λ e. rw e)

pub mode_is : (w : List ℕ) (o d r : Option ℕ) → o ≡ mode_or (place_in w (words mode_names)) None → d ≡ decimal w → r ≡ option_or o d → r ≡ mode w
unfolding mode
mode_is w o d r e f h = h ∙ ap₂ option_or e f ∙ or_else (place_in w (words mode_names)) (decimal w)

-- ---- a letter before the digits
pub lower_is : (c : ℕ) → to_ascii_lowercase c ≡ lower c
lower_is c = elim (dec_lt c 65) [
  | yes a ↦ rw (lt-ltb c 65 a, lt-leb 65 c a)
  | no a ↦ elim (dec_lt c 91) [
    | yes b ↦ rw (le-ltb c 65 (omega (arith, a)), lt-ltb c 91 b, le-leb 65 c (omega (arith, a)), le-leb c 90 (omega (arith, b)))
    | no b ↦ rw (le-ltb c 65 (omega (arith, a)), le-ltb c 91 (omega (arith, b)), le-leb 65 c (omega (arith, a)), lt-leb c 90 (omega (arith, b)))
  ]
]

pub digits_behind : (l : Option ℕ) (c : ℕ) (r w : List ℕ) → w ≡ c ∷ r → option_eq eqb (Some (to_ascii_lowercase c)) l ≡ true → r ≡ digits l w
unfolding digits
digits_behind None c r w e h = absurd (cc)
digits_behind (Some l) c r w e h = rw (e, ← lower_is c, h)

pub digits_all : (l : Option ℕ) (c : ℕ) (r w : List ℕ) → w ≡ c ∷ r → option_eq eqb (Some (to_ascii_lowercase c)) l ≡ false → w ≡ digits l w
unfolding digits
digits_all None c r w e h = refl
digits_all (Some l) c r w e h = rw (e, ← lower_is c, h)

pub digits_none : (l : Option ℕ) (w : List ℕ) → length w ≡ 0 → w ≡ digits l w
unfolding digits
digits_none None w h = refl
digits_none (Some l) [] h = refl
digits_none (Some l) (c ∷ w) h = absurd (omega arith)
