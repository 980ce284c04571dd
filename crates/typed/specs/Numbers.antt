-- What a word after the verb stands for: a decimal number, before which a process and an object may have their letter, as in p0 and o1;
-- or, where a mode is asked for, the number of a mode.
use Rattle.std.specs.Prelude.{ℕ, ◌+◌, ◌-◌, ◌*◌, ◌/◌, min, Bool, true, false, ◌&&◌, List, [], ◌∷◌, eqb, leb, ltb, Option, Some, None}
use Rattle.std.specs.List.{slice_get}
use Rattle.rules.specs.Tables.{pick, either}
use Rattle.typed.specs.declared.Verb.{Verb}
use Rattle.typed.specs.declared.Verb.TheVariants.{Request, Release}
use Rattle.typed.specs.Verbs.{is}
use Rattle.typed.specs.Words.{words}
use Rattle.typed.specs.Names.{bytes, lower, place_in, mode_names}

unfoldable pub is_digit : ℕ → Bool
is_digit c = leb 48 c && leb c 57

-- a number above this one reads as this one
abbrev pub largest : ℕ
largest = 65535

-- the digits s after others that stand for n; a word with any other byte is not understood, which is None
unfoldable pub decimal_from : ℕ → List ℕ → Option ℕ
decimal_from n [] = Some (min largest n)
decimal_from n (c ∷ s) = elim (is_digit c) [ true ↦ decimal_from (n * 10 + (c - 48)) s | false ↦ None ]

-- a number has one digit or more
unfoldable pub decimal : List ℕ → Option ℕ
decimal [] = None
decimal (c ∷ s) = decimal_from 0 (c ∷ s)

-- ---- modes
-- a mode's name reads as the mode's number
unfoldable pub mode_or : ℕ → Option ℕ → Option ℕ
mode_or place other = pick (ltb place 4) (Some (place / 2)) other

unfoldable pub mode : List ℕ → Option ℕ
mode w = mode_or (place_in w (words mode_names)) (decimal w)

-- a mode is asked for by a request, behind its process and its object
unfoldable pub asks_mode : Verb → ℕ → Bool
asks_mode v before = is v Request && eqb before 2

-- ---- letters
-- a process stands behind no word, an object behind one; no other has a letter
unfoldable pub letter_at : ℕ → Option ℕ
letter_at before = slice_get (bytes "po") before

-- the letter that may stand before a number: of a request and of a release
unfoldable pub letter : Verb → ℕ → Option ℕ
letter v before = pick (either (is v Request) (is v Release)) (letter_at before) None

-- a word without the letter that may stand before its number, upper and lower case alike
unfoldable pub digits : Option ℕ → List ℕ → List ℕ
digits None w = w
digits (Some l) [] = []
digits (Some l) (c ∷ w) = pick (eqb (lower c) l) w (c ∷ w)

-- ---- a word of a verb, with so many words before it
unfoldable pub meaning : Verb → ℕ → List ℕ → Option ℕ
meaning v before w = pick (asks_mode v before) (mode w) (decimal (digits (letter v before) w))
