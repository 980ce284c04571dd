-- What is read of a line, which is all before its comment; and the words of a line: runs of bytes other than blanks.
use Rattle.std.specs.Prelude.{ℕ, suc, Bool, true, false, not, List, [], ◌∷◌, eqb, take}
use Rattle.rules.specs.Tables.{pick, either}

-- ---- a comment
-- the place of the first # of a line; the line's end where there is none
unfoldable pub comment_at : List ℕ → ℕ
comment_at [] = 0
comment_at (c ∷ s) = elim (eqb c 35) [ true ↦ 0 | false ↦ suc (comment_at s) ]

-- from the first # of a line to its end nothing is read
abbrev pub uncommented : List ℕ → List ℕ
uncommented line = take (comment_at line) line

-- ---- words
-- a blank: a space, a tab or a carriage return
unfoldable pub blank : ℕ → Bool
blank c = either (eqb c 32) (either (eqb c 9) (eqb c 13))

-- a byte of one sort: a blank, or none
unfoldable pub of_sort : Bool → ℕ → Bool
of_sort true c = blank c
of_sort false c = not (blank c)

-- how many bytes of a sort a line starts with
unfoldable pub run : Bool → List ℕ → ℕ
run sort [] = 0
run sort (c ∷ s) = elim (of_sort sort c) [ true ↦ suc (run sort s) | false ↦ 0 ]

-- the word that a line starts with
abbrev pub word_at : List ℕ → List ℕ
word_at s = take (run false s) s

-- A word starts at each byte that is no blank and follows none; `inside` where the byte before is part of a word.
unfoldable pub words_from : Bool → List ℕ → List (List ℕ)
words_from inside [] = []
words_from inside (c ∷ s) = elim (blank c) [
  | true ↦ words_from false s
  | false ↦ pick inside (words_from true s) (word_at (c ∷ s) ∷ words_from true s)
]

abbrev pub words : List ℕ → List (List ℕ)
words s = words_from false s
