-- The words of a line, as they are taken one after another.
use Rattle.std.specs.Prelude.{ℕ, ◌≡◌, List, [], ◌∷◌, Option, MatchOption}
use denote.Ref.{Bor}
use Rattle.typed.specs.declared.words.Words.{Words}
use Rattle.typed.specs.Words.{words}

-- the first word of a line and the line behind it; none where the line has no word
abbrev pub NextWord : List ℕ → Option (Bor (List ℕ) × Bor (List ℕ)) → Type 0
NextWord s next = MatchOption next (words s ≡ []) (λ p. words s ≡ p.0.now ∷ words p.1.now)

-- the words that are still to come
abbrev pub words_left : Words → List (List ℕ)
words_left w = words w.left.now
