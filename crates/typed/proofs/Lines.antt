-- Laws of the reading of a line: its words after the verb are taken one after another. Assumes nothing.
use Rattle.std.proofs.Common.{◌≡◌, sym, ap, ◌∙◌, ℕ, ◌≤◌, List, [], ◌∷◌, arith, length, Option}
use Rattle.std.proofs.lemmas.List.{length-take}
use Rattle.typed.specs.declared.Typed.{Typed}
use Rattle.typed.specs.declared.Verb.{Verb}
use Rattle.typed.specs.declared.Verb.TheVariants.{Blank}
use Rattle.typed.specs.Words.{comment_at, uncommented, words}
use Rattle.typed.specs.Names.{verb_of}
use Rattle.typed.specs.Numbers.{meaning}
use Rattle.typed.specs.Reading.{begun, with_meaning, with_words, of_words, reading}
use Rattle.typed.proofs.Runs.{words_le}

-- where no word is left, nothing changes
pub no_more : (t : Typed) (ws : List (List ℕ)) → ws ≡ [] → with_words t ws ≡ t
unfolding with_words
no_more t ws h = ap (with_words t) h

-- what a turn of the reader makes of the word leaves the whole as it was
pub turned : (t new whole : Typed) (ws rest : List (List ℕ)) (w : List ℕ) (m : Option ℕ) → ws ≡ w ∷ rest → m ≡ meaning t.verb t.count w → new ≡ with_meaning m t
    → with_words t ws ≡ whole → with_words new rest ≡ whole
unfolding with_words
turned t new whole ws rest w m h e f g =
    ap (λ (x : Typed). with_words x rest) (f ∙ ap (λ (x : Option ℕ). with_meaning x t) e) ∙ sym (ap (with_words t) h) ∙ g

-- the words of a line: none, or the first names a verb
module _ (line s : List ℕ) (ws : List (List ℕ)) (read : s ≡ uncommented line) (of : ws ≡ words s) where
  whole : ws ≡ words (uncommented line)
  whole = of ∙ ap words read

  pub no_word : (t : Typed) → ws ≡ [] → t ≡ begun Blank → t ≡ reading line
  unfolding reading
  no_word t h e = e ∙ ap of_words (sym h ∙ whole)

  pub a_verb : (t : Typed) (w : List ℕ) (rest : List (List ℕ)) (v : Verb) (b : Typed) → ws ≡ w ∷ rest → v ≡ verb_of w → b ≡ begun v → t ≡ with_words b rest → t ≡ reading line
  unfolding reading
  a_verb t w rest v b h e f g = g ∙ ap (λ (x : Typed). with_words x rest) (f ∙ ap begun e) ∙ ap of_words (sym h ∙ whole)

  -- there are no more words than bytes
  pub few_words : length ws ≤ length line
  few_words = rw whole (omega (arith, words_le (uncommented line), length-take (comment_at line) line))
