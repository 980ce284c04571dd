-- What a line says before its comment: the verb that its first word names, and the numbers that the later words stand for.
use Rattle.std.specs.Prelude.{ℕ, ◌+◌, List, [], ◌∷◌, set, replicate, Option, Some, None}
use Rattle.std.specs.Option.{option_or}
use Rattle.typed.specs.declared.Verb.{Verb}
use Rattle.typed.specs.declared.Verb.TheVariants.{Blank}
use Rattle.typed.specs.declared.Typed.{Typed}
use Rattle.typed.specs.Words.{uncommented, words}
use Rattle.typed.specs.Names.{verb_of}
use Rattle.typed.specs.Numbers.{meaning}

-- a verb, and no word after it
abbrev pub begun : Verb → Typed
begun v = record { verb = v; numbers = replicate 35 0; count = 0; odd = None }

-- one word more: every word is counted, and a number past the row's end is not kept
abbrev pub with_number : ℕ → Typed → Typed
with_number n t = record { verb = t.verb; numbers = set t.numbers t.count n; count = t.count + 1; odd = t.odd }

-- the first word that is not understood is noted
abbrev pub with_odd : Typed → Typed
with_odd t = record { verb = t.verb; numbers = t.numbers; count = t.count + 1; odd = option_or t.odd (Some (t.count + 1)) }

abbrev pub with_meaning : Option ℕ → Typed → Typed
with_meaning (Some n) t = with_number n t
with_meaning None t = with_odd t

unfoldable pub with_words : Typed → List (List ℕ) → Typed
with_words t [] = t
with_words t (w ∷ ws) = with_words (with_meaning (meaning t.verb t.count w) t) ws

abbrev pub of_words : List (List ℕ) → Typed
of_words [] = begun Blank
of_words (w ∷ ws) = with_words (begun (verb_of w)) ws

unfoldable pub reading : List ℕ → Typed
reading line = of_words (words (uncommented line))
