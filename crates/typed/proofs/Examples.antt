-- Lines and what they say, computed by the checker.
use Rattle.std.proofs.Common.{ℕ, ◌-◌, ◌≡◌, refl, List, [], ◌∷◌, ◌++◌, length, replicate, Option, Some, None}
use Prim.Native.String.{String}
use Rattle.typed.specs.declared.Verb.{Verb}
use Rattle.typed.specs.declared.Verb.TheVariants.{Blank, Open, Request, Release, Deliver, Drain, Follow, Show, Messages, Help, Quit, Unknown}
use Rattle.typed.specs.Words.{comment_at, blank, of_sort, run, words_from}
use Rattle.typed.specs.Names.{bytes, alike, place_in, verb_of}
use Rattle.typed.specs.Numbers.{is_digit, decimal_from, decimal, mode_or, mode, asks_mode, letter_at, letter, digits, meaning}
use Rattle.typed.specs.Reading.{with_words, reading}

-- the verb, the numbers, how many words came after the verb, and the place of the first of them that is not understood
abbrev Says : String → Verb → List ℕ → ℕ → Option ℕ → Type 0
Says line v ns count odd = reading (bytes line) ≡ record { verb = v; numbers = ns ++ replicate (35 - length ns) 0; count = count; odd = odd }

lines :
    Says "" Blank [] 0 None
    × Says " \t \r" Blank [] 0 None
    × Says "open 3 3 2" Open (3 ∷ 3 ∷ 2 ∷ []) 3 None
    × Says "request 0 1 exclusive" Request (0 ∷ 1 ∷ 1 ∷ []) 3 None
    × Says "\tR  2 0   S\r" Request (2 ∷ 0 ∷ 0 ∷ []) 3 None
    × Says "Release 15 15" Release (15 ∷ 15 ∷ []) 2 None
    × Says "re 1" Release (1 ∷ []) 1 None
    × Says "deliver 0063" Deliver (63 ∷ []) 1 None
    × Says "d 70000" Deliver (65535 ∷ []) 1 None
    × Says "drain" Drain [] 0 None
    × Says "drain 4 # at most" Drain (4 ∷ []) 1 None
    × Says "# drain" Blank [] 0 None
    × Says "follow" Follow [] 0 None
    × Says "f#2" Follow [] 0 None
    × Says "m 2" Messages (2 ∷ []) 1 None
    × Says "? exit" Help [] 1 (Some 1)
    × Says "Exit" Quit [] 0 None
    × Says "request p0 O1 x" Request (0 ∷ 1 ∷ 1 ∷ []) 3 None
    × Says "release P15 o3" Release (15 ∷ 3 ∷ []) 2 None
    × Says "request o1 p0 x" Request (0 ∷ 0 ∷ 1 ∷ []) 3 (Some 1)
    × Says "request p pp1 o1" Request [] 3 (Some 1)
    × Says "release 1 o" Release (1 ∷ []) 2 (Some 2)
    × Says "deliver p0" Deliver [] 1 (Some 1)
    × Says "request 0 1 2" Request (0 ∷ 1 ∷ 2 ∷ []) 3 None
    × Says "request 0 1 y" Request (0 ∷ 1 ∷ []) 3 (Some 3)
    × Says "request s x x" Request (0 ∷ 0 ∷ 1 ∷ []) 3 (Some 1)
    × Says "open x x x" Open [] 3 (Some 1)
    × Says "deliver s" Deliver [] 1 (Some 1)
    × Says "quit -1" Quit [] 1 (Some 1)
    × Says "requests 7" Unknown (7 ∷ []) 1 None
    × Says "show 1 2 3 4 5 6 7 8 9 0 1 2 3 4 5 6 7 8 9 0 1 2 3 4 5 6 7 8 9 0 1 2 3 4 5 6 7" Show (1 ∷ 2 ∷ 3 ∷ 4 ∷ 5 ∷ 6 ∷ 7 ∷ 8 ∷ 9 ∷ 0 ∷ 1 ∷ 2 ∷ 3 ∷ 4 ∷ 5 ∷ 6 ∷ 7 ∷ 8 ∷ 9 ∷ 0 ∷ 1 ∷ 2 ∷ 3 ∷ 4 ∷ 5 ∷ 6 ∷ 7 ∷ 8 ∷ 9 ∷ 0 ∷ 1 ∷ 2 ∷ 3 ∷ 4 ∷ 5 ∷ []) 37 None
unfolding reading with_words comment_at words_from run blank of_sort alike place_in verb_of is_digit decimal_from decimal mode_or mode asks_mode letter_at letter digits meaning
lines = (refl, refl, refl, refl, refl, refl, refl, refl, refl, refl, refl, refl, refl, refl, refl, refl, refl, refl, refl, refl, refl, refl, refl, refl, refl, refl, refl, refl, refl, refl, refl)
