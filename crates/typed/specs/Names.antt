-- The names of the verbs and of the modes, each in a long and a short form; upper and lower case letters are alike.
use Rattle.std.specs.Prelude.{ℕ, suc, ◌+◌, ◌/◌, Bool, true, false, ◌&&◌, ◌||◌, List, [], ◌∷◌, eqb, leb, get_or, Option, find}
use Rattle.std.specs.Option.{option_map}
use Rattle.std.specs.Str.{str_eq_ignore_ascii_case}
use denote.Ref.{Bor}
use Rattle.rules.specs.Tables.{pick}
pub use Rattle.text.specs.Text.{bytes}
use Rattle.typed.specs.declared.Verb.{Verb}
use Rattle.typed.specs.declared.Verb.TheVariants.{Blank, Open, Request, Release, Deliver, Drain, Follow, Show, Messages, Waits, Rings, Undo, Help, Quit, Unknown}
use Rattle.typed.specs.Words.{words}

-- the letter in lower case; any other byte as it is
abbrev pub lower : ℕ → ℕ
lower c = pick (leb 65 c && leb c 90) (c + 32) c

-- a word is a name, which is written in lower case
unfoldable pub alike : List ℕ → List ℕ → Bool
alike [] [] = true
alike [] (n ∷ ns) = false
alike (c ∷ w) [] = false
alike (c ∷ w) (n ∷ ns) = pick (eqb (lower c) n) (alike w ns) false

-- what a word stands for in a table of names, each row a long form, a short form and what they stand for; either may be in any case
unfoldable pub named : {A : Type 0} → List ℕ → List (Bor (List ℕ) × Bor (List ℕ) × A) → Option A
named w names = option_map (λ n. n.2) (find (λ n. str_eq_ignore_ascii_case w n.0.now || str_eq_ignore_ascii_case w n.1.now) names)

-- the place of a word among names; the number of names where it is none of them
unfoldable pub place_in : List ℕ → List (List ℕ) → ℕ
place_in w [] = 0
place_in w (n ∷ ns) = elim (alike w n) [ true ↦ 0 | false ↦ suc (place_in w ns) ]

-- ---- the verbs; help and quit have two pairs of names
abbrev pub verb_names : List ℕ
verb_names =
    bytes "open o request r release re deliver d drain dr follow f show s messages m waits w rings ri undo u help h ? ? quit q exit e"

abbrev pub verbs : List Verb
verbs = Open ∷ Request ∷ Release ∷ Deliver ∷ Drain ∷ Follow ∷ Show ∷ Messages ∷ Waits ∷ Rings ∷ Undo ∷ Help ∷ Help ∷ Quit ∷ Quit ∷ []

abbrev pub verb_at : ℕ → Verb
verb_at n = get_or verbs n Unknown

unfoldable pub verb_of : List ℕ → Verb
verb_of w = verb_at (place_in w (words verb_names) / 2)

-- how a verb is printed: by its long form; one that names no command is called the command
abbrev pub verb_name : Verb → List ℕ
verb_name Open = bytes "open"
verb_name Request = bytes "request"
verb_name Release = bytes "release"
verb_name Deliver = bytes "deliver"
verb_name Drain = bytes "drain"
verb_name Follow = bytes "follow"
verb_name Show = bytes "show"
verb_name Messages = bytes "messages"
verb_name Waits = bytes "waits"
verb_name Rings = bytes "rings"
verb_name Undo = bytes "undo"
verb_name Help = bytes "help"
verb_name Quit = bytes "quit"
verb_name Blank = bytes "the command"
verb_name Unknown = bytes "the command"

-- ---- the modes: their names stand in the order of their numbers
abbrev pub mode_names : List ℕ
mode_names = bytes "shared s exclusive x"
