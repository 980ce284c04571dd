-- What a program takes its argument for: `--help` or `-h` is Help; `-` alone is standard input; any other word that begins with `-` is
-- Unknown; any other word, the empty one too, is the name of a file.
use Rattle.std.specs.Prelude.{ℕ, Bool, true, false, List, [], ◌∷◌, eqb}
use Rattle.rules.specs.Tables.{pick, either}
use Rattle.text.specs.Text.{bytes}
use Rattle.program.specs.declared.Argument.{Argument}
use Rattle.program.specs.declared.Argument.TheVariants.{Help, StandardInput, File, Unknown}

-- the word is this one
unfoldable pub is : List ℕ → List ℕ → Bool
is [] [] = true
is [] (y ∷ ys) = false
is (x ∷ xs) [] = false
is (x ∷ xs) (y ∷ ys) = pick (eqb x y) (is xs ys) false

-- it begins with `-`
abbrev pub dashed : List ℕ → Bool
dashed [] = false
dashed (c ∷ w) = eqb c 45

unfoldable pub argument_of : List ℕ → Argument
argument_of w =
    pick (either (is w (bytes "--help")) (is w (bytes "-h"))) Help
    (pick (is w (bytes "-")) StandardInput
    (pick (dashed w) Unknown File))
