-- Laws of a program's argument: a word is compared byte by byte, and each case of the definition is one test of the code. Assumes nothing.
use Rattle.std.proofs.Common.{◌≡◌, refl, sym, ◌∙◌, ap, Bool, true, false, List, [], ◌∷◌, ℕ, eqb, take}
use borrow.Author.Tests.{eqb-true, eq-eqb, ne_eqb}
use Rattle.std.specs.Cmp.Lexicographic.{pointwise}
use Rattle.rules.specs.Tables.{either}
use Rattle.rules.proofs.Tables.{by_test, true_not_false}
use Rattle.text.specs.Text.{bytes}
use Rattle.program.specs.declared.Argument.TheVariants.{Help, StandardInput, File, Unknown}
use Rattle.program.specs.Argument.{is, dashed, argument_of}

-- the library's test of two slices is that of the definition
is_same : (v w : List ℕ) → pointwise eqb v w ≡ is v w
unfolding is
is_same [] [] = refl
is_same [] (y ∷ w) = refl
is_same (x ∷ v) [] = refl
is_same (x ∷ v) (y ∷ w) = by_test (eqb x y) (λ t. rw t (is_same v w)) (λ f. rw f)

pub is_word : (w v : List ℕ) {read : List ℕ} {r : Bool} → r ≡ pointwise eqb w read → read ≡ v → r ≡ is w v
is_word w v e f = e ∙ ap (pointwise eqb w) f ∙ is_same w v

pub first_word : (w : List ℕ) {a : Bool} → a ≡ is w (bytes "--help") → a ≡ true → a ≡ either (is w (bytes "--help")) (is w (bytes "-h"))
first_word w e f = rw (sym e ∙ f) f

pub second_word : (w : List ℕ) {a b : Bool} → a ≡ is w (bytes "--help") → a ≡ false → b ≡ is w (bytes "-h") → b ≡ either (is w (bytes "--help")) (is w (bytes "-h"))
second_word w e f g = rw (sym e ∙ f) g

-- it begins with a dash
first_dash : (w : List ℕ) → pointwise eqb (45 ∷ []) (take 1 w) ≡ dashed w
first_dash [] = refl
first_dash (c ∷ w) = by_test (eqb 45 c)
    (λ t. rw (sym (eqb-true 45 c t)))
    (λ f. rw (f, ne_eqb c 45 (λ e. true_not_false (sym (eq-eqb 45 c (sym e)) ∙ f))))

-- the cases, by the tests of the code one after another
module _ (w : List ℕ) {help : Bool} (h : help ≡ either (is w (bytes "--help")) (is w (bytes "-h"))) where
  pub is_help : help ≡ true → Help ≡ argument_of w
  unfolding argument_of
  is_help t = rw (sym h ∙ t)

  module _ {dash : Bool} (d : dash ≡ is w (bytes "-")) (no : help ≡ false) where
    pub is_input : dash ≡ true → StandardInput ≡ argument_of w
    unfolding argument_of
    is_input t = rw (sym h ∙ no, sym d ∙ t)

    module _ {begins : Bool} (b : begins ≡ pointwise eqb (45 ∷ []) (take 1 w)) (other : dash ≡ false) where
      pub is_unknown : begins ≡ true → Unknown ≡ argument_of w
      unfolding argument_of
      is_unknown t = rw (sym h ∙ no, sym d ∙ other, sym (first_dash w) ∙ sym b ∙ t)

      pub is_file : begins ≡ false → File ≡ argument_of w
      unfolding argument_of
      is_file t = rw (sym h ∙ no, sym d ∙ other, sym (first_dash w) ∙ sym b ∙ t)
