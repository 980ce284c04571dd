-- Laws of verbs: two verbs are one where the code's `==` says so; and a verb that is not another is told apart from it. Assumes nothing.
use Rattle.std.proofs.Common.{◌≡◌, refl, sym, ap, ap₂, ◌∙◌, ℕ, [], ◌∷◌, false, eqb, get_or, ne_eqb}
use denote.Enum.Declared.{tag_of}
use denote.Enum.Bare.{sameb}
use Rattle.typed.specs.declared.Verb.{Verb}
use Rattle.typed.specs.declared.Verb.TheVariants.{Blank, Open, Request, Release, Deliver, Drain, Follow, Show, Messages, Waits, Rings, Undo, Help, Quit, Unknown}
use Rattle.typed.specs.contracts.Verb.{the_type}
use Rattle.typed.specs.Verbs.{number_of, is}

-- the verb of a number
abbrev verb_of_number : ℕ → Verb
verb_of_number n = get_or (Blank ∷ Open ∷ Request ∷ Release ∷ Deliver ∷ Drain ∷ Follow ∷ Show ∷ Messages ∷ Waits ∷ Rings ∷ Undo ∷ Help ∷ Quit ∷ []) n Unknown

numbered : (v : Verb) → verb_of_number (number_of v) ≡ v
numbered v = elim v as (λ w. verb_of_number (number_of w) ≡ w) [ Blank ↦ refl | _ ↦ refl ]

-- a verb that is not the other is told apart from it
pub is_not : (v w : Verb) → (v ≡ w → ⊥) → false ≡ is v w
is_not v w h = sym (ne_eqb (number_of v) (number_of w) (λ e. h (sym (numbered v) ∙ ap verb_of_number e ∙ numbered w)))

tagged : (v : Verb) → tag_of the_type v ≡ number_of v
tagged v = elim v as (λ w. tag_of the_type w ≡ number_of w) [ Blank ↦ refl | _ ↦ refl ]

pub same_is : (v w : Verb) → sameb the_type v w ≡ is v w
same_is v w = ap₂ eqb (tagged v) (tagged w)
