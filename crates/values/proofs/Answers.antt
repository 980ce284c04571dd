-- What a test of an answer by `==` or `!=` says: whether it is done.
use Rattle.std.proofs.Common.{◌≡◌, refl, sym, ap, ◌∙◌, Bool, true, false, not}
use denote.Enum.Bare.{sameb}
use Rattle.rules.specs.declared.Answer.{Answer}
use Rattle.rules.specs.declared.Answer.TheVariants.{Done}
use Rattle.rules.specs.Answers.{done}
use Rattle.rules.specs.contracts.Answer as answer

pub is_done : (a : Answer) → sameb answer.the_type a Done ≡ done a
is_done a = elim a as (λ v. sameb answer.the_type v Done ≡ done v) [ Done ↦ refl | _ ↦ refl ]

not_not : (b : Bool) → not (not b) ≡ b
not_not b = elim b as (λ v. not (not v) ≡ v) [ true ↦ refl | false ↦ refl ]

-- after `a != Answer::Done`
pub refuses : (a : Answer) (t : Bool) → t ≡ not (sameb answer.the_type a Done) → done a ≡ not t
refuses a t e = sym (ap not e ∙ not_not (sameb answer.the_type a Done) ∙ is_done a)
