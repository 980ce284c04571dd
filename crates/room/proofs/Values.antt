-- The machine values of a board, a command, an answer and a result, and what whoever holds one knows of it.
use mathlib.Core.Path.{◌≡◌, refl, subst}
use mathlib.Core.List.{[], ◌∷◌}
use mathlib.Core.Option.{some}
use Prim.Native.Nat.{ℕ}
use seplogic.Ra.Ura.{Ura}
use base.Fraction.{full_share}
use mir.Val.{Val, vstruct, vcons, vnil}
use base.Fml.{Fml, fat}
use prog.Memory.{field_of}
use types.Logic.{Logic}
use types.Kit.{‵}
use types.Part.{Part, whole, sub}
use denote.Laws.{Is}
use denote.Struct.Laws as LL
use denote.Enum.Laws as EL
use Rattle.rules.specs.declared.Board.{Board}
use Rattle.rules.specs.declared.Command.{Command}
use Rattle.rules.specs.declared.Answer.{Answer}
use Rattle.rules.specs.declared.Stepped.{Stepped}
use Rattle.rules.specs.contracts.Board as B
use Rattle.rules.proofs.Board.TheLaws as B'
use Rattle.rules.specs.contracts.Command as K
use Rattle.rules.proofs.Command.TheLaws as K'
use Rattle.rules.specs.contracts.Answer as N
use Rattle.rules.proofs.Answer.TheLaws as N'
use Rattle.rules.specs.contracts.Stepped as S
use Rattle.rules.proofs.Stepped.TheLaws as S'

abbrev pub board_val : Board → Val
board_val = LL.val B.the_type B'.the_laws

abbrev pub command_val : Command → Val
command_val = EL.val K.the_type K'.the_laws

abbrev pub answer_val : Answer → Val
answer_val = EL.val N.the_type N'.the_laws

abbrev pub stepped_val : Stepped → Val
stepped_val = LL.val S.the_type S'.the_laws

abbrev pub IsBoard : Board → Type 0
IsBoard b = Is B.the_row b (board_val b ∷ [])

abbrev pub IsCommand : Command → Type 0
IsCommand c = Is K.the_row c (command_val c ∷ [])

abbrev pub IsAnswer : Answer → Type 0
IsAnswer r = Is N.the_row r (answer_val r ∷ [])

abbrev pub IsStepped : Stepped → Type 0
IsStepped r = Is S.the_row r (stepped_val r ∷ [])

-- a value that stands for an answer, or for a result, is the answer's own, or the result's
pub answer_spelled : (r : Answer) (v : Val) → Is N.the_row r (v ∷ []) → IsAnswer r
answer_spelled r v is = subst (Is N.the_row r) (EL.tells N.the_type N'.the_laws r (v ∷ []) is) is

pub stepped_spelled : (r : Stepped) (v : Val) → Is S.the_row r (v ∷ []) → IsStepped r
stepped_spelled r v is = subst (Is S.the_row r) (LL.tells S.the_type S'.the_laws r (v ∷ []) is) is

-- a result and its parts
pub answer-of : (r : Stepped) → IsStepped r → IsAnswer r.answer
answer-of r is = (LL.owed S.the_type S'.the_laws r (stepped_val r ∷ []) is).0

pub board-of : (r : Stepped) → IsStepped r → IsBoard r.board
board-of r is = (LL.owed S.the_type S'.the_laws r (stepped_val r ∷ []) is).1.0

pub both : (r : Answer) (b : Board) → IsAnswer r → IsBoard b → IsStepped (record { answer = r; board = b })
both r b isr isb = LL.owes S.the_type S'.the_laws (record { answer = r; board = b }) (isr, (isb, tt))

-- where a result's parts lie in it, and that each is read there, whatever the two values are: stated once of the types, so that a walk
-- which reads them spells out neither the types nor the board
pub answer_at : field_of S'.mir 0 ≡ some (N'.mir, 0)
answer_at = refl

pub board_at : field_of S'.mir 1 ≡ some (B'.mir, 8)
board_at = refl

-- a local that holds a result of these two values
abbrev cell : ℕ → Val → Val → Fml
cell l a b = fat full_share S'.mir l 0 (vstruct (vcons a (vcons b vnil)))

module _ {M : Type 1} {𝓤 : Ura M} {𝓛 : Logic 𝓤} {K : Type 0} (t : K) (l : ℕ) (a b : Val) where
  pub answer_part : Part K 𝓛 (‵ (cell l a b)) full_share N'.mir l 0 a (λ u. ‵ (cell l u b))
  answer_part = sub t 0 answer_at (whole t)

  pub board_part : Part K 𝓛 (‵ (cell l a b)) full_share B'.mir l 8 b (λ u. ‵ (cell l a u))
  board_part = sub t 1 board_at (whole t)
