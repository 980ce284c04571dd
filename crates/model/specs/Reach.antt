-- The opening, the accepted commands, the boards they reach, and the drain.
use Rattle.std.specs.Prelude.{◌≡◌, Bool, false, [], ℕ, zero, suc, ◌≤◌, ◌<◌}
use Rattle.std.proofs.Math.Option.{Option, none, some}
use Rattle.model.specs.Tables.{Numbered}
use Rattle.model.specs.Board.{Message, Board, request_made, release_made, deliver}
use Rattle.model.specs.Totals.{load}

-- "An opening has empty books and no message."
abbrev pub opening : Board
opening = record { wait = λ p. none; hold = λ p o. none; released = λ p. false; holder = λ o p. none; line = λ o. []; messages = λ i. none; place = λ p. [] }

-- one accepted command: each refusal of document 01 is a condition that fails
pub data Step (b : Board) : Board → Type 0 where
  requests : (p o : ℕ) (m : Bool) → p < 16 → o < 16 → b.wait p ≡ none → b.released p ≡ false → b.hold p o ≡ none → load b ≤ 62 → Step b (request_made b p o m)
  releases : (p o : ℕ) (m : Bool) → o < 16 → b.wait p ≡ none → b.hold p o ≡ some m → load b ≤ 63 → Step b (release_made b p o)
  delivers : (i : ℕ) (x : Message) → i < 64 → b.messages i ≡ some x → Step b (deliver b i x)

-- any number of accepted commands later
pub data Later (b : Board) : Board → Type 0 where
  now : Later b b
  next : {c d : Board} → Later b c → Step c d → Later b d

abbrev pub Reach : Board → Type 0
Reach b = Later opening b

-- n deliveries, in any order, lead from b to c
pub data Run : ℕ → Board → Board → Type 0 where
  stop : {b : Board} → Run 0 b b
  then : {n : ℕ} {b c : Board} → (i : ℕ) (x : Message) → i < 64 → b.messages i ≡ some x → Run n (deliver b i x) c → Run (suc n) b c

abbrev pub NoMessages : Board → Type 0
NoMessages b = (i : ℕ) → i < 64 → b.messages i ≡ none

-- ---- "deliver the lowest-numbered message again and again until none is left or the budget is used"
-- the lowest number in flight from i on, among n
unfoldable pub lowest_used : ℕ → ℕ → Numbered Message → Option ℕ
lowest_used zero i f = none
lowest_used (suc n) i f = elim (f i) [ none ↦ lowest_used n (suc i) f | some x ↦ some i ]

pub record Drained : Type 0 where
  pub made : ℕ
  pub board : Board

abbrev pub one_step_more : Drained → Drained
one_step_more d = record { made = suc d.made; board = d.board }

abbrev pub deliver_at : Board → ℕ → Option Message → Board
deliver_at b i none = b
deliver_at b i (some x) = deliver b i x

unfoldable pub drain : ℕ → Board → Drained
drain zero b = record { made = 0; board = b }
drain (suc n) b = elim (lowest_used 64 0 b.messages) [ none ↦ record { made = 0; board = b } | some i ↦ one_step_more (drain n (deliver_at b i (b.messages i))) ]
