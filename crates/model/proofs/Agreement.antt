-- Homes and objects agree: the invariant of every board reached. A process whose home notes a wait has one token, in
-- a line, in a request or in a grant; a holder is noted by its home, or a grant or a release keeps the hold.
pub mod Commands
pub mod Grant
pub mod Lists
pub mod Request
pub mod Release
use mathlib.Core.Path.{◌≡◌}
use mathlib.Core.Bool.{Bool, true, false}
use mathlib.Core.Option.{Option, none, some}
use Prim.Native.Nat.{ℕ, ◌+◌, ◌≤◌, ◌<◌}
use native.Mathlib.Omega.{arith}
use Rattle.model.specs.Tables.{InFlight}
use Rattle.model.specs.Book.{In}
use Rattle.model.specs.Board.{Wanted, wants, Message, request, grant, release, list, Board, without}
use Rattle.model.specs.Totals.{weigh, sum_lines, total, load_of, load}
use Rattle.model.proofs.Sums.{same, same_pair, one, one_le}
use Rattle.model.proofs.Lines.{is_who}
use Rattle.model.proofs.Flight.{take_weigh, weigh_le}
use Rattle.model.proofs.Book.{Fit, Compatible}

-- the noted wait, taken apart
abbrev pub wanted_object : Option Wanted → ℕ
wanted_object none = 0
wanted_object (some a) = a.object

abbrev pub wanted_mode : Option Wanted → Bool
wanted_mode none = false
wanted_mode (some a) = a.mode

-- the tokens of p in flight: its requests and its grants
abbrev pub token_of : ℕ → Message → ℕ
token_of p (request q o m) = same q p
token_of p (grant q o m) = same q p
token_of p (release q o) = 0
token_of p (list es n s) = 0

-- the messages that keep p's hold of o: its grants and its releases
abbrev pub keeps_hold : ℕ → ℕ → Message → ℕ
keeps_hold p o (request q u m) = 0
keeps_hold p o (grant q u m) = same_pair q u p o
keeps_hold p o (release q u) = same_pair q u p o
keeps_hold p o (list es n s) = 0

pub record Agreement (b : Board) : Type 0 where
  -- each object's book is fit, and its holders do not conflict
  pub fit : (o : ℕ) → Fit (b.holder o) (b.line o)
  pub compatible : (o : ℕ) → Compatible (b.holder o)
  -- who stands in a line, has a request or a grant in flight, or has released, by its home's book
  pub in_line : (o p : ℕ) (m : Bool) → In p m (b.line o) → (b.wait p ≡ wants o m) × (o < 16)
  pub requests : (p o : ℕ) (m : Bool) → InFlight b.messages (request p o m) → (b.wait p ≡ wants o m) × (p < 16) × (o < 16)
  pub grants : (p o : ℕ) (m : Bool) → InFlight b.messages (grant p o m) → (b.wait p ≡ wants o m) × (b.holder o p ≡ some m)
  pub releases : (p o : ℕ) → InFlight b.messages (release p o) → (b.released p ≡ true) × (o < 16)
  pub idle : (p : ℕ) → b.released p ≡ true → b.wait p ≡ none
  -- nobody waits for what it holds
  pub unheld : (p o : ℕ) (m : Bool) → b.wait p ≡ wants o m → b.hold p o ≡ none
  -- one token for a wait, none without; each holder is kept once
  pub tokens : (p : ℕ) → total (token_of p) (is_who p) b ≡ one (b.wait p)
  pub kept : (p o : ℕ) → one (b.holder o p) ≡ one (b.hold p o) + weigh (keeps_hold p o) b.messages
  pub modes : (p o : ℕ) (m : Bool) → b.hold p o ≡ some m → b.holder o p ≡ some m
  pub load : load b ≤ 64

pub load_positive : (x : Message) → 1 ≤ load_of x
load_positive (request q u m) = omega arith
load_positive (grant q u m) = omega arith
load_positive (release q u) = omega arith
load_positive (list es n t) = omega arith

-- ---- the message x arrives
module _ (b : Board) (k : Agreement b) (i : ℕ) (x : Message) (lt : i < 64) (here : b.messages i ≡ some x) where
  -- x is p's token: there is no other
  pub no_second_token : (p : ℕ) → token_of p x ≡ 1 → 1 ≤ weigh (token_of p) (without b i) + sum_lines (is_who p) b.line → ⊥
  unfolding total
  no_second_token p e h = omega (arith, take_weigh b.messages i x lt here (token_of p), k.tokens p, one_le (b.wait p))

  -- there is room for what is sent in its place
  pub room_left : weigh (λ _. 1) (without b i) < 64
  unfolding total
  room_left = omega (arith, take_weigh b.messages i x lt here (λ _. 1), weigh_le (λ _. 1) load_of b.messages load_positive, k.load)
