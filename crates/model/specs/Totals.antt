-- Sums over the board for any weights of messages and of waiters, and the load.
use Rattle.std.proofs.Math.Option.{Option, none, some}
use Rattle.std.specs.Prelude.{[], ◌∷◌, ℕ, zero, suc, ◌+◌}
use Rattle.model.specs.Tables.{Numbered}
use Rattle.model.specs.Book.{Waiter, Line}
use Rattle.model.specs.Board.{Message, request, grant, release, list, Board}

-- f 0 + f 1 + .., of k numbers
unfoldable pub sum_to : ℕ → (ℕ → ℕ) → ℕ
sum_to zero f = 0
sum_to (suc k) f = sum_to k f + f k

-- the weight of what is there
abbrev pub weight_of : {A : Type 0} → (A → ℕ) → Option A → ℕ
weight_of w none = 0
weight_of w (some a) = w a

unfoldable pub weigh : {A : Type 0} → (A → ℕ) → Numbered A → ℕ
weigh w f = sum_to 64 (λ i. weight_of w (f i))

unfoldable pub sum_line : (Waiter → ℕ) → Line → ℕ
sum_line v [] = 0
sum_line v (e ∷ l) = v e + sum_line v l

unfoldable pub sum_lines : (Waiter → ℕ) → (ℕ → Line) → ℕ
sum_lines v l = sum_to 16 (λ o. sum_line v (l o))

-- messages weigh w, waiters weigh v
unfoldable pub total : (Message → ℕ) → (Waiter → ℕ) → Board → ℕ
total w v b = weigh w b.messages + sum_lines v b.line

-- "Load is messages in flight, plus processes standing in lines, plus requests in flight (so a request counts twice)."
abbrev pub load_of : Message → ℕ
load_of (request p o m) = 2
load_of (grant p o m) = 1
load_of (release p o) = 1
load_of (list es n t) = 1

abbrev pub load : Board → ℕ
load b = total load_of (λ _. 1) b
