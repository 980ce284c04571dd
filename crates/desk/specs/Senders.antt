-- Who sent the messages in flight. A command acts at one node: a request and a release at the home of the process, a delivery where the
-- message arrives. What it puts in flight, that node has sent; for every other message the sender is as it was.
use Rattle.std.specs.Prelude.{ℕ, ◌≡◌, Bool, false, not, ◌&&◌, List, eqb, get_or, Option, Some, None}
use Rattle.rules.specs.declared.Board.{Board}
use Rattle.rules.specs.declared.Command.{Command}
use Rattle.rules.specs.declared.Command.TheVariants as Do
use Rattle.rules.specs.Tables.{pick, either, rows}
use Rattle.rules.specs.Bits.{taken}
use Rattle.laws.specs.Local.{home_of_process, destination}
use Rattle.desk.specs.declared.senders.Site.{Site}

-- ---- where a command acts, and the message number that it frees: none where nothing arrives
abbrev pub at_home : Board → ℕ → Site
at_home b p = record { node = home_of_process b p; freed = None }

abbrev pub delivery : Board → ℕ → Site
delivery b n = record { node = destination b n; freed = Some n }

unfoldable pub acts_at : Board → Command → Site
acts_at b (Do.Request p o m) = at_home b p
acts_at b (Do.Release p o) = at_home b p
acts_at b (Do.Deliver n) = delivery b n

-- ---- what was sent
-- number k was freed
abbrev pub is_freed : Option ℕ → ℕ → Bool
is_freed None k = false
is_freed (Some n) k = eqb k n

-- message k is in flight after a command, and was not before, or its number was freed in between
abbrev pub is_sent : ℕ → ℕ → Option ℕ → ℕ → Bool
is_sent before after freed k = taken after k && either (not (taken before k)) (is_freed freed k)

-- the set of these
pub record Sent (before after : ℕ) (freed : Option ℕ) (r : ℕ) : Type 0 where
  pub has : (k : ℕ) → taken r k ≡ is_sent before after freed k

-- ---- the senders
abbrev pub sender : Bool → ℕ → ℕ → ℕ
sender is_new node other = pick is_new node other

-- the senders, where those of a set are one node
abbrev pub marked_at : List ℕ → ℕ → ℕ → ℕ → ℕ
marked_at senders set node k = sender (taken set k) node (get_or senders k 0)

unfoldable pub marked : List ℕ → ℕ → ℕ → List ℕ
marked senders set node = rows 64 (marked_at senders set node)

unfoldable pub after : List ℕ → ℕ → ℕ → Site → List ℕ
after senders old new site = rows 64 (λ k. sender (is_sent old new site.freed k) site.node (get_or senders k 0))
