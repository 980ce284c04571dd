-- Board and room after one command more, after the last, and of the whole sheet. Assumes nothing.
use mathlib.Core.Path.{◌≡◌}
use mathlib.Core.List.{List}
use Prim.Native.Nat.{ℕ, ◌+◌, ◌≤◌}
use native.Mathlib.Numerals.{add-one}
use native.Mathlib.Omega.{arith}
use lib.ListN.{set}
use Rattle.rules.specs.declared.Board.{Board}
use Rattle.rules.specs.declared.Command.{Command}
use Rattle.rules.specs.declared.Stepped.{Stepped}
use Rattle.rules.specs.declared.Ran.{Ran}
use Rattle.rules.specs.Answers.{number}
use Rattle.rules.specs.Shape.{step}
use Rattle.rules.specs.Sheet.{command_at, commands_part}
use Rattle.steps.specs.BySteps.{board_by_steps, room_by_steps, opened_by, commands_of, by_steps}

module _ (b₀ : Board) (s room₀ : List ℕ) where
  -- board and room are those after i commands
  abbrev pub Reached : ℕ → Board → List ℕ → Type 0
  Reached i b room = (b ≡ board_by_steps b₀ s i) × (room ≡ room_by_steps b₀ s room₀ i)

  pub one_more : (i : ℕ) {b : Board} {room : List ℕ} {c : Command} {r : Stepped} {n : ℕ} → Reached i b room → c ≡ command_at s i → r ≡ step b c → n ≡ number r.answer → Reached (i + 1) r.board (set room i n)
  unfolding board_by_steps room_by_steps
  one_more i (e, f) g h k = rw add-one (rw (h, g, e), rw (k, h, g, e, f))

  pub at_last : (i n : ℕ) {b : Board} {room : List ℕ} → i ≤ n → n ≤ i → Reached i b room → Reached n b room
  at_last i n l m r = let e : n ≡ i = omega arith in rw e r

pub whole_sheet : (s room : List ℕ) {part : List ℕ} {n : ℕ} {o : Ran} {last : Board} {after : List ℕ} → part ≡ commands_part s → n ≡ commands_of part → o ≡ opened_by s part → Reached o.board part room n last after
    → (◌≡◌ {A = Ran} (record { answer = o.answer; commands = n; board = last }) (by_steps s room).ran) × (after ≡ (by_steps s room).room)
unfolding by_steps
whole_sheet s room e f g (h, k) = (rw (h, g, f, e), rw (k, g, f, e))
