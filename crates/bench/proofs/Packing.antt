-- One command by value: packed into two bytes it is the command itself, its answer's number stands for its answer, and a number that
-- no packed field holds is refused by its first tests.
use mathlib.Core.Path.{◌≡◌, refl, ◌∙◌}
use mathlib.Core.Logic.{inl, inr}
use mathlib.Core.List.{List, [], ◌∷◌}
use Prim.Native.Nat.{ℕ, ◌+◌, ◌*◌, ◌/◌, ◌%◌, ◌≤◌, ◌<◌}
use native.Mathlib.Omega.{arith}
use borrow.Author.Tests.{lt-ltb, le-ltb, le-leb, lt-leb}
use lib.ListN.{get_or}
use Rattle.rules.specs.declared.Board.{Board}
use Rattle.rules.specs.declared.Command.TheVariants as Do
use Rattle.rules.specs.declared.Answer.{Answer}
use Rattle.rules.specs.declared.Answer.TheVariants.{NoProcess, NoObject, NoMode, NoMessage}
use Rattle.rules.specs.declared.Stepped.{Stepped}
use Rattle.rules.specs.Answers.{first_of}
use Rattle.rules.specs.Commands.{answer_to, turn}
use Rattle.rules.specs.Sheet.{command_at, board_after, room_after}
use Rattle.rules.proofs.Sheet.{command_bytes}
use Rattle.rules.specs.Answers.{answer_of}
use Rattle.rules.proofs.Numbers.{answer_back}
use Rattle.bench.specs.Packed.{Outside, Refuses}

-- ---- one command through the engine
pub once-turns : (b : Board) (s : List ℕ) (next : Board) (room : List ℕ) → next ≡ board_after b s 1 → room ≡ room_after b s (0 ∷ []) 1
    → (a : Answer) → a ≡ answer_of (get_or room 0 0) → ◌≡◌ {A = Stepped} (record { answer = a; board = next }) (turn b (command_at s 0))
unfolding board_after room_after turn
once-turns b s next room e f a g = rw (g, e, f, answer_back (answer_to b (command_at s 0)))

-- ---- a command packed
module _ (p o : ℕ) (h : p < 16) (g : o < 16) where
  abbrev low : ℕ
  low = o % 4 * 64

  packs : (k hi : ℕ) → k < 4 → hi ≡ k * 64 + p * 4 + o / 4 → (hi / 64 ≡ k) × (hi / 4 % 16 ≡ p) × (hi % 4 * 4 + o % 4 * 64 / 64 ≡ o)
  packs k hi l e = (omega (arith, e), omega (arith, e), omega (arith, e))

  pub packed_request : (m : ℕ) → m < 2 → command_at ((m * 64 + p * 4 + o / 4) ∷ low ∷ []) 0 ≡ Do.Request p o m
  packed_request m l = let e = packs m (m * 64 + p * 4 + o / 4) (omega arith) refl in command_bytes ((m * 64 + p * 4 + o / 4) ∷ low ∷ []) 0 (omega arith) (omega arith) ∙ rw (e.0, e.1, e.2, lt-ltb m 2 l)

  pub packed_release : command_at ((128 + p * 4 + o / 4) ∷ low ∷ []) 0 ≡ Do.Release p o
  packed_release = let e = packs 2 (128 + p * 4 + o / 4) (omega arith) (omega arith) in command_bytes ((128 + p * 4 + o / 4) ∷ low ∷ []) 0 (omega arith) (omega arith) ∙ rw (e.0, e.1, e.2)

pub packed_deliver : (n : ℕ) → n < 64 → command_at ((192 + n) ∷ 0 ∷ []) 0 ≡ Do.Deliver n
packed_deliver n h =
    let k : (192 + n) / 64 ≡ 3 = omega arith in
    let m : (192 + n) % 64 ≡ n = omega arith in
    command_bytes ((192 + n) ∷ 0 ∷ []) 0 (omega arith) (omega arith) ∙ rw (k, m)

-- ---- a number that no packed field holds
module _ (b : Board) where
  abbrev refusal : Answer → Stepped
  refusal a = record { answer = a; board = b }

  pub no-process : (p o m : ℕ) → b.process_count ≤ p → refusal NoProcess ≡ turn b (Do.Request p o m)
  unfolding turn answer_to first_of
  no-process p o m h = rw (le-leb b.process_count p h)

  pub no-object : (p o m : ℕ) → p < b.process_count → b.object_count ≤ o → refusal NoObject ≡ turn b (Do.Request p o m)
  unfolding turn answer_to first_of
  no-object p o m g h = rw (lt-leb b.process_count p g, le-leb b.object_count o h)

  pub no_mode : (p o m : ℕ) → p < b.process_count → o < b.object_count → 1 < m → refusal NoMode ≡ turn b (Do.Request p o m)
  unfolding turn answer_to first_of
  no_mode p o m g h l = rw (lt-leb b.process_count p g, lt-leb b.object_count o h, lt-ltb 1 m l)

  pub release_no_process : (p o : ℕ) → b.process_count ≤ p → refusal NoProcess ≡ turn b (Do.Release p o)
  unfolding turn answer_to first_of
  release_no_process p o h = rw (le-leb b.process_count p h)

  pub release_no_object : (p o : ℕ) → p < b.process_count → b.object_count ≤ o → refusal NoObject ≡ turn b (Do.Release p o)
  unfolding turn answer_to first_of
  release_no_object p o g h = rw (lt-leb b.process_count p g, le-leb b.object_count o h)

  pub no_message : (n : ℕ) → 63 < n → refusal NoMessage ≡ turn b (Do.Deliver n)
  unfolding turn answer_to first_of
  no_message n h = rw (le-ltb n 64 (omega (arith, h)))

-- ---- a process or an object that no such board has
module _ (p o pc oc : ℕ) (a : Answer) where
  pub request_outside : (m : ℕ) → Outside p o pc oc a → Refuses pc oc (Do.Request p o m) a
  request_outside m (inl h) b e f = rw h.1 (no-process b p o m (omega (arith, e, h.0)))
  request_outside m (inr h) b e f = rw h.2 (no-object b p o m (omega (arith, e, h.0)) (omega (arith, f, h.1)))

  pub release_outside : Outside p o pc oc a → Refuses pc oc (Do.Release p o) a
  release_outside (inl h) b e f = rw h.1 (release_no_process b p o (omega (arith, e, h.0)))
  release_outside (inr h) b e f = rw h.2 (release_no_object b p o (omega (arith, e, h.0)) (omega (arith, f, h.1)))
