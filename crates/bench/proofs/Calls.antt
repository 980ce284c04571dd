-- The public calls: the shape first, then the rule.
use mathlib.Core.Path.{◌≡◌, refl, sym, ap, ◌∙◌}
use mathlib.Core.Bool.{Bool, true, false}
use mathlib.Core.List.{List, ◌∷◌}
use Prim.Native.Nat.{ℕ}
use Rattle.rules.specs.declared.Board.{Board}
use Rattle.rules.specs.declared.Command.{Command}
use Rattle.rules.specs.declared.Answer.{Answer}
use Rattle.rules.specs.declared.Answer.TheVariants.{Done, OutOfShape}
use Rattle.rules.specs.declared.Stepped.{Stepped}
use Rattle.rules.specs.declared.Drained.{Drained}
use Rattle.rules.specs.declared.Ran.{Ran}
use Rattle.rules.specs.Answers.{done, first_of}
use Rattle.rules.specs.Board.{load}
use Rattle.rules.specs.Commands.{turn, draining, zero_board, empty_board, homes_of, opening_tests, opening}
use Rattle.rules.specs.Shape.{in_shape, step, drain}
use Rattle.rules.specs.Sheet.{Run, refused_run, whole_run, command_count, room_tests, run, run_opening}
use Rattle.laws.proofs.Opening.{empty_load, opening_in_shape}
use Rattle.laws.proofs.Tests.{done_is}
use Rattle.engine.specs.Ready.{Ready}
use Rattle.engine.proofs.Ready.{shape_ready}

-- ---- one command
pub step_refused : (b : Board) (c : Command) → in_shape b ≡ false → ◌≡◌ {A = Stepped} (record { answer = OutOfShape; board = b }) (step b c)
unfolding step
step_refused b c e = rw e

pub step_taken : (b : Board) (c : Command) → in_shape b ≡ true → turn b c ≡ step b c
unfolding step
step_taken b c e = rw e

-- what is handed back and the room then, from one equation
pub both : {x y : Run} {r : Ran} {room : List ℕ} → x ≡ y → r ≡ y.ran → room ≡ y.room → (r ≡ x.ran) × (room ≡ x.room)
both e f g = (f ∙ ap (λ (z : Run). z.ran) (sym e), g ∙ ap (λ (z : Run). z.room) (sym e))

-- a test that passes leaves the answer to the others
first_passed : (a : Answer) (ts : List (Bool × Answer)) → first_of ((false, a) ∷ ts) ≡ first_of ts
unfolding first_of
first_passed a ts = refl

-- ---- many commands
module _ (b : Board) (s room : List ℕ) where
  pub run_unshaped : in_shape b ≡ false → run b s room ≡ refused_run OutOfShape b room
  unfolding run first_of
  run_unshaped e = rw e

  module _ (e : in_shape b ≡ true) where
    pub run_refused : (a : Answer) → first_of (room_tests s room) ≡ a → done a ≡ false → run b s room ≡ refused_run a b room
    unfolding run
    run_refused a f g = let k = first_passed OutOfShape (room_tests s room) in rw (e, k, f, g)

    pub run_whole : (n : ℕ) → n ≡ command_count s → done (first_of (room_tests s room)) ≡ true → run b s room ≡ whole_run b s room n
    unfolding run
    run_whole n f g = let k = first_passed OutOfShape (room_tests s room) in rw (e, k, f, g)

-- ---- an opening and its commands
module _ (n p o : ℕ) (hp ho : List ℕ) (a : Answer) (e : a ≡ first_of (opening_tests n p o hp ho)) (d : Bool) (g : d ≡ done a) (s room : List ℕ) where
  pub opening_ends : d ≡ false → run_opening n p o hp ho s room ≡ refused_run a zero_board room
  unfolding run_opening opening first_of
  opening_ends h = let z : done a ≡ false = sym g ∙ h in rw (← e, z, z)

  module _ (h : d ≡ true) where
    abbrev start : Board
    start = empty_board n p o (homes_of p hp) (homes_of o ho)

    passed : done a ≡ true
    passed = sym g ∙ h

    opened : opening n p o hp ho ≡ record { answer = Done; board = start }
    unfolding opening
    opened = rw (← e, done_is a passed)

    pub opening_ready : (b : Board) → b ≡ start → Ready b
    opening_ready b f =
        let q : b ≡ (opening n p o hp ho).board = f ∙ ap (λ (r : Stepped). r.board) (sym opened) in
        shape_ready b (rw q (opening_in_shape.sized n p o hp ho)) (rw q (opening_in_shape.in_shape n p o hp ho (ap (λ (r : Stepped). r.answer) opened)))

    pub opening_load : (b : Board) → b ≡ start → 0 ≡ load b
    opening_load b f = sym (ap load f ∙ empty_load n p o (homes_of p hp) (homes_of o ho))

    pub opening_refused : (x : Answer) → first_of (room_tests s room) ≡ x → done x ≡ false → run_opening n p o hp ho s room ≡ refused_run x zero_board room
    unfolding run_opening
    opening_refused x f z = let k = first_passed Done (room_tests s room) in rw (opened, k, f, z)

    pub opening_whole : (b : Board) → b ≡ start → (m : ℕ) → m ≡ command_count s → done (first_of (room_tests s room)) ≡ true → run_opening n p o hp ho s room ≡ whole_run b s room m
    unfolding run_opening
    opening_whole b q m l f = let k = first_passed Done (room_tests s room) in rw (opened, k, q, l, f)

-- ---- the drain
pub drain_refused : (b : Board) (n : ℕ) → in_shape b ≡ false → ◌≡◌ {A = Drained} (record { answer = OutOfShape; made = 0; board = b }) (drain b n)
unfolding drain
drain_refused b n e = rw e

pub drain_taken : (b : Board) (n : ℕ) → in_shape b ≡ true → draining n b ≡ drain b n
unfolding drain
drain_taken b n e = rw e
