-- What is known of every board that commands reach: it is in shape, and seen as a board that the model reaches. So a call on it is the
-- rule's turn. Deliveries and releases keep any board in shape; an accepted request does, since its process stood nowhere.
use mathlib.Core.Path.{◌≡◌, ap, sym, ◌∙◌}
use mathlib.Core.Bool.{true}
use Prim.Native.Nat.{ℕ, suc, ◌≤◌}
use Rattle.rules.specs.declared.Board.{Board}
use Rattle.rules.specs.declared.Command.{Command}
use Rattle.rules.specs.declared.Command.TheVariants as Do
use Rattle.rules.specs.declared.Answer.TheVariants.{Done}
use Rattle.rules.specs.declared.Stepped.{Stepped}
use Rattle.rules.specs.Board.{process_at}
use Rattle.rules.specs.Commands.{delivered, effect, turn}
use Rattle.rules.specs.Shape.{in_shape, step}
use Rattle.rules.specs.Waits.{Present, Reached, opens, does, Later, now, DeliveriesBy, Deliveries, stay, more}
use Rattle.laws.proofs.Shape.{tested}
use Rattle.laws.proofs.Opening.{opening_sized, opening_shaped}
use Rattle.laws.proofs.Kept.{Good, good, sound as records-of, turn_sound, deliver_good, release_good, turn_done, request_kept}
use Rattle.model.specs.Reach.{Reach, Run, stop, then, now as nowM, Later as LaterM}
use Rattle.model.proofs.Theorems.{reached_invariant, deliveries_at_most}
use Rattle.promises.proofs.Seen.{seen}
use Rattle.promises.proofs.Commands.{Answered, refused, accepted, turn_view, not_waiting, Moves, moves_later, turn_moves, turn_delivers, turn_present, opening_view}
use Rattle.promises.proofs.Standing.{stands_nowhere}

pub record Sound (b : Board) : Type 0 where
  pub good : Good b
  pub reach : Reach (seen b)

module _ (b : Board) (s : Sound b) where
  pub sound_shape : in_shape b ≡ true
  sound_shape = tested b s.good.shaped

  -- 17 is not given
  pub step_turn : (c : Command) → step b c ≡ turn b c
  unfolding step
  step_turn c = rw sound_shape

  step_moves : (c : Command) → Moves (seen b) (seen (step b c).board)
  step_moves c = rw (step_turn c) (turn_moves b s.good c)

  request_good : (p o m : ℕ) → Answered b (Do.Request p o m) → Good (turn b (Do.Request p o m)).board
  request_good p o m (refused _ _ e) = rw e s.good
  request_good p o m (accepted (h3, (h4, (h5, (h6, _)))) d) =
      let k = request_kept b p o m s.good.sized sound_shape d in
      good _ (turn_sound b (Do.Request p o m) (records-of b s.good)).sized (k.kept.1 (stands_nowhere b (reached_invariant s.reach).0 p (not_waiting (process_at b p).wait h6)))

  turn_good : (c : Command) → Good (turn b c).board
  turn_good (Do.Request p o m) = request_good p o m (turn_view b (Do.Request p o m))
  turn_good (Do.Release p o) = release_good b p o s.good
  turn_good (Do.Deliver i) = deliver_good b i s.good

  pub step_sound : (c : Command) → Sound (step b c).board
  step_sound c = record { good = rw (step_turn c) (turn_good c); reach = moves_later s.reach (step_moves c) }

  -- a message present can be delivered
  pub step_present : (i : ℕ) → Present b i → (step b (Do.Deliver i)).answer ≡ Done
  step_present i h = ap (λ (x : Stepped). x.answer) (step_turn (Do.Deliver i)) ∙ turn_present b i h

  pub step_delivered : (i : ℕ) → Present b i → (step b (Do.Deliver i)).board ≡ delivered b i
  unfolding effect
  step_delivered i h = ap (λ (x : Stepped). x.board) (step_turn (Do.Deliver i)) ∙ turn_done b (Do.Deliver i) (turn_present b i h)

pub sound : {b : Board} → Reached b → Sound b
sound (opens n p o hp ho e) = record { good = record { sized = opening_sized n p o hp ho; shaped = opening_shaped n p o hp ho e }; reach = rw (opening_view n p o hp ho e) nowM }
sound (does {b = b} r c) = step_sound b (sound r) c

pub later_seen : {b c : Board} → Sound b → Later b c → Sound c × LaterM (seen b) (seen c)
later_seen s now = (s, nowM)
later_seen s (does {c = c} l x) = let r = later_seen s l in (step_sound c r.0 x, moves_later r.1 (step_moves c r.0 x))

pub later_reached : {b c : Board} → Reached b → Later b c → Reached c
later_reached r now = r
later_reached r (does l x) = does (later_reached r l) x

-- ---- deliveries, by any rule of choice
module _ {rule : Board → ℕ → Type 0} where
  pub deliveries_later : {n : ℕ} {a b c : Board} → Later a b → DeliveriesBy rule n b c → Later a c
  deliveries_later l stay = l
  deliveries_later l (more i h e r) = deliveries_later (does l (Do.Deliver i)) r

  pub delivered_sound : {n : ℕ} {b c : Board} → Sound b → DeliveriesBy rule n b c → Sound c
  delivered_sound s r = (later_seen s (deliveries_later now r)).0

  run_seen : {n : ℕ} {b c : Board} → Sound b → DeliveriesBy rule n b c → Run n (seen b) (seen c)
  run_seen s stay = stop
  run_seen s (more {b = b} i h e r) =
      let x = turn_delivers b s.good i (ap (λ (y : Stepped). y.answer) (sym (step_turn b s (Do.Deliver i))) ∙ e) in
      let v : seen (step b (Do.Deliver i)).board ≡ _ = ap (λ (y : Stepped). seen y.board) (step_turn b s (Do.Deliver i)) ∙ x.3 in
      then i x.0 x.1 x.2 (rw v at (run_seen (step_sound b s (Do.Deliver i)) r))

  pub at-most : {n : ℕ} {b c : Board} → Sound b → DeliveriesBy rule n b c → n ≤ 1920
  at-most s r = deliveries_at_most s.reach (run_seen s r)

  pub any_order : {n : ℕ} {b c : Board} → DeliveriesBy rule n b c → Deliveries n b c
  any_order stay = stay
  any_order (more i h e r) = more i tt e (any_order r)

-- one more delivery, at the end
pub one_more : {n : ℕ} {b c : Board} → Deliveries n b c → (i : ℕ) → (step c (Do.Deliver i)).answer ≡ Done → Deliveries (suc n) b (step c (Do.Deliver i)).board
one_more stay i e = more i tt e stay
one_more (more j h z r) i e = more j h z (one_more r i e)
