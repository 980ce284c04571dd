-- Every command keeps what the engine rests on; and the load that it carries along fits its word.
use mathlib.Core.Path.{◌≡◌, ◌∙◌}
use mathlib.Core.Bool.{Bool, true, false}
use mathlib.Core.List.{List, [], ◌∷◌}
use Prim.Native.Nat.{ℕ, ◌≤◌}
use native.Mathlib.Omega.{arith}
use lib.Dec.{eqb}
use lib.ListN.{length, length-set}
use Rattle.rules.specs.declared.Mode.{Mode}
use Rattle.rules.specs.declared.Kind.{Kind}
use Rattle.rules.specs.declared.Kind.TheVariants.{Free, Request, Grant, Release, ListToHome, ListToObject}
use Rattle.rules.specs.declared.Entries.{Entries}
use Rattle.rules.specs.declared.Looked.{Looked}
use Rattle.rules.specs.declared.Board.{Board}
use Rattle.rules.specs.declared.Command.{Command}
use Rattle.rules.specs.declared.Command.TheVariants as Do
use Rattle.rules.specs.Tables.{pick}
use Rattle.rules.specs.Answers.{done}
use Rattle.rules.specs.Book.{release_arrives}
use Rattle.rules.specs.Home.{asking, dropping}
use Rattle.rules.specs.Lists.{plain, starter_of, asked_of, list_at_home, list_at_object, keeping, request_arrives}
use Rattle.rules.specs.Board.{no_flight, process_at, object_at, kind_at, list_at, ring_at, put_process, put_object, put_ring, freed, send, send_grants, kind_load, load}
use Rattle.rules.specs.Commands.{mode_of, recording, arriving, requested, released, delivered, effect, answer_to, turn}
use Rattle.rules.specs.Ranges.{Ranged}
use Rattle.rules.proofs.Tables.{sum_bound}
use Rattle.rules.proofs.Load.{Matched, matched_freed, matched_send, sized_send}
use Rattle.laws.proofs.Tables.{by_pick}
use Rattle.rules.specs.Shape.{in_shape}
use Rattle.laws.specs.Shape.{Sized}
use Rattle.laws.proofs.Ranges.{turn_ranged}
use Rattle.laws.proofs.Shape.{shape_said}
use Rattle.engine.specs.Ready.{Ready}

-- ---- the numbers in flight are those that hold a message
grants_matched : (gs : List (ℕ × Mode)) (b : Board) (o : ℕ) → length b.flights ≡ 64 → Matched b → Matched (send_grants b o gs)
unfolding send_grants
grants_matched [] b o z h = h
grants_matched (g ∷ gs) b o z h = let m = plain (Grant g.0 o g.1) in grants_matched gs (send b m) o (sized_send b z h m) (matched_send b z h m)

arriving_matched : (k : Kind) (l : Entries) (b : Board) → length b.flights ≡ 64 → Matched b → Matched (arriving k l b)
unfolding recording
arriving_matched Free l b z h = h
arriving_matched (Request p o m) l b z h = let r = request_arrives (object_at b o) p o m in matched_send (put_object b o r.object) z h r.sent
arriving_matched (Grant p o m) l b z h = h
arriving_matched (Release p o) l b z h = let r = release_arrives (object_at b o) p in grants_matched r.grants (put_object b o r.object) o z h
arriving_matched ListToHome l b z h = matched_send b z h (list_at_home l (process_at b (asked_of l)).wait)
arriving_matched (ListToObject o) l b z h = let r = list_at_object l (object_at b o) in recorded (eqb r.ring.count 0) r
  where
    recorded : (t : Bool) (r : Looked) → Matched (send (pick t b (put_ring b (starter_of l) (keeping (ring_at b (starter_of l)) r.ring))) r.sent)
    recorded true r = matched_send b z h r.sent
    recorded false r = matched_send (put_ring b (starter_of l) (keeping (ring_at b (starter_of l)) r.ring)) z h r.sent

effect_matched : (b : Board) (c : Command) → length b.flights ≡ 64 → Matched b → Matched (effect b c)
unfolding effect requested released delivered
effect_matched b (Do.Request p o m) z h = matched_send (put_process b p (asking (process_at b p) o (mode_of m))) z h (plain (Request p o (mode_of m)))
effect_matched b (Do.Release p o) z h = matched_send (put_process b p (dropping (process_at b p) o)) z h (plain (Release p o))
effect_matched b (Do.Deliver n) z h = arriving_matched (kind_at b n) (list_at b n) (freed b n) (length-set b.flights n no_flight ∙ z) (matched_freed b n h)

pub turn_ready : (b : Board) (c : Command) → Ready b → Ready (turn b c).board
unfolding turn
turn_ready b c r = record {
  ranged = turn_ranged b c r.ranged;
  matched = by_pick Matched (done (answer_to b c)) (λ _. effect_matched b c r.ranged.flights r.matched) (λ _. r.matched);
}

-- ---- the load is small
kind_load_most : (k : Kind) → kind_load k ≤ 2
kind_load_most Free = omega arith
kind_load_most (Request p o m) = omega arith
kind_load_most (Grant p o m) = omega arith
kind_load_most (Release p o) = omega arith
kind_load_most ListToHome = omega arith
kind_load_most (ListToObject o) = omega arith

pub load_most : (b : Board) → Ranged b → load b ≤ 384
unfolding load
load_most b r = omega (arith, sum_bound 64 (λ n. kind_load (kind_at b n)) 2 (λ n _. kind_load_most (kind_at b n)), sum_bound 16 (λ o. (object_at b o).line_count) 16 (λ o _. (r.lines o).count))

-- ---- a board in shape is ready; an opening is in shape
pub shape_ready : (b : Board) → Sized b → in_shape b ≡ true → Ready b
shape_ready b s e = record { ranged = shape_said.ranged b s e; matched = (shape_said.shaped b s e).records.flying }
