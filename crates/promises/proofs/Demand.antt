-- Every board that commands reach is as promised: demand 3, and document 01.
use mathlib.Core.Path.{◌≡◌, refl, ap, ap₂, sym, ◌∙◌}
use mathlib.Core.Logic.{◌≢◌}
use mathlib.Core.Option.{Option, none, some}
use Prim.Native.Nat.{ℕ}
use native.Mathlib.Omega.{arith}
use Rattle.rules.specs.declared.Mode.{Mode}
use Rattle.rules.specs.declared.Wait.{Wait}
use Rattle.rules.specs.declared.Wait.TheVariants.{NotWaiting, Waiting}
use Rattle.rules.specs.declared.Board.{Board}
use Rattle.rules.specs.declared.Command.{Command}
use Rattle.rules.specs.declared.Answer.TheVariants.{OutOfShape}
use Rattle.rules.specs.declared.Stepped.{Stepped}
use Rattle.rules.specs.Answers.{number}
use Rattle.rules.specs.Book.{is_exclusive}
use Rattle.rules.specs.Board.{process_at, kind_at, list_at, ring_at}
use Rattle.rules.specs.Commands.{turn}
use Rattle.rules.specs.Shape.{drain}
use Rattle.rules.specs.Waits.{Stands, Waits, IsRing, Filled, Quiet, Reached, Later, now, Deliveries, recorded}
use Rattle.laws.proofs.Own.{own_reached}
use Rattle.model.specs.Board.{wants, Message as MessageM, Filled as FilledM}
use Rattle.model.specs.Reach.{NoMessages}
use Rattle.model.proofs.Tables.{some_not_none}
use Rattle.model.proofs.Agreement.{wanted_object, wanted_mode}
use Rattle.model.proofs.Theorems.{recorded_true, recorded_own, recorded_later, all_found, agree-holds, agree-waits, no-conflict, no_conflict_objects, blocked}
use Rattle.promises.specs.Demand.{RingsTrue, Ends, AtRest, NoConflict, Demand3, Fits, Drains, Paper, DemandHolds, SheetsReach, SheetsWithin}
use Rattle.promises.proofs.Seen.Tables.{has_from, filled_to, filled_from}
use Rattle.promises.proofs.Seen.{hold_seen, wait_seen, seen}
use Rattle.promises.proofs.Sends.{is_there, there_kind}
use Rattle.promises.proofs.Commands.{Answered, refused, accepted, turn_view}
use Rattle.promises.proofs.Seen.Objects.{conflict_view}
use Rattle.promises.proofs.Seen.Waits.{same_mode, hold_back, stands_in, in_stands, waits_from, ring_to, ring_from}
use Rattle.promises.proofs.Reached.{Sound, sound, sound_shape, step_turn, step_present, later_seen, later_reached, deliveries_later, delivered_sound, any_order, at-most, one_more}
use Rattle.promises.proofs.Drain.{drain_view, drain_enough, lowest_only}
use Rattle.promises.proofs.Sheet.{run_later, sheet_reached, sheet_within}

module _ (b : Board) (s : Sound b) where
  fill : (q : ℕ) → Filled b q → FilledM ((seen b).place q)
  fill q h = filled_to (ring_at b q).count _ h

  rings_true : RingsTrue b
  rings_true = record {
    ring = λ q h. ring_from b (recorded b q) (recorded_true (seen b) s.reach q (fill q h));
    later = later;
    first = λ q h. recorded_own (seen b) s.reach q (fill q h);
  }
    where
      later : (c : Board) → Later b c → (q : ℕ) → Filled b q → (recorded c q ≡ recorded b q) × IsRing c (recorded b q)
      later c l q h = let k = later_seen s l in let z = recorded_later (seen b) s.reach (seen c) k.1 q (fill q h) in (z.0, ring_from c (recorded b q) z.1)

  -- after the last of 1,920 deliveries there is none to make
  spent : (c : Board) → Deliveries 1920 b c → Quiet c
  spent c r i p = omega (arith, at-most s (one_more r i (step_present c (delivered_sound s r) i p)))

  ends : Ends b
  ends =
      let d = drain_view b s 1920 in
      record {
        deliverable = λ n c r. step_present c (delivered_sound s r);
        at_most = λ n c r. at-most s r;
        stuck = λ n c r f i p. f i (step_present c (delivered_sound s r) i p);
        after = spent;
        way = ((drain b 1920).made, (drain b 1920).board, at-most s d.made, any_order d.made, drain_enough b s 1920 (omega arith));
      }

  at_rest : Quiet b → AtRest b
  at_rest q = record {
    found = λ l h.
        let k = all_found (seen b) s.reach still l (ring_to b l h) in
        (k.0, has_from k.0 l k.1, filled_from (ring_at b k.0).count _ k.2);
    agree_holds = λ p o m.
        let k = agree-holds (seen b) s.reach still p o (is_exclusive m) in
        ((λ e. hold_back _ m (k.0 (ap hold_seen e))), λ e. hold_back _ m (k.1 (ap hold_seen e)));
    agree_waits = λ p o m.
        let k = agree-waits (seen b) s.reach still p o (is_exclusive m) in
        ((λ e. in_stands b o p m (k.0 (ap wait_seen e))), λ z. wait_back (process_at b p).wait o m (k.1 (stands_in b o z.0 p m z.1)));
  }
    where
      still : NoMessages (seen b)
      still i h = go ((seen b).messages i) refl
        where
          go : (x : Option MessageM) → (seen b).messages i ≡ x → (seen b).messages i ≡ none
          go none e = e
          go (some x) e = absurd (q i (h, s.good.shaped.records.flying i h ∙ there_kind (kind_at b i) (list_at b i) ∙ ap is_there e))

      wait_back : (w : Wait) (o : ℕ) (m : Mode) → wait_seen w ≡ wants o (is_exclusive m) → w ≡ Waiting o m
      wait_back NotWaiting o m e = some_not_none (wait_seen NotWaiting) _ e refl
      wait_back (Waiting u n) o m e = ap₂ Waiting (ap wanted_object e) (same_mode n m (ap wanted_mode e))

  apart : NoConflict b
  apart = record {
    homes = λ p q o m n ne x y. conflict_view m n ∙ no-conflict (seen b) s.reach p q o (is_exclusive m) (is_exclusive n) ne (ap hold_seen x) (ap hold_seen y);
    objects = λ p q o m n ne x y. conflict_view m n ∙ no_conflict_objects (seen b) s.reach p q o (is_exclusive m) (is_exclusive n) ne (ap hold_seen x) (ap hold_seen y);
  }

  -- no test of a command has 17 for its answer
  no_17 : (c : Command) → Answered b c → (turn b c).answer ≢ OutOfShape
  no_17 c (refused _ h _) e = omega (arith, ap number e)
  no_17 c (accepted _ d) e = omega (arith, ap number e, ap number d)

  fits : Fits b
  fits = record { shape = sound_shape b s; steps = λ c e. no_17 c (turn_view b c) (ap (λ (x : Stepped). x.answer) (sym (step_turn b s c)) ∙ e); drain_done = λ n. (drain_view b s n).answer }

-- ---- both parts
module _ (b : Board) (r : Reached b) where
  abbrev s : Sound b
  s = sound r

  demand_3 : Demand3 b
  demand_3 = record { rings = rings_true b s; ends = ends b s; when_at_rest = λ n c d. at_rest c (delivered_sound s d); no_conflict = apart b s }

  drains : (n : ℕ) → Drains b n
  drains n =
      let d = drain_view b s n in
      record {
        made = d.made;
        within = d.within;
        end = d.end;
        only = λ k c x h e. lowest_only n x h e d.made d.within d.end;
        enough = drain_enough b s n;
        reached = later_reached r (deliveries_later now d.made);
      }

  waits : (o k p : ℕ) (m : Mode) → Stands b o k p m → (q : ℕ) × Waits b p q
  waits o k p m h = let w = blocked (seen b) s.reach o p (is_exclusive m) (stands_in b o k p m h) in (w.0, waits_from b p w.0 w.1)

  paper : Paper b
  paper = record { load_at_most = s.good.shaped.load; fits = fits b s; drains = drains; blocked = waits; runs = run_later b s }

pub demand_holds : DemandHolds
demand_holds b r = record { demand3 = demand_3 b r; own = own_reached.place b r; paper = paper b r }

pub sheets_reach : SheetsReach
sheets_reach = sheet_reached

pub sheets-within : SheetsWithin
sheets-within = sheet_within
