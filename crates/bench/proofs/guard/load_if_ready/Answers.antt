-- `bench::guard::load_if_ready` meets its contract: arrays are as long as their types say, so a board in shape is ready for the engine.
-- Assumes nothing.
use mathlib.Core.Path.{◌≡◌, refl, ap, ◌∙◌}
use mathlib.Core.List.{List, [], ◌∷◌}
use Prim.Native.Nat.{ℕ, zero, suc}
use Rattle.std.specs.Prelude.{is_some}
use lib.ListN.{length, get_or}
use mir.Val.{Val}
use denote.Shadow.{shadow}
use denote.Array.{each}
use denote.RattleType.{RattleType}
use Rattle.rules.specs.Lists.{no_entries, no_ring}
use Rattle.rules.specs.Board.{no_object}
use Rattle.rules.specs.contracts.Object as ObjectField
use Rattle.rules.specs.contracts.Entries as EntriesField
use Rattle.rules.specs.contracts.Ring as RingField
use Rattle.laws.specs.Shape.{Sized}
use Rattle.rules.specs.Shape.{in_shape}
use Rattle.rules.proofs.Tables.{by_test}
use Rattle.shape.proofs.Clauses.{told_apart, load_told, none_told}
use Rattle.engine.proofs.Ready.{shape_ready}
use Rattle.bench.proofs.guard.load_if_ready.Goals as goal

-- what the types say of each record of an array holds of each, also past its end if it holds of the default
module _ (R : RattleType) (P : R.Denot → Type 0) (known : (a : R.Denot) (vs : List Val) → shadow (R.own_val a vs) → P a) (d : R.Denot) (h : P d) where
  each_record : (l : List R.Denot) (us : List Val) → shadow (each R.Denot R.own_val l us) → (k : ℕ) → P (get_or l k d)
  each_record [] us s k = h
  each_record (a ∷ l) [] s k = absurd s
  each_record (a ∷ l) (u ∷ us) s zero = known a (u ∷ []) s.0
  each_record (a ∷ l) (u ∷ us) s (suc k) = each_record l us s.1 k

pub returns : goal.returns
returns c =
    let sized : Sized c.args.b = (let g = c.well_formed.0.1.1 in
    record {
      home_of_process = g.1.1.1.0.1.0.1;
      home_of_object = g.1.1.1.1.0.1.0.1;
      processes = g.1.1.1.1.1.0.1.0.1;
      objects = g.1.1.1.1.1.1.0.1.0.1;
      flights = g.1.1.1.1.1.1.1.1.0.1.0.1;
      lists = g.1.1.1.1.1.1.1.1.1.0.1.0.1;
      rings = g.1.1.1.1.1.1.1.1.1.1.0.1.0.1;
      line = each_record (ObjectField.the_row) (λ x. length x.line ≡ 16) (λ x vs s. s.1.1.1.1.0.1.0.1) no_object refl c.args.b.objects _ g.1.1.1.1.1.1.0.1.1;
      who = each_record (EntriesField.the_row) (λ x. length x.who ≡ 16) (λ x vs s. s.1.1.0.1.0.1) no_entries refl c.args.b.lists _ g.1.1.1.1.1.1.1.1.1.0.1.1;
      leads = each_record (EntriesField.the_row) (λ x. length x.leads ≡ 16) (λ x vs s. s.1.1.1.0.1.0.1) no_entries refl c.args.b.lists _ g.1.1.1.1.1.1.1.1.1.0.1.1;
      ring = each_record (RingField.the_row) (λ x. length x.processes ≡ 16) (λ x vs s. s.1.1.0.1.0.1) no_ring refl c.args.b.rings _ g.1.1.1.1.1.1.1.1.1.1.0.1.1;
    }) in
    let b = c.args.b in
    let e = c.load_in_shape.ensures in
    record {
      shape = ap is_some e ∙ told_apart b;
      ready = by_test (in_shape b) (λ t. rw (e, load_told b t) (shape_ready b sized t, refl)) (λ t. rw (e, none_told b t) tt);
    }
