-- The clauses of a board in shape: any that fails refuses it, and all of them with a load of at most 64 are its shape. Assumes nothing.
use Rattle.std.specs.Prelude.{Some, None, is_some}
use Rattle.std.specs.Bool.{then_some}
use mathlib.Core.Path.{◌≡◌, refl, sym, ◌∙◌}
use mathlib.Core.Bool.{Bool, true, false, ◌&&◌}
use Prim.Native.Nat.{ℕ}
use lib.Dec.{leb}
use Rattle.rules.specs.declared.Board.{Board}
use Rattle.rules.specs.Tables.{pick, all}
use Rattle.rules.specs.Board.{process_at, object_at, ring_at, load}
use Rattle.rules.specs.Shape.{counts_fit, up_to, process_fits, object_fits, message_fits, ring_fits, standing, in_shape}
use Rattle.rules.proofs.Tables.{by_test, both_left, both_right}
use Rattle.shape.specs.Load.{load_in_shape}
use Rattle.shape.specs.Stand.{AskersFit, LinesFit}
use Rattle.shape.proofs.Noted.{processes_at_most, askers_fit, lines_fit}

-- ---- one test after another, as a chain of them is asked and as the rules have it
-- a test is asked where those before it are passed
pub asked : (before v x y : Bool) → before ≡ true → v ≡ x → x ≡ y → v ≡ before && y
asked before v x y e f g = rw e (f ∙ g)

pub not_asked : (before v y : Bool) → before ≡ false → v ≡ before → v ≡ before && y
not_asked before v y e f = rw e (f ∙ e)

nested : (c p o m r s : Bool) → ((((c && p) && o) && m) && r) && s ≡ c && (p && (o && (m && (r && s))))
nested true true true true true s = refl
nested true true true true false s = refl
nested true true true false r s = refl
nested true true false m r s = refl
nested true false o m r s = refl
nested false p o m r s = refl

last_apart : (c p o m r s l : Bool) → c && (p && (o && (m && (r && (s && l))))) ≡ (c && (p && (o && (m && (r && s))))) && l
last_apart true true true true true s l = refl
last_apart true true true true false s l = refl
last_apart true true true false r s l = refl
last_apart true true false m r s l = refl
last_apart true false o m r s l = refl
last_apart false p o m r s l = refl

as_picked : (t : Bool) (n : ℕ) → then_some t n ≡ pick t (Some n) None
as_picked true n = refl
as_picked false n = refl

module _ (b : Board) where
  abbrev pub processes_fit : Bool
  processes_fit = all 16 (λ p. process_fits (process_at b p) (up_to p b.process_count b.object_count))

  abbrev pub objects_fit : Bool
  objects_fit = all 16 (λ o. object_fits (object_at b o) (up_to o b.object_count b.process_count))

  abbrev pub messages_fit : Bool
  messages_fit = all 64 (message_fits b)

  abbrev pub rings_fit : Bool
  rings_fit = all 16 (λ s. ring_fits (ring_at b s) s b.process_count)

  abbrev pub stand_once : Bool
  stand_once = all 16 (λ p. leb (standing b p) 1)

  -- every clause but that of the load
  abbrev pub tables_fit : Bool
  tables_fit = counts_fit b && (processes_fit && (objects_fit && (messages_fit && (rings_fit && stand_once))))

  -- the chain of tests, each asked where those before it are passed
  module _ (c1 c2 c3 c4 c5 : Bool) (e1 : c1 ≡ counts_fit b) (e2 : c2 ≡ c1 && processes_fit) (e3 : c3 ≡ c2 && objects_fit) (e4 : c4 ≡ c3 && messages_fit) (e5 : c5 ≡ c4 && rings_fit) where
    -- where all of them but the last are passed, it may be asked
    pub ready : c5 ≡ true → AskersFit b.flights × LinesFit b.objects
    ready t =
        let m : c4 ≡ true = both_left _ _ (sym e5 ∙ t) in
        let o : c3 ≡ true = both_left _ _ (sym e4 ∙ m) in
        let p : c2 ≡ true = both_left _ _ (sym e3 ∙ o) in
        let few = processes_at_most b (sym e1 ∙ both_left _ _ (sym e2 ∙ p)) in
        (askers_fit b few (both_right _ _ (sym e4 ∙ m)), lines_fit b.objects b.process_count b.object_count few (both_right _ _ (sym e3 ∙ o)))

    pub chain : (c6 : Bool) → c6 ≡ c5 && stand_once → c6 ≡ tables_fit
    chain c6 e6 = rw (e6, e5, e4, e3, e2, e1) (nested (counts_fit b) processes_fit objects_fit messages_fit rings_fit stand_once)

  shape_is : in_shape b ≡ tables_fit && leb (load b) 64
  unfolding in_shape
  shape_is = last_apart (counts_fit b) processes_fit objects_fit messages_fit rings_fit stand_once (leb (load b) 64)

  pub out_of_shape : tables_fit ≡ false → None ≡ load_in_shape b
  unfolding load_in_shape
  out_of_shape e = rw (shape_is, e)

  pub load_handed : tables_fit ≡ true → then_some (leb (load b) 64) (load b) ≡ load_in_shape b
  unfolding load_in_shape
  load_handed e = rw (shape_is, e) (as_picked (leb (load b) 64) (load b))

  -- a load is handed back exactly where the board is in shape
  pub told_apart : is_some (load_in_shape b) ≡ in_shape b
  unfolding load_in_shape
  told_apart = by_test (in_shape b) (λ e. rw e) (λ e. rw e)

  pub load_told : in_shape b ≡ true → load_in_shape b ≡ Some (load b)
  unfolding load_in_shape
  load_told e = rw e

  pub none_told : in_shape b ≡ false → load_in_shape b ≡ None
  unfolding load_in_shape
  none_told e = rw e
