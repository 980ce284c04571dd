-- Own lists: along the commands from the opening, a list in flight goes back to its starter's request, and a filled place to a list.
pub mod Places
pub mod Lists
use mathlib.Core.Path.{◌≡◌, refl, ap, sym, ◌∙◌, subst}
use mathlib.Core.Logic.{◌⊎◌, inl, inr, ⊎_elim}
use mathlib.Core.Bool.{true}
use mathlib.Core.List.{List}
use Prim.Native.Nat.{ℕ, ◌<◌}
use native.Mathlib.Omega.{arith}
use lib.ListN.{get_or, replicate}
use Rattle.rules.specs.declared.Kind.TheVariants.{Free, ListToObject}
use Rattle.rules.specs.declared.Flight.{Flight}
use Rattle.rules.specs.declared.Ring.{Ring}
use Rattle.rules.specs.declared.Board.{Board}
use Rattle.rules.specs.declared.Command.{Command}
use Rattle.rules.specs.declared.Command.TheVariants as Do
use Rattle.rules.specs.declared.Stepped.{Stepped}
use Rattle.rules.specs.Answers.{done, first_of}
use Rattle.rules.specs.Lists.{no_ring, starter_of}
use Rattle.rules.specs.Board.{no_flight, kind_at, list_at, ring_at}
use Rattle.rules.specs.Commands.{answer_to, turn, opening_tests, opening}
use Rattle.rules.specs.Shape.{in_shape, step}
use Rattle.rules.specs.Ranges.{Ranged}
use Rattle.rules.specs.Waits.{Filled, Reached, opens, does}
use Rattle.rules.proofs.Tables.{true_not_false}
use Rattle.laws.specs.Shape.{Sized}
use Rattle.laws.specs.Own.{is_list_kind, OwnList, starts, goes, OwnRing, records, kept, OwnStep, OwnReached}
use Rattle.laws.proofs.Tables.{by_pick, replicate_at}
use Rattle.laws.proofs.Ranges.{turn_ranged}
use Rattle.laws.proofs.Shape.{shaped_ranged}
use Rattle.laws.proofs.Opening.{opening_sized, opening_shaped}
use Rattle.laws.proofs.Sizes.{sizes_kept}
use Rattle.laws.proofs.Own.Places.{effect_place, own_place}
use Rattle.laws.proofs.Own.Lists.{own_list}

turn_place : (b : Board) (c : Command) (s : ℕ) → (ring_at (turn b c).board s ≡ ring_at b s) ⊎ ((n : ℕ) × (o : ℕ) × (c ≡ Do.Deliver n) × (kind_at b n ≡ ListToObject o) × (starter_of (list_at b n) ≡ s))
unfolding turn
turn_place b c s = by_pick (λ (x : Board). (ring_at x s ≡ ring_at b s) ⊎ ((n : ℕ) × (o : ℕ) × (c ≡ Do.Deliver n) × (kind_at b n ≡ ListToObject o) × (starter_of (list_at b n) ≡ s))) (done (answer_to b c))
    (λ _. ⊎_elim inl (λ w. inr (w.number, w.object, w.delivers, w.to_an_object, w.starter)) (effect_place b c s))
    (λ _. inl refl)

pub own_step : OwnStep
own_step = record { place = own_place; turn = turn_place; list = own_list }

-- ---- along the commands
opening_empty : (n p o : ℕ) (hp ho : List ℕ) (k : ℕ) → (kind_at (opening n p o hp ho).board k ≡ Free) × ((ring_at (opening n p o hp ho).board k).count ≡ 0)
unfolding opening
opening_empty n p o hp ho k = by_pick (λ (b : Board). (kind_at b k ≡ Free) × ((ring_at b k).count ≡ 0)) (done (first_of (opening_tests n p o hp ho))) (λ _. none) (λ _. none)
  where
    none : ((get_or (replicate 64 no_flight) k no_flight).kind ≡ Free) × ((get_or (replicate 16 no_ring) k no_ring).count ≡ 0)
    none = (ap (λ (f : Flight). f.kind) (replicate_at 64 k no_flight), ap (λ (r : Ring). r.count) (replicate_at 16 k no_ring))

lengths : {b : Board} → Reached b → Sized b × Ranged b
unfolding step
lengths (opens n p o hp ho e) = let s = opening_sized n p o hp ho in (s, shaped_ranged _ s (opening_shaped n p o hp ho e).records)
lengths (does {b = b} r c) =
    let h = lengths r in
    by_pick (λ (x : Stepped). Sized x.board × Ranged x.board) (in_shape b) (λ _. (sizes_kept b c h.0 h.1, turn_ranged b c h.1)) (λ _. h)

reached_list : {b : Board} → Reached b → (n : ℕ) → is_list_kind (kind_at b n) ≡ true → OwnList (starter_of (list_at b n)) b n
reached_list (opens n p o hp ho e) k i = absurd (true_not_false (sym i ∙ ap is_list_kind (opening_empty n p o hp ho k).0))
reached_list (does {b = b} r c) k i = ⊎_elim
    (λ z. goes (subst (λ (s : ℕ). OwnList s b z.0) z.2 (reached_list r z.0 z.1)) c k z.3 i)
    (λ z. starts r c k z)
    (own_list b c (lengths r).0 k i)

reached_place : {b : Board} → Reached b → (s : ℕ) → Filled b s → OwnRing s b
reached_place (opens n p o hp ho e) s f = absurd (omega (arith, (opening_empty n p o hp ho s).1))
reached_place (does {b = b} r c) s f = ⊎_elim
    (λ z. kept (reached_place r s (subst (λ (x : Ring). 0 < x.count) z f)) c z)
    (λ z. records (subst (λ (q : ℕ). OwnList q b z.0) z.1 (reached_list r z.0 (ap is_list_kind z.2.to_an_object))) c z.2)
    (own_place b c s)

pub own_reached : OwnReached
own_reached = record { list = λ b r. reached_list r; place = λ b r. reached_place r }
