-- Places: a ring is put by a list that arrives at an object, at the place of its starter if that is empty, and by nothing else.
use mathlib.Core.Path.{◌≡◌, refl, ap, sym, ◌∙◌, subst}
use mathlib.Core.Logic.{◌⊎◌, ◌≢◌, inl, inr, ⊎_elim}
use mathlib.Core.List.{List, [], ◌∷◌}
use Prim.Native.Nat.{ℕ, ◌<◌}
use native.Mathlib.Omega.{arith}
use native.Mathlib.Decide.{ℕ_discrete}
use lib.Dec.{eqb}
use lib.ListN.{get_or}
use borrow.Author.Tests.{eqb-true, eqb-false}
use Rattle.rules.specs.declared.Mode.{Mode}
use Rattle.rules.specs.declared.Kind.{Kind}
use Rattle.rules.specs.declared.Kind.TheVariants.{Free, Request, Grant, Release, ListToHome, ListToObject}
use Rattle.rules.specs.declared.Entries.{Entries}
use Rattle.rules.specs.declared.Ring.{Ring}
use Rattle.rules.specs.declared.Board.{Board}
use Rattle.rules.specs.declared.Command.{Command}
use Rattle.rules.specs.declared.Command.TheVariants as Do
use Rattle.rules.specs.Book.{release_arrives}
use Rattle.rules.specs.Lists.{no_ring, plain, starter_of, asked_of, list_at_home, list_at_object, keeping, request_arrives}
use Rattle.rules.specs.Board.{process_at, object_at, kind_at, list_at, ring_at, put_object, freed, send, send_grants}
use Rattle.rules.specs.Commands.{recording, arriving, mode_of, requested, released, delivered, effect}
use Rattle.rules.specs.Shape.{step}
use Rattle.rules.specs.Waits.{Filled}
use Rattle.laws.specs.Own.{Records}
use Rattle.laws.proofs.Tables.{by_pick, each_set}
use Rattle.laws.proofs.Sizes.{send_rings}
use Rattle.laws.proofs.Kept.{Did, refused, accepted, did}

-- ---- places
-- what a list that found a ring leaves at place s: the ring, where it was empty
placed : (b : Board) (i : ℕ) (r : Ring) (s : ℕ) → (ring_at (recording b i r) s ≡ ring_at b s) ⊎ ((i ≡ s) × ((ring_at b s).count ≡ 0) × (ring_at (recording b i r) s ≡ r) × (0 < r.count))
unfolding recording keeping
placed b i r s = by_pick (λ (c : Board). (ring_at c s ≡ ring_at b s) ⊎ ((i ≡ s) × ((ring_at b s).count ≡ 0) × (ring_at c s ≡ r) × (0 < r.count))) (eqb r.count 0)
    (λ e. inl refl)
    (λ e. each_set (λ (j : ℕ) (y : Ring). (y ≡ ring_at b j) ⊎ ((i ≡ j) × ((ring_at b j).count ≡ 0) × (y ≡ r) × (0 < r.count))) b.rings i _ no_ring
    (by_pick (λ (y : Ring). (y ≡ ring_at b i) ⊎ ((i ≡ i) × ((ring_at b i).count ≡ 0) × (y ≡ r) × (0 < r.count))) (eqb (ring_at b i).count 0)
    (λ z. inr (refl, eqb-true _ _ z, refl, positive r.count (eqb-false _ _ e)))
    (λ z. inl refl))
    (λ j. inl refl) s)
  where
    positive : (n : ℕ) → n ≢ 0 → 0 < n
    positive n f = elim (ℕ_discrete n 0) [ yes z ↦ absurd (f z) | no z ↦ omega arith ]

-- ---- places, for each kind of message
grants_rings : (gs : List (ℕ × Mode)) (b : Board) (o : ℕ) → (send_grants b o gs).rings ≡ b.rings
unfolding send_grants
grants_rings [] b o = refl
grants_rings (g ∷ gs) b o = grants_rings gs (send b (plain (Grant g.0 o g.1))) o ∙ send_rings b (plain (Grant g.0 o g.1))

same_ring : (s : ℕ) {rs ts : List Ring} → rs ≡ ts → get_or rs s no_ring ≡ get_or ts s no_ring
same_ring s e = ap (λ (rs : List Ring). get_or rs s no_ring) e

-- what a message that arrives can put at place s
abbrev Puts : Kind → Entries → Board → ℕ → Board → Type 0
Puts Free l b s c = ⊥
Puts (Request p o m) l b s c = ⊥
Puts (Grant p o m) l b s c = ⊥
Puts (Release p o) l b s c = ⊥
Puts ListToHome l b s c = ⊥
Puts (ListToObject o) l b s c = (starter_of l ≡ s) × ((ring_at b s).count ≡ 0) × (ring_at c s ≡ (list_at_object l (object_at b o)).ring) × (0 < (ring_at c s).count)

puts : (k : Kind) (l : Entries) (b : Board) (s : ℕ) → (ring_at (arriving k l b) s ≡ ring_at b s) ⊎ Puts k l b s (arriving k l b)
puts Free l b s = inl refl
puts (Request p o m) l b s = inl (same_ring s (send_rings (put_object b o (request_arrives (object_at b o) p o m).object) (request_arrives (object_at b o) p o m).sent))
puts (Grant p o m) l b s = inl refl
puts (Release p o) l b s = inl (same_ring s (grants_rings (release_arrives (object_at b o) p).grants (put_object b o (release_arrives (object_at b o) p).object) o))
puts ListToHome l b s = inl (same_ring s (send_rings b (list_at_home l (process_at b (asked_of l)).wait)))
puts (ListToObject o) l b s =
    let r = list_at_object l (object_at b o) in
    let c = recording b (starter_of l) r.ring in
    let e : ring_at (send c r.sent) s ≡ ring_at c s = same_ring s (send_rings c r.sent) in
    ⊎_elim (λ z. inl (e ∙ z)) (λ z. inr (z.0, z.1, e ∙ z.2, subst (λ (y : Ring). 0 < y.count) (sym (e ∙ z.2)) z.3)) (placed b (starter_of l) r.ring s)

-- a list of s is delivered at an object, and board x has at place s what it finds there
pub record Wrote (b : Board) (c : Command) (s : ℕ) (x : Board) : Type 0 where
  pub number : ℕ
  pub object : ℕ
  pub delivers : c ≡ Do.Deliver number
  pub to_an_object : kind_at b number ≡ ListToObject object
  pub starter : starter_of (list_at b number) ≡ s
  pub empty : (ring_at b s).count ≡ 0
  pub ring : ring_at x s ≡ (list_at_object (list_at b number) (object_at b object)).ring
  pub filled : Filled x s

pub effect_place : (b : Board) (c : Command) (s : ℕ) → (ring_at (effect b c) s ≡ ring_at b s) ⊎ Wrote b c s (effect b c)
unfolding effect requested released delivered
effect_place b (Do.Request p o m) s = inl (same_ring s (send_rings _ (plain (Request p o (mode_of m)))))
effect_place b (Do.Release p o) s = inl (same_ring s (send_rings _ (plain (Release p o))))
effect_place b (Do.Deliver n) s = ⊎_elim inl (λ z. inr (by_kind (kind_at b n) refl z)) (puts (kind_at b n) (list_at b n) (freed b n) s)
  where
    by_kind : (k : Kind) → kind_at b n ≡ k → Puts k (list_at b n) (freed b n) s (delivered b n) → Wrote b (Do.Deliver n) s (delivered b n)
    by_kind Free e z = absurd z
    by_kind (Request p o m) e z = absurd z
    by_kind (Grant p o m) e z = absurd z
    by_kind (Release p o) e z = absurd z
    by_kind ListToHome e z = absurd z
    by_kind (ListToObject o) e z = record { number = n; object = o; delivers = refl; to_an_object = e; starter = z.0; empty = z.1; ring = z.2; filled = z.3 }

pub own_place : (b : Board) (c : Command) (s : ℕ) → (ring_at (step b c).board s ≡ ring_at b s) ⊎ ((n : ℕ) × (starter_of (list_at b n) ≡ s) × Records b c s n)
own_place b c s = go (did b c)
  where
    at_place : {x y : Board} → x ≡ y → ring_at x s ≡ ring_at y s
    at_place e = ap (λ (z : Board). ring_at z s) e

    go : Did b c → (ring_at (step b c).board s ≡ ring_at b s) ⊎ ((n : ℕ) × (starter_of (list_at b n) ≡ s) × Records b c s n)
    go (refused e) = inl (at_place e)
    go (accepted _ _ a e) = ⊎_elim
        (λ z. inl (at_place e ∙ z))
        (λ z. inr (
          z.number,
          z.starter,
          record {
            object = z.object;
            delivers = (z.delivers, a);
            to_an_object = z.to_an_object;
            empty = z.empty;
            ring = at_place e ∙ z.ring;
            filled = subst (λ (y : Ring). 0 < y.count) (sym (at_place e)) z.filled;
          },
        ))
        (effect_place b c s)
