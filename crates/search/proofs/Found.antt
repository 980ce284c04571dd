-- A ring is found where there is one: the promises of the search, from the laws of ways and of waits.
use mathlib.Core.Path.{◌≡◌, ap, ◌∙◌}
use mathlib.Core.Logic.{◌↔◌}
use mathlib.Core.Bool.{true}
use mathlib.Core.List.{List, ◌∷◌}
use Prim.Native.Nat.{ℕ, ◌≤◌, ◌<◌, ◌-◌}
use native.Mathlib.Omega.{arith}
use native.Mathlib.Decide.{dec_lt}
use lib.ListN.{length, replicate}
use Rattle.rules.specs.declared.Ring.{Ring}
use Rattle.rules.specs.declared.Board.{Board}
use Rattle.rules.specs.Shape.{in_shape}
use Rattle.rules.specs.Ranges.{Ranged}
use Rattle.rules.specs.Lists.{no_ring}
use Rattle.rules.specs.Waits.{Waits, Among, IsRing}
use Rattle.rules.proofs.Tables.{rows_of, same_test}
use Rattle.laws.specs.Shape.{Sized}
use Rattle.laws.proofs.Shape.{shape_said}
use Rattle.promises.proofs.Reached.{sound, sound_shape}
use Rattle.search.specs.Waiting.{waits_for}
use Rattle.search.specs.Ways.{way, round, ring_through}
use Rattle.search.specs.Found.{members, Found, FoundWithin, SearchHolds}
use Rattle.search.proofs.Ways.{way_length, round_comes, round_positive, round_least, round_some, found_is, none_far, none_past, shortest_ext}
use Rattle.search.proofs.Rings.{way_ring, ring_comes, ring_short, ring_small}
use Rattle.search.proofs.Waiting.{waits_real, waits_told, waiter_small, awaited_small, along_arcs}

-- ---- what was found, on every board
module _ (b : Board) (p : ℕ) (f : Found b p) where
  none_found : ring_through b p ≡ no_ring → ⊥
  none_found e = omega (arith, ap (λ (r : Ring). r.count) e)

  inside : p < 16
  inside = elim (dec_lt p 16) [ yes h ↦ h | no h ↦ absurd (none_found (none_past (waits_for b) p (omega arith))) ]

  comes_round : round (waits_for b) p ≤ 16
  comes_round = elim (dec_lt 16 (round (waits_for b) p)) [ yes h ↦ absurd (none_found (none_far (waits_for b) p inside h)) | no h ↦ omega arith ]

  found_members : members (ring_through b p) ≡ way (waits_for b) p (round (waits_for b) p) p
  found_members =
      let l = way (waits_for b) p (round (waits_for b) p) p in
      ap members (found_is (waits_for b) p inside comes_round) ∙ rows_of l 0 (replicate (16 - length l) 0)

  is_ring : IsRing b (members (ring_through b p))
  unfolding round
  is_ring = rw found_members (way_ring b (waits_for b) (waits_real b) p _ (round_comes (waits_for b) p comes_round) (round_least (waits_for b) p))

  is_first : (l : List ℕ) × (members (ring_through b p) ≡ p ∷ l)
  unfolding round way
  is_first = (_, found_members)

-- ---- a board in shape
module _ (b : Board) (s : Sized b) (e : in_shape b ≡ true) where
  ranged : Ranged b
  ranged = shape_said.ranged b s e

  tells : (p q : ℕ) → (waits_for b p q ≡ true) ↔ Waits b p q
  tells p q = (waits_real b p q, λ v. waits_told b p q ranged (awaited_small b ranged (shape_said.shaped b s e) p q v) v)

  -- whoever is on a ring comes round, and the ring that is found has as many processes as that takes waits
  on_ring : (l : List ℕ) → IsRing b l → (p : ℕ) → Among p l → ((ring_through b p).count ≡ round (waits_for b) p) × (round (waits_for b) p ≤ length l)
  on_ring l k p a =
      let w = waits_for b in
      let told : (p q : ℕ) → q < 16 → Waits b p q → w p q ≡ true = λ p q. waits_told b p q ranged in
      let small : (p q : ℕ) → Waits b p q → p < 16 = λ p q. waiter_small b p q ranged in
      let short = ring_short b w told small l k in
      let r : round w p ≤ length l = round_some w p (length l) short.0 short.1 (ring_comes b w told small l k p a) in
      let found = found_is w p (ring_small b w told small l k p a) (omega arith) in
      (ap (λ (x : Ring). x.count) found ∙ way_length w p (round w p) p, r)

  is_found : (l : List ℕ) → IsRing b l → (p : ℕ) → Among p l → FoundWithin b p l
  is_found l k p a = let r = on_ring l k p a in let z = round_positive (waits_for b) p in (omega arith, omega arith)

pub search_holds : SearchHolds
search_holds = record {
  ring = is_ring;
  first = is_first;
  found = is_found;
  reached = λ b r. let s = sound r in is_found b s.good.sized (sound_shape b s);
  sets = along_arcs;
  waits = tells;
  alone = λ b c s e t f same p. shortest_ext (waits_for b) (waits_for c) (λ x q h l. same_test _ _
      (λ z. (tells c t f x q).1 ((same x q).0 ((tells b s e x q).0 z)))
      (λ z. (tells b s e x q).1 ((same x q).1 ((tells c t f x q).0 z)))) p;
}
