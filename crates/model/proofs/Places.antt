-- Recording fills the starter's place and keeps a filled one; no other rule writes a place.
use mathlib.Core.Path.{◌≡◌, refl, ◌∙◌}
use mathlib.Core.Logic.{◌⊎◌, ⊎_elim}
use mathlib.Core.Option.{none, some}
use mathlib.Core.List.{List, [], ◌∷◌}
use Prim.Native.Nat.{ℕ}
use Rattle.model.specs.Tables.{Numbered}
use Rattle.model.specs.Board.{Entry, entry_at, along_leads, Message, request, grant, release, list, Board, Filled, request_made, release_made, grant_arrives, granted, joined, release_arrives, entry_done, keep_filled, with_ring, record_ring, act, without, deliver}
use Rattle.model.specs.Reach.{requests, releases, delivers, Later, now, next}
use Rattle.model.proofs.Tables.{put_everywhere}
use Rattle.model.proofs.Arrivals.{request_arrives_either, at_home_either, at_object_either}

keep_filled_either : (P : List ℕ → Type 0) (x r : List ℕ) → (Filled x → P x) → P r → P (keep_filled x r)
keep_filled_either P [] r old new = new
keep_filled_either P (y ∷ x) r old new = old tt

-- ---- a ring is recorded
module _ (place : ℕ → List ℕ) (s : ℕ) (r : List ℕ) where
  -- the starter's place is filled, and what was filled is
  pub with_ring_fills : Filled r → (q : ℕ) → (q ≡ s) ⊎ Filled (place q) → Filled (with_ring place s r q)
  with_ring_fills f = put_everywhere (λ q x. (q ≡ s) ⊎ Filled (place q) → Filled x) place s (keep_filled (place s) r) (λ _. keep_filled_either Filled (place s) r (λ a. a) f) (λ q n. ⊎_elim (λ e. absurd (n e)) (λ a. a))

  -- what holds of filled places and of the ring holds of filled places after
  pub with_ring_all : (P : ℕ → List ℕ → Type 0) → ((q : ℕ) → Filled (place q) → P q (place q)) → P s r → (q : ℕ) → Filled (with_ring place s r q) → P q (with_ring place s r q)
  with_ring_all P old new = put_everywhere (λ q x. Filled x → P q x) place s (keep_filled (place s) r) (λ _. keep_filled_either (P s) (place s) r (old s) new) (λ q _. old q)

  with_ring_keeps : (q : ℕ) → Filled (place q) → with_ring place s r q ≡ place q
  with_ring_keeps = put_everywhere (λ q x. Filled (place q) → x ≡ place q) place s (keep_filled (place s) r) (kept (place s)) (λ q _ h. refl)
    where
      kept : (x : List ℕ) → Filled x → keep_filled x r ≡ x
      kept [] h = absurd h
      kept (y ∷ x) h = refl

-- ---- the places of a board
abbrev pub PlacesKept : Board → Board → Type 0
PlacesKept b c = (s : ℕ) → Filled (b.place s) → c.place s ≡ b.place s

record_ring_keeps : (b : Board) (f : Numbered Message) (s : ℕ) (r : List ℕ) → PlacesKept b (record_ring b f s r)
unfolding record_ring
record_ring_keeps b f s r = with_ring_keeps b.place s r

entry_done_keeps : (b : Board) (f : Numbered Message) (es : List Entry) (n : ℕ) → PlacesKept b (entry_done b f es n)
unfolding entry_done
entry_done_keeps b f es n = λ s h. refl

act_keeps : (b : Board) (f : Numbered Message) (m : Message) → PlacesKept b (act b f m)
unfolding act grant_arrives release_arrives granted joined
act_keeps b f (request p o m) = request_arrives_either (PlacesKept b) b f p o m (λ _ _ s h. refl) (λ _ s h. refl)
act_keeps b f (grant p o m) = λ s h. refl
act_keeps b f (release p o) = λ s h. refl
act_keeps b f (list es n none) = at_home_either (PlacesKept b) b f es n (entry_done_keeps b f es n) (λ a s h. refl)
act_keeps b f (list es n (some o)) = at_object_either (PlacesKept b) b f es n o (λ xs. entry_done_keeps b f xs n) (record_ring_keeps b f (entry_at es 0).who (along_leads n es n []))

pub later_keeps : {b c : Board} → Later b c → PlacesKept b c
unfolding request_made release_made deliver
later_keeps now s h = refl
later_keeps (next l (requests p o m a1 a2 a3 a4 a5 a6)) s h = later_keeps l s h
later_keeps (next l (releases p o m a1 a2 a3 a4)) s h = later_keeps l s h
later_keeps (next {c = c} l (delivers i x a1 a2)) s h = let e = later_keeps l s h in act_keeps c (without c i) x s (rw e h) ∙ e
