-- Lists stay in shape while they grow and go on, and the ring along the leads is a ring: different processes, starter first.
use mathlib.Core.Path.{◌≡◌, refl, ap, sym, ◌∙◌, subst}
use mathlib.Core.Bool.{Bool, true, false}
use mathlib.Core.List.{List, [], ◌∷◌, ◌++◌}
use Prim.Native.Nat.{ℕ, zero, suc, ◌+◌, ◌-◌, ◌≤◌, ◌<◌}
use native.Mathlib.Omega.{arith}
use native.Mathlib.Decide.{dec_lt}
use lib.Dec.{ltb}
use lib.ListN.{length, get_or, replicate, length-set, length-append, length-replicate, get_or-append}
use borrow.Author.Tests.{ltb-true}
use Rattle.rules.specs.declared.Wait.{Wait}
use Rattle.rules.specs.declared.Wait.TheVariants.{NotWaiting, Waiting}
use Rattle.rules.specs.declared.Entries.{Entries}
use Rattle.rules.specs.declared.Message.{Message}
use Rattle.rules.specs.declared.Object.{Object}
use Rattle.rules.specs.declared.Ring.{Ring}
use Rattle.rules.specs.declared.Looked.{Looked}
use Rattle.rules.specs.Tables.{among}
use Rattle.rules.specs.Book.{mode_at, place_in, waited_for}
use Rattle.rules.specs.Lists.{nothing, entry_at, lead_at, starter_of, asked_of, add_all, with_next, to_home, entry_done, starter, started, list_at_home, along_leads, ring_of, no_ring, looking, list_at_object}
use Rattle.rules.specs.Waits.{Among, Different}
use Rattle.rules.proofs.Tables.{among_at}
use Rattle.rules.proofs.Book.{place_in_le}
use Rattle.rules.proofs.Lists.{add_all_grown, add_all_count, add_all_entered, add_all_apart, started_next, along_length, along_entries, along_first, along_two, along_different}
use Rattle.laws.specs.Shape.{Row, Differ, WaitBelow, ObjectShaped, ListShaped, KindShaped, RingShaped}
use Rattle.laws.proofs.Tables.{by_pick, replicate_at}
use Rattle.laws.proofs.Shape.{no_list_shaped, no_ring_shaped}
use Rattle.laws.proofs.Books.{waited_below}

-- ---- a message with its list, of the lengths that the types say
pub record MessageShaped (m : Message) (pc oc : ℕ) : Type 0 where
  pub kind : KindShaped m.kind m.list pc oc
  pub who : length m.list.who ≡ 16
  pub leads : length m.list.leads ≡ 16

pub nothing_shaped : (pc oc : ℕ) → MessageShaped nothing pc oc
nothing_shaped pc oc = record { kind = no_list_shaped; who = refl; leads = refl }

-- ---- a list that grows: all of its shape but where it goes
pub record Growing (l : Entries) (c : ℕ) : Type 0 where
  pub size : length l.who ≡ 16
  pub leads_size : length l.leads ≡ 16
  pub begun : 0 < l.count
  pub most : l.count ≤ 16
  pub who : Row l.who l.count c
  pub starter_lead : lead_at l 0 ≡ 0
  pub leads : (k : ℕ) → 0 < k → k < l.count → lead_at l k < k
  pub rest_leads : (k : ℕ) → l.count ≤ k → lead_at l k ≡ 0
  pub different : Differ l.who l.count

module _ (l : Entries) (c : ℕ) where
  pub growing : length l.who ≡ 16 → length l.leads ≡ 16 → ListShaped l c → Growing l c
  growing s t h = record { size = s; leads_size = t; begun = omega (arith, h.two); most = h.most; who = h.who; starter_lead = h.starter_lead; leads = h.leads; rest_leads = h.rest_leads; different = h.different }

  pub going : (n : ℕ) → 0 < n → n < l.count → Growing l c → ListShaped (with_next l n) c
  going n a d h = record { two = omega arith; most = h.most; later = a; inside = d; who = h.who; starter_lead = h.starter_lead; leads = h.leads; rest_leads = h.rest_leads; different = h.different }

pub starter_growing : (p c : ℕ) → p < c → Growing (starter p) c
starter_growing p c h = record {
  size = length-set (replicate 16 0) 0 p;
  leads_size = refl;
  begun = omega arith;
  most = omega arith;
  who = record { used = first; rest = blank };
  starter_lead = refl;
  leads = λ k a d. absurd (omega arith);
  rest_leads = λ k a. replicate_at {A = ℕ} 16 k 0;
  different = λ j k a d e. omega arith;
}
  where
    first : (k : ℕ) → k < 1 → entry_at (starter p) k < c
    first zero a = h
    first (suc k) a = absurd (omega arith)

    blank : (k : ℕ) → 1 ≤ k → entry_at (starter p) k ≡ 0
    blank zero a = absurd (omega arith)
    blank (suc k) a = replicate_at {A = ℕ} 15 k 0

-- entries are added behind what stands, each led by an earlier one
pub all_growing : (l : Entries) (c lead : ℕ) (qs : List ℕ) → lead < l.count → ((q : ℕ) → Among q qs → q < c) → Growing l c → Growing (add_all l lead qs) c
all_growing l c lead qs ll a h =
    let g = add_all_grown l lead qs in
    record {
      size = g.who_size ∙ h.size;
      leads_size = g.leads-size ∙ h.leads_size;
      begun = omega (arith, g.longer, h.begun);
      most = add_all_count l lead qs h.most;
      who = record { used = add_all_entered (λ q. q < c) l lead qs h.size a h.who.used; rest = λ k d. (g.rest k d).0 ∙ h.who.rest k (omega (arith, g.longer)) };
      starter_lead = g.leads 0 h.begun ∙ h.starter_lead;
      leads = λ k d i. elim (dec_lt k l.count) [
        | yes z ↦ rw (g.leads k z) (h.leads k d z)
        | no z ↦ rw (g.led h.leads_size k (omega arith) i) (omega arith)
      ];
      rest_leads = λ k d. (g.rest k d).1 ∙ h.rest_leads k (omega (arith, g.longer));
      different = add_all_apart l lead qs h.size h.different;
    }

-- ---- where a list goes
module _ (pc oc : ℕ) where
  to_home_shaped : (l : Entries) (n : ℕ) → 0 < n → n < l.count → Growing l pc → MessageShaped (to_home (with_next l n)) pc oc
  to_home_shaped l n a d h = record { kind = going l pc n a d h; who = h.size; leads = h.leads_size }

  pub started_shaped : (p : ℕ) (qs : List ℕ) → p < pc → ((q : ℕ) → Among q qs → q < pc) → MessageShaped (started p qs) pc oc
  unfolding started
  started_shaped p qs lp a =
      by_pick (λ (m : Message). MessageShaped m pc oc) (ltb 1 (add_all (starter p) 0 qs).count)
      (λ e. go (add_all (starter p) 0 qs) (started_next p qs) (all_growing (starter p) pc 0 qs (omega arith) a (starter_growing p pc lp)) (ltb-true 1 _ e)) (λ e. nothing_shaped pc oc)
    where
      go : (l : Entries) → l.next ≡ 1 → Growing l pc → 1 < l.count → MessageShaped (to_home l) pc oc
      go l e h d = subst (λ (n : ℕ). MessageShaped (to_home (with_next l n)) pc oc) (sym e) (to_home_shaped l 1 (omega arith) d h)

  pub done_shaped : (l : Entries) → Growing l pc → MessageShaped (entry_done l) pc oc
  unfolding entry_done
  done_shaped l h = by_pick (λ (m : Message). MessageShaped m pc oc) (ltb (l.next + 1) l.count) (λ e. to_home_shaped l (l.next + 1) (omega arith) (ltb-true (l.next + 1) l.count e) h) (λ e. nothing_shaped pc oc)

  module _ (l : Entries) (s : length l.who ≡ 16) (t : length l.leads ≡ 16) (h : ListShaped l pc) where
    pub at_home_shaped : (w : Wait) → WaitBelow w oc → MessageShaped (list_at_home l w) pc oc
    at_home_shaped NotWaiting a = done_shaped l (growing l pc s t h)
    at_home_shaped (Waiting o m) a = record { kind = (a, h); who = s; leads = t }

    pub at_object_shaped : (x : Object) → ObjectShaped x pc → MessageShaped (list_at_object l x).sent pc oc
    unfolding list_at_object
    at_object_shaped x hx =
        let k = place_in x (asked_of l) in
        let qs = waited_for x (asked_of l) (mode_at x k) k in
        by_pick (λ (y : Looked). MessageShaped y.sent pc oc) (ltb k x.line_count) (λ e. go (among (starter_of l) qs) qs (λ q. waited_below x pc hx (asked_of l) (mode_at x k) k q (place_in_le x (asked_of l)))) (λ e. done_shaped l (growing l pc s t h))
      where
        go : (y : Bool) (qs : List ℕ) → ((q : ℕ) → Among q qs → q < pc) → MessageShaped (looking y l qs).sent pc oc
        go true qs a = nothing_shaped pc oc
        go false qs a = done_shaped (add_all l l.next qs) (all_growing l pc l.next qs h.inside a (growing l pc s t h))

-- ---- the ring along the leads
-- different numbers stand at different places
different_places : (l : List ℕ) → Different l → Differ l (length l)
different_places [] d j k a b e = absurd (omega arith)
different_places (x ∷ l) d zero zero a b e = refl
different_places (x ∷ l) d zero (suc k) a b e = absurd (d.0 (rw e (among_at l k 0 (omega arith))))
different_places (x ∷ l) d (suc j) zero a b e = absurd (d.0 (rw (← e) (among_at l j 0 (omega arith))))
different_places (x ∷ l) d (suc j) (suc k) a b e = ap suc (different_places l d.1 j k (omega arith) (omega arith) e)

-- past its processes a ring holds zero
padded_at : (r : List ℕ) (n k : ℕ) → length r ≤ k → get_or (r ++ replicate n 0) k 0 ≡ 0
padded_at [] n k a = replicate_at {A = ℕ} n k 0
padded_at (x ∷ r) n zero a = absurd (omega arith)
padded_at (x ∷ r) n (suc k) a = padded_at r n k (omega arith)

-- the way from the starter to the entry that is asked
abbrev way : Entries → List ℕ
way l = along_leads l.next l l.next

-- the ring that a list finds at an object, or none, is what holds of both
by_found : (P : Ring → Type 0) (l : Entries) (x : Object) → P (ring_of (way l)) → P no_ring → P (list_at_object l x).ring
unfolding list_at_object
by_found P l x a d =
    let k = place_in x (asked_of l) in
    let qs = waited_for x (asked_of l) (mode_at x k) k in
    by_pick (λ (y : Looked). P y.ring) (ltb k x.line_count) (λ e. go (among (starter_of l) qs) qs) (λ e. d)
  where
    go : (y : Bool) (qs : List ℕ) → P (looking y l qs).ring
    go true qs = a
    go false qs = d

pub found_size : (l : Entries) (x : Object) → l.next < 16 → length (list_at_object l x).ring.processes ≡ 16
found_size l x h = by_found (λ (y : Ring). length y.processes ≡ 16) l x (omega (arith, length-append (way l) (replicate (16 - length (way l)) 0), length-replicate {A = ℕ} (16 - length (way l)) 0, along_length l.next l l.next)) refl

module _ (l : Entries) (c : ℕ) (h : ListShaped l c) where
  way_at : (k : ℕ) → k < length (way l) → get_or (ring_of (way l)).processes k 0 ≡ get_or (way l) k 0
  way_at k a = get_or-append (way l) _ 0 k a

  way_below : (k : ℕ) → k < length (way l) → get_or (way l) k 0 < c
  way_below k a = let e = along_entries l.next l l.next (get_or (way l) k 0) (among_at (way l) k 0 a) in rw (← e.2) (h.who.used e.0 (omega (arith, e.1, h.inside)))

  way_first : get_or (way l) 0 0 ≡ starter_of l
  way_first = ap (λ (r : List ℕ). get_or r 0 0) (along_first l.next l l.next (omega arith) (λ k a b. h.leads k a (omega (arith, h.inside)))).1

  way_shaped : RingShaped (ring_of (way l)) (starter_of l) c
  way_shaped = record {
    processes = record { used = λ k a. rw (way_at k a) (way_below k a); rest = λ k a. padded_at (way l) (16 - length (way l)) k a };
    most = omega (arith, along_length l.next l l.next, h.inside, h.most);
    filled = λ a. record {
      two = along_two l.next l l.next h.later (omega arith) (h.leads l.next h.later h.inside);
      starter = way_at 0 a ∙ way_first;
      different = λ j k a d e. different_places (way l) (along_different l.next l l.next h.inside h.different) j k a d (sym (way_at j a) ∙ e ∙ way_at k d);
    };
  }

  pub found_shaped : (x : Object) → RingShaped (list_at_object l x).ring (starter_of l) c
  found_shaped x = by_found (λ (y : Ring). RingShaped y (starter_of l) c) l x way_shaped (no_ring_shaped (starter_of l) c)
