-- One record written: every record of the board stays in shape when the new one is. A book, a ring, a message sent, a number freed.
use mathlib.Core.Path.{◌≡◌, refl, ap, sym, ◌∙◌, subst, subst₂}
use mathlib.Core.Bool.{Bool}
use mathlib.Core.List.{List, [], ◌∷◌}
use Prim.Native.Nat.{ℕ, ◌<◌}
use native.Mathlib.Omega.{arith}
use native.Mathlib.Decide.{ℕ_discrete}
use lib.Dec.{eqb, ltb}
use lib.ListN.{length, set, length-set}
use lib.Seq.{get_or-set_same, get_or-set_other}
use borrow.Author.Tests.{ltb-true, lt-ltb}
use Rattle.rules.specs.declared.Mode.{Mode}
use Rattle.rules.specs.declared.Kind.{Kind}
use Rattle.rules.specs.declared.Kind.TheVariants.{Grant}
use Rattle.rules.specs.declared.Entries.{Entries}
use Rattle.rules.specs.declared.Message.{Message}
use Rattle.rules.specs.declared.Flight.{Flight}
use Rattle.rules.specs.declared.Process.{Process}
use Rattle.rules.specs.declared.Object.{Object}
use Rattle.rules.specs.declared.Ring.{Ring}
use Rattle.rules.specs.declared.Board.{Board}
use Rattle.rules.specs.Tables.{pick}
use Rattle.rules.specs.Bits.{lowest_free, with_bit, without_bit}
use Rattle.rules.specs.Lists.{no_entries, plain, no_ring, keeping}
use Rattle.rules.specs.Board.{with, no_process, no_object, no_flight, kind_at, list_at, ring_at, put_process, put_object, put_ring, freed, is_message, put_first, send, send_grants}
use Rattle.rules.specs.Commands.{recording}
use Rattle.rules.specs.Shape.{up_to}
use Rattle.rules.proofs.Load.{Matched, matched_freed, matched_message}
use Rattle.laws.specs.Shape.{Sized, ProcessShaped, ObjectShaped, KindShaped, RingShaped, RecordsShaped}
use Rattle.laws.proofs.Tables.{by_pick, each_set}
use Rattle.laws.proofs.Grants.{GrantsBelow}
use Rattle.laws.proofs.Shape.{no_list_shaped}
use Rattle.laws.proofs.Lists.{MessageShaped}

-- lengths as the types say, and every record in shape: all of the shape but its two sums
pub record Sound (b : Board) : Type 0 where
  pub sized : Sized b
  pub records : RecordsShaped b

-- the limit of a record below the count
pub up_to_is : (k c n : ℕ) → k < c → up_to k c n ≡ n
up_to_is k c n h = ap (λ (t : Bool). pick t n 0) (lt-ltb k c h)

module _ (b : Board) (h : Sound b) where
  abbrev s : Sized b
  s = h.sized

  abbrev r : RecordsShaped b
  r = h.records

  pub put-process : (p : ℕ) (x : Process) → ProcessShaped x (up_to p b.process_count b.object_count) → Sound (put_process b p x)
  put-process p x g = record {
    sized = record { home_of_process = s.home_of_process; home_of_object = s.home_of_object; processes = length-set b.processes p x ∙ s.processes; objects = s.objects; flights = s.flights; lists = s.lists; rings = s.rings; line = s.line; who = s.who; leads = s.leads; ring = s.ring };
    records = record {
      table = r.table;
      processes = each_set (λ p (y : Process). ProcessShaped y (up_to p b.process_count b.object_count)) b.processes p x no_process g r.processes;
      objects = r.objects;
      messages = r.messages;
      flying = r.flying;
      rings = r.rings;
    };
  }

  pub put-object : (o : ℕ) (x : Object) → ObjectShaped x (up_to o b.object_count b.process_count) → length x.line ≡ 16 → Sound (put_object b o x)
  put-object o x g z = record {
    sized = record { home_of_process = s.home_of_process; home_of_object = s.home_of_object; processes = s.processes; objects = length-set b.objects o x ∙ s.objects; flights = s.flights; lists = s.lists; rings = s.rings; line = each_set (λ _ (y : Object). length y.line ≡ 16) b.objects o x no_object z s.line; who = s.who; leads = s.leads; ring = s.ring };
    records = record {
      table = r.table;
      processes = r.processes;
      objects = each_set (λ o (y : Object). ObjectShaped y (up_to o b.object_count b.process_count)) b.objects o x no_object g r.objects;
      messages = r.messages;
      flying = r.flying;
      rings = r.rings;
    };
  }

  put-ring : (i : ℕ) (x : Ring) → RingShaped x i b.process_count → length x.processes ≡ 16 → Sound (put_ring b i x)
  put-ring i x g z = record {
    sized = record { home_of_process = s.home_of_process; home_of_object = s.home_of_object; processes = s.processes; objects = s.objects; flights = s.flights; lists = s.lists; rings = length-set b.rings i x ∙ s.rings; line = s.line; who = s.who; leads = s.leads; ring = each_set (λ _ (y : Ring). length y.processes ≡ 16) b.rings i x no_ring z s.ring };
    records = record {
      table = r.table;
      processes = r.processes;
      objects = r.objects;
      messages = r.messages;
      flying = r.flying;
      rings = each_set (λ i (y : Ring). RingShaped y i b.process_count) b.rings i x no_ring g r.rings;
    };
  }

  -- a message in its place, or the place cleared
  module _ (n occupied : ℕ) (x : Flight) (l : Entries) (below : n < 64) where
    abbrev after : Board
    after = with b b.processes b.objects occupied (set b.flights n x) (set b.lists n l) b.rings

    abbrev Fits : Kind → Entries → Type 0
    Fits k l = KindShaped k l b.process_count b.object_count

    each_message : Fits x.kind l → (k : ℕ) → Fits (kind_at after k) (list_at after k)
    each_message g k = elim (ℕ_discrete k n) [
      | yes z ↦ subst (λ (i : ℕ). Fits (kind_at after i) (list_at after i)) (sym z) (subst₂ Fits (sym (ap (λ (y : Flight). y.kind) (get_or-set_same b.flights n x no_flight (omega (arith, s.flights))))) (sym (get_or-set_same b.lists n l no_entries (omega (arith, s.lists)))) g)
      | no w ↦ subst₂ Fits (sym (ap (λ (y : Flight). y.kind) (get_or-set_other b.flights n k x no_flight w))) (sym (get_or-set_other b.lists n k l no_entries w)) (r.messages k)
    ]

    put_flight : Fits x.kind l → length l.who ≡ 16 → length l.leads ≡ 16 → Matched after → Sound after
    put_flight g who leads m = record {
      sized = record { home_of_process = s.home_of_process; home_of_object = s.home_of_object; processes = s.processes; objects = s.objects; flights = length-set b.flights n x ∙ s.flights; lists = length-set b.lists n l ∙ s.lists; rings = s.rings; line = s.line; who = each_set (λ _ (y : Entries). length y.who ≡ 16) b.lists n l no_entries who s.who; leads = each_set (λ _ (y : Entries). length y.leads ≡ 16) b.lists n l no_entries leads s.leads; ring = s.ring };
      records = record {
        table = r.table;
        processes = r.processes;
        objects = r.objects;
        messages = each_message g;
        flying = m;
        rings = r.rings;
      };
    }

  pub put_freed : (n : ℕ) → n < 64 → Sound (freed b n)
  put_freed n l = put_flight n (without_bit b.occupied n) no_flight no_entries l no_list_shaped refl refl (matched_freed b n r.flying)

  pub put_sent : (m : Message) → MessageShaped m b.process_count b.object_count → Sound (send b m)
  unfolding send put_first
  put_sent m g =
      by_pick Sound (is_message m.kind)
      (λ e. by_pick Sound (ltb (lowest_free b.occupied) 64)
      (λ l. let n = lowest_free b.occupied in
      let below : n < 64 = ltb-true n 64 l in
      put_flight n (with_bit b.occupied n) (record { kind = m.kind }) m.list below g.kind g.who g.leads (matched_message b n m (omega (arith, s.flights)) e r.flying))
      (λ l. h)) (λ e. h)

  pub put_recorded : (i : ℕ) (x : Ring) → RingShaped x i b.process_count → length x.processes ≡ 16 → Sound (recording b i x)
  unfolding recording keeping
  put_recorded i x g z =
      by_pick Sound (eqb x.count 0) (λ e. h)
      (λ e. put-ring i (keeping (ring_at b i) x)
      (by_pick (λ (y : Ring). RingShaped y i b.process_count) (eqb (ring_at b i).count 0) (λ f. g) (λ f. r.rings i))
      (by_pick (λ (y : Ring). length y.processes ≡ 16) (eqb (ring_at b i).count 0) (λ f. z) (λ f. s.ring i)))

-- ---- messages that are no lists
pub plain_shaped : (k : Kind) (pc oc : ℕ) → KindShaped k no_entries pc oc → MessageShaped (plain k) pc oc
plain_shaped k pc oc h = record { kind = h; who = refl; leads = refl }

-- sending and recording leave the counts
pub record SameCounts (b c : Board) : Type 0 where
  pub processes : c.process_count ≡ b.process_count
  pub objects : c.object_count ≡ b.object_count

same_counts : (b : Board) → SameCounts b b
same_counts b = record { processes = refl; objects = refl }

pub send_counts : (b : Board) (m : Message) → SameCounts b (send b m)
unfolding send put_first
send_counts b m = by_pick (SameCounts b) (is_message m.kind) (λ e. by_pick (SameCounts b) (ltb (lowest_free b.occupied) 64) (λ l. record { processes = refl; objects = refl }) (λ l. same_counts b)) (λ e. same_counts b)

pub recording_counts : (b : Board) (i : ℕ) (x : Ring) → SameCounts b (recording b i x)
unfolding recording
recording_counts b i x = by_pick (SameCounts b) (eqb x.count 0) (λ e. same_counts b) (λ e. record { processes = refl; objects = refl })

-- one grant sent, and those that are left still below the count
module _ (b : Board) (h : Sound b) (o p : ℕ) (m : Mode) (lo : o < b.object_count) (lp : p < b.process_count) where
  pub grant_sent : Sound (send b (plain (Grant p o m)))
  grant_sent = put_sent b h (plain (Grant p o m)) (plain_shaped (Grant p o m) _ _ (lp, lo, no_list_shaped))

  pub grants_left : (gs : List (ℕ × Mode)) → GrantsBelow b.process_count gs → GrantsBelow (send b (plain (Grant p o m))).process_count gs
  grants_left gs g = subst (λ (c : ℕ). GrantsBelow c gs) (sym (send_counts b (plain (Grant p o m))).processes) g

  pub object_left : o < (send b (plain (Grant p o m))).object_count
  object_left = rw (send_counts b (plain (Grant p o m))).objects lo

pub put_grants : (gs : List (ℕ × Mode)) (b : Board) (o : ℕ) → Sound b → o < b.object_count → GrantsBelow b.process_count gs → Sound (send_grants b o gs)
unfolding send_grants
put_grants [] b o h lo g = h
put_grants (x ∷ gs) b o h lo g = put_grants gs (send b (plain (Grant x.0 o x.1))) o (grant_sent b h o x.0 x.1 lo g.0) (object_left b h o x.0 x.1 lo g.0) (grants_left b h o x.0 x.1 lo g.0 gs g.1)
