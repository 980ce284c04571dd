-- The test of shape and the record of shape say the same, clause by clause; shape gives sizes and ranges.
use mathlib.Core.Path.{◌≡◌, refl, ap, sym, ◌∙◌}
use mathlib.Core.Bool.{Bool, true, false, not, ◌&&◌, and-false, true≢false}
use mathlib.Core.List.{List}
use Prim.Native.Nat.{ℕ, zero, suc, ◌^◌, ◌≤◌, ◌<◌}
use native.Mathlib.Omega.{arith}
use native.Mathlib.Decide.{dec_lt}
use lib.Dec.{eqb, ltb, leb}
use lib.ListN.{length, get_or, replicate, get_or-eq_default}
use lib.Pow.{pow_pos}
use borrow.Author.Tests.{eqb-true, eqb-false, eq-eqb, ne_eqb, ltb-true, ltb-false, lt-ltb, le-ltb, leb-true, le-leb, not-true}
use Rattle.rules.specs.declared.Wait.{Wait}
use Rattle.rules.specs.declared.Wait.TheVariants.{NotWaiting, Waiting}
use Rattle.rules.specs.declared.Kind.{Kind}
use Rattle.rules.specs.declared.Kind.TheVariants.{Free, Request, Grant, Release, ListToHome, ListToObject}
use Rattle.rules.specs.declared.Entries.{Entries}
use Rattle.rules.specs.declared.Flight.{Flight}
use Rattle.rules.specs.declared.Process.{Process}
use Rattle.rules.specs.declared.Object.{Object}
use Rattle.rules.specs.declared.Ring.{Ring}
use Rattle.rules.specs.declared.Board.{Board}
use Rattle.rules.specs.Tables.{pick, either, all}
use Rattle.rules.specs.Bits.{taken}
use Rattle.rules.specs.Lists.{lead_at, no_entries, no_ring}
use Rattle.rules.specs.Board.{no_process, no_object, no_flight, process_at, object_at, kind_at, list_at, ring_at, in_flight, is_message}
use Rattle.rules.specs.Shape.{set_fits, holds_fit, row_fits, different, count_fits, counts_fit, up_to, wait_fits, process_fits, object_fits, lead_fits, list_fits, no_list, kind_fits, same, message_fits, ring_fits, standing, in_shape}
use Rattle.rules.specs.Ranges.{ListRanged, KindRanged, WaitRanged, Ranged}
use Rattle.rules.proofs.Bits.{taken_zero, taken_below}
use Rattle.laws.specs.Shape.{Sized, Within, Row, HoldsShaped, WaitBelow, ProcessShaped, ObjectShaped, ListShaped, NoList, KindShaped, RingFilled, RingShaped, RecordsShaped, Shaped, ShapeSaid}
use Rattle.laws.proofs.Tables.{by_pick, replicate_at}
use Rattle.rules.proofs.Tables.{both, all_at, all_from}
use Rattle.laws.proofs.Tests.{parts, differ_from, differ_tested, set_below, set_tested}

-- ---- small parts, read off the tests
within : (n top : ℕ) → count_fits n top ≡ true → Within n top
within n top e = let a = parts (ltb 0 n) (leb n top) e in (ltb-true 0 n a.0, leb-true n top a.1)

-- a test that holds where another does, and one that holds where it does not
if_true : (t a b : Bool) → t ≡ true → pick t a b ≡ true → a ≡ true
if_true t a b e h = rw e at h

if_false : (t a b : Bool) → t ≡ false → pick t a b ≡ true → b ≡ true
if_false t a b e h = rw e at h

row_from : (l : List ℕ) (n c : ℕ) → length l ≡ 16 → n ≤ 16 → row_fits l n c ≡ true → Row l n c
unfolding row_fits
row_from l n c s h e = record {
  used = λ k g. ltb-true _ c (if_true (ltb k n) _ _ (lt-ltb k n g) (all_at 16 _ e k (omega arith)));
  rest = λ k g. elim (dec_lt k 16) [
    | yes z ↦ eqb-true _ 0 (if_false (ltb k n) _ _ (le-ltb k n g) (all_at 16 _ e k z))
    | no z ↦ get_or-eq_default l 0 (omega arith)
  ];
}

zeros_from : (l : List ℕ) → length l ≡ 16 → row_fits l 0 0 ≡ true → (k : ℕ) → get_or l k 0 ≡ 0
zeros_from l s e k = (row_from l 0 0 s (omega arith) e).rest k (omega arith)

never_both : (a b : Bool) → not (a && b) ≡ true → a ≡ true → b ≡ true → ⊥
never_both a b e f g = true≢false (sym (both a b f g) ∙ not-true (a && b) e)

holds_from : (s x c : ℕ) → c ≤ 16 → holds_fit s x c ≡ true → HoldsShaped s x c
unfolding holds_fit
holds_from s x c h e =
    let a = parts (set_fits s c) _ e in
    let d = parts (set_fits x c) _ a.1 in
    let below : s < 2 ^ c = set_below s c a.0 in
    record {
      shared = below;
      exclusive = set_below x c d.0;
      once = λ k f g. never_both (taken s k) (taken x k) (all_at 16 _ d.1 k (omega (arith, taken_below s k c below f))) f g;
    }

wait_from : (w : Wait) (c : ℕ) → wait_fits w c ≡ true → WaitBelow w c
wait_from NotWaiting c e = tt
wait_from (Waiting o m) c e = ltb-true o c e

process_from : (x : Process) (c : ℕ) → c ≤ 16 → process_fits x c ≡ true → ProcessShaped x c
unfolding process_fits
process_from x c h e =
    let a = parts (holds_fit x.shared x.exclusive c) _ e in
    let d = parts (wait_fits x.wait c) _ a.1 in
    record { holds = holds_from _ _ c h a.0; wait = wait_from x.wait c d.0; released = λ z. ltb-true 0 c (if_true x.released _ _ z d.1) }

object_from : (x : Object) (c : ℕ) → c ≤ 16 → length x.line ≡ 16 → object_fits x c ≡ true → ObjectShaped x c
unfolding object_fits
object_from x c h s e =
    let a = parts (holds_fit x.shared x.exclusive c) _ e in
    let d = parts (leb x.line_count 16) _ a.1 in
    let f = parts (row_fits x.line x.line_count c) _ d.1 in
    let n = leb-true _ 16 d.0 in
    record { holders = holds_from _ _ c h a.0; count = n; line = row_from _ _ c s n f.0; modes = set_below _ _ f.1 }

lead_from : (l : Entries) (k : ℕ) → lead_fits l k ≡ true → 0 < k → k < l.count → lead_at l k < k
lead_from l k e h g = ltb-true _ k (if_true (ltb 0 k && ltb k l.count) _ _ (both _ _ (lt-ltb 0 k h) (lt-ltb k _ g)) e)

no_lead_from : (l : Entries) (k : ℕ) → lead_fits l k ≡ true → (ltb 0 k && ltb k l.count ≡ false) → lead_at l k ≡ 0
no_lead_from l k e h = eqb-true _ 0 (if_false (ltb 0 k && ltb k l.count) _ _ h e)

list_from : (l : Entries) (c : ℕ) → length l.who ≡ 16 → length l.leads ≡ 16 → list_fits l c ≡ true → ListShaped l c
unfolding list_fits
list_from l c s t e =
    let a1 = parts (ltb 1 l.count) _ e in
    let a2 = parts (leb l.count 16) _ a1.1 in
    let a3 = parts (ltb 0 l.next) _ a2.1 in
    let a4 = parts (ltb l.next l.count) _ a3.1 in
    let a5 = parts (row_fits l.who l.count c) _ a4.1 in
    let a6 = parts (all 16 (lead_fits l)) _ a5.1 in
    let most : l.count ≤ 16 = leb-true _ 16 a2.0 in
    record {
      two = ltb-true 1 _ a1.0;
      most = most;
      later = ltb-true 0 _ a3.0;
      inside = ltb-true _ _ a4.0;
      who = row_from _ _ c s most a5.0;
      starter_lead = no_lead_from l 0 (all_at 16 _ a6.0 0 (omega arith)) refl;
      leads = λ k h g. lead_from l k (all_at 16 _ a6.0 k (omega arith)) h g;
      rest_leads = λ k h. elim (dec_lt k 16) [
        | yes z ↦ no_lead_from l k (all_at 16 _ a6.0 k z) (ap (λ (x : Bool). ltb 0 k && x) (le-ltb k _ h) ∙ and-false (ltb 0 k))
        | no z ↦ get_or-eq_default l.leads 0 (omega arith)
      ];
      different = differ_from _ _ a6.1;
    }

none_from : (l : Entries) → length l.who ≡ 16 → length l.leads ≡ 16 → no_list l ≡ true → NoList l
unfolding no_list
none_from l s t e =
    let a1 = parts (eqb l.count 0) _ e in
    let a2 = parts (eqb l.next 0) _ a1.1 in
    let a3 = parts (row_fits l.who 0 0) _ a2.1 in
    record { count = eqb-true _ 0 a1.0; next = eqb-true _ 0 a2.0; who = zeros_from _ s a3.0; leads = zeros_from _ t a3.1 }

-- a message that names a process and an object
module _ (p o pc oc : ℕ) (l : Entries) where
  naming_from : length l.who ≡ 16 → length l.leads ≡ 16 → ltb p pc && (ltb o oc && no_list l) ≡ true → (p < pc) × (o < oc) × NoList l
  naming_from s t e =
      let a = parts (ltb p pc) _ e in
      let d = parts (ltb o oc) _ a.1 in
      (ltb-true p pc a.0, ltb-true o oc d.0, none_from l s t d.1)

kind_from : (k : Kind) (l : Entries) (pc oc : ℕ) → length l.who ≡ 16 → length l.leads ≡ 16 → kind_fits k l pc oc ≡ true → KindShaped k l pc oc
kind_from Free l pc oc s t e = none_from l s t e
kind_from (Request p o m) l pc oc s t e = naming_from p o pc oc l s t e
kind_from (Grant p o m) l pc oc s t e = naming_from p o pc oc l s t e
kind_from (Release p o) l pc oc s t e = naming_from p o pc oc l s t e
kind_from ListToHome l pc oc s t e = list_from l pc s t e
kind_from (ListToObject o) l pc oc s t e = let a = parts (ltb o oc) _ e in (ltb-true o oc a.0, list_from l pc s t a.1)

same_from : (a b : Bool) → same a b ≡ true → a ≡ b
same_from true b e = sym e
same_from false b e = sym (not-true b e)

either_from : (a b : Bool) → a ≡ false → either a b ≡ true → b ≡ true
either_from a b h e = rw h at e

-- what a filled place is tested for
abbrev full_ring : Ring → ℕ → Bool
full_ring r s = ltb 1 r.count && (leb r.count 16 && (eqb (get_or r.processes 0 0) s && different r.processes r.count))

module _ (r : Ring) (s : ℕ) (e : either (eqb r.count 0) (full_ring r s) ≡ true) where
  ring_most : r.count ≤ 16
  ring_most = go (eqb r.count 0) refl
    where
      go : (t : Bool) → eqb r.count 0 ≡ t → r.count ≤ 16
      go true f = omega (arith, eqb-true r.count 0 f)
      go false f = leb-true _ 16 (parts (leb r.count 16) _ (parts (ltb 1 r.count) _ (either_from (eqb r.count 0) (full_ring r s) f e)).1).0

  ring_filled : 0 < r.count → RingFilled r s
  ring_filled h =
      let a1 = parts (ltb 1 r.count) _ (either_from (eqb r.count 0) (full_ring r s) (ne_eqb r.count 0 (λ z. omega arith)) e) in
      let a2 = parts (leb r.count 16) _ a1.1 in
      let a3 = parts (eqb (get_or r.processes 0 0) s) _ a2.1 in
      record { two = ltb-true 1 _ a1.0; starter = eqb-true _ s a3.0; different = differ_from _ _ a3.1 }

ring_from : (r : Ring) (s pc : ℕ) → length r.processes ≡ 16 → ring_fits r s pc ≡ true → RingShaped r s pc
unfolding ring_fits
ring_from r s pc z e =
    let a = parts (row_fits r.processes r.count pc) _ e in
    let most = ring_most r s a.1 in
    record { processes = row_from _ _ pc z most a.0; most = most; filled = ring_filled r s a.1 }

-- ---- the board, read off the test; past its arrays every record holds zero
up_to_most : (k c n : ℕ) → n ≤ 16 → up_to k c n ≤ 16
up_to_most k c n h = by_pick (λ (x : ℕ). x ≤ 16) (ltb k c) (λ e. h) (λ e. omega arith)

zeros : (k : ℕ) → ◌≡◌ {A = ℕ} (get_or (replicate 16 0) k 0) 0
zeros k = replicate_at {A = ℕ} 16 k 0

no_holds : (c : ℕ) → HoldsShaped 0 0 c
no_holds c = record { shared = pow_pos c; exclusive = pow_pos c; once = λ k e f. true≢false (sym e ∙ taken_zero k) }

zero_row : (c : ℕ) → Row (replicate 16 0) 0 c
zero_row c = record { used = λ k h. absurd (omega arith); rest = λ k h. zeros k }

pub no_process_shaped : (c : ℕ) → ProcessShaped no_process c
no_process_shaped c = record { holds = no_holds c; wait = tt; released = λ e. absurd (true≢false (sym e)) }

pub no_object_shaped : (c : ℕ) → ObjectShaped no_object c
no_object_shaped c = record { holders = no_holds c; count = omega arith; line = zero_row c; modes = pow_pos 0 }

pub no_list_shaped : NoList no_entries
no_list_shaped = record { count = refl; next = refl; who = zeros; leads = zeros }

pub no_ring_shaped : (s pc : ℕ) → RingShaped no_ring s pc
no_ring_shaped s pc = record { processes = zero_row pc; most = omega arith; filled = λ h. absurd (omega arith) }

-- a record past the end of its array
past : {A : Type 0} (P : A → Type 0) (l : List A) (d : A) (n k : ℕ) → length l ≡ n → (k < n → P (get_or l k d)) → P d → P (get_or l k d)
past P l d n k e f h = elim (dec_lt k n) [ yes z ↦ f z | no z ↦ rw (get_or-eq_default l d {n = k} (omega arith)) h ]

pub unused : (k : Kind) (l : Entries) (pc oc : ℕ) → k ≡ Free → l ≡ no_entries → KindShaped k l pc oc
unused k l pc oc e f = rw (e, f) no_list_shaped

module _ (b : Board) (s : Sized b) (e : in_shape b ≡ true) where
  abbrev pc : ℕ
  pc = b.process_count

  abbrev oc : ℕ
  oc = b.object_count

  pub shaped : Shaped b
  unfolding in_shape counts_fit message_fits
  shaped =
      let a1 = parts (counts_fit b) _ e in
      let a2 = parts (all 16 (λ p. process_fits (process_at b p) (up_to p pc oc))) _ a1.1 in
      let a3 = parts (all 16 (λ o. object_fits (object_at b o) (up_to o oc pc))) _ a2.1 in
      let a4 = parts (all 64 (message_fits b)) _ a3.1 in
      let a5 = parts (all 16 (λ s. ring_fits (ring_at b s) s pc)) _ a4.1 in
      let a6 = parts (all 16 (λ p. leb (standing b p) 1)) _ a5.1 in
      let c1 = parts (count_fits b.nodes 8) _ a1.0 in
      let c2 = parts (count_fits pc 16) _ c1.1 in
      let c3 = parts (count_fits oc 16) _ c2.1 in
      let c4 = parts (row_fits b.process_home pc b.nodes) _ c3.1 in
      let ps : Within pc 16 = within _ 16 c2.0 in
      let os : Within oc 16 = within _ 16 c3.0 in
      record {
        records = record {
          table = record {
            nodes = within _ 8 c1.0;
            count_of_processes = ps;
            count_of_objects = os;
            home_of_process = row_from _ _ _ s.home_of_process ps.1 c4.0;
            home_of_object = row_from _ _ _ s.home_of_object os.1 c4.1;
          };
          processes = λ p. past (λ (x : Process). ProcessShaped x (up_to p pc oc)) b.processes no_process 16 p s.processes (λ h. process_from _ _ (up_to_most p pc oc os.1) (all_at 16 _ a2.0 p h)) (no_process_shaped _);
          objects = λ o. past (λ (x : Object). ObjectShaped x (up_to o oc pc)) b.objects no_object 16 o s.objects (λ h. object_from _ _ (up_to_most o oc pc ps.1) (s.line o) (all_at 16 _ a3.0 o h)) (no_object_shaped _);
          messages = λ n. messages n (λ h. (parts (same (in_flight b n) (is_message (kind_at b n))) _ (all_at 64 _ a4.0 n h)).1);
          flying = λ n h. same_from (in_flight b n) _ (parts (same (in_flight b n) (is_message (kind_at b n))) _ (all_at 64 _ a4.0 n h)).0;
          rings = λ r. past (λ (x : Ring). RingShaped x r pc) b.rings no_ring 16 r s.rings (λ h. ring_from _ r pc (s.ring r) (all_at 16 _ a5.0 r h)) (no_ring_shaped r pc);
        };
        standing = λ p h. leb-true _ 1 (all_at 16 _ a6.0 p h);
        load = leb-true _ 64 a6.1;
      }
    where
      messages : (n : ℕ) → (n < 64 → kind_fits (kind_at b n) (list_at b n) pc oc ≡ true) → KindShaped (kind_at b n) (list_at b n) pc oc
      messages n f = elim (dec_lt n 64) [
        | yes z ↦ kind_from (kind_at b n) (list_at b n) pc oc (s.who n) (s.leads n) (f z)
        | no z ↦ unused (kind_at b n) (list_at b n) pc oc (ap (λ (x : Flight). x.kind) (get_or-eq_default b.flights no_flight {n = n} (omega (arith, s.flights)))) (get_or-eq_default b.lists no_entries {n = n} (omega (arith, s.lists)))
      ]

-- ---- the tests, passed
within_tested : (n top : ℕ) → Within n top → count_fits n top ≡ true
within_tested n top h = both _ _ (lt-ltb 0 n h.0) (le-leb n top h.1)

row_tested : (l : List ℕ) (n c : ℕ) → Row l n c → row_fits l n c ≡ true
unfolding row_fits
row_tested l n c r = all_from 16 _ (λ k h. by_pick (λ (x : Bool). x ≡ true) (ltb k n) (λ e. lt-ltb _ c (r.used k (ltb-true k n e))) (λ e. eq-eqb _ 0 (r.rest k (ltb-false k n e))))

not_both : (a b : Bool) → (a ≡ true → b ≡ true → ⊥) → not (a && b) ≡ true
not_both true true h = absurd (h refl refl)
not_both true false h = refl
not_both false b h = refl

holds_tested : (s x c : ℕ) → HoldsShaped s x c → holds_fit s x c ≡ true
unfolding holds_fit
holds_tested s x c h = both _ _ (set_tested s c h.shared) (both _ _ (set_tested x c h.exclusive) (all_from 16 _ (λ k _. not_both (taken s k) (taken x k) (h.once k))))

wait_tested : (w : Wait) (c : ℕ) → WaitBelow w c → wait_fits w c ≡ true
wait_tested NotWaiting c h = refl
wait_tested (Waiting o m) c h = lt-ltb o c h

process_tested : (x : Process) (c : ℕ) → ProcessShaped x c → process_fits x c ≡ true
unfolding process_fits
process_tested x c h = both _ _ (holds_tested _ _ c h.holds) (both _ _ (wait_tested x.wait c h.wait) (by_pick (λ (y : Bool). y ≡ true) x.released (λ e. lt-ltb 0 c (h.released e)) (λ e. refl)))

object_tested : (x : Object) (c : ℕ) → ObjectShaped x c → object_fits x c ≡ true
unfolding object_fits
object_tested x c h = both _ _ (holds_tested _ _ c h.holders) (both _ _ (le-leb _ 16 h.count) (both _ _ (row_tested _ _ c h.line) (set_tested _ _ h.modes)))

lead_tested : (l : Entries) (c k : ℕ) → ListShaped l c → lead_fits l k ≡ true
lead_tested l c k h = go (ltb 0 k) (ltb k l.count) refl refl
  where
    go : (t u : Bool) → ltb 0 k ≡ t → ltb k l.count ≡ u → pick (t && u) (ltb (lead_at l k) k) (eqb (lead_at l k) 0) ≡ true
    go true true e f = lt-ltb _ k (h.leads k (ltb-true 0 k e) (ltb-true k _ f))
    go true false e f = eq-eqb _ 0 (h.rest_leads k (ltb-false k _ f))
    go false u e f = let z : k ≡ 0 = omega (arith, ltb-false 0 k e) in eq-eqb _ 0 (ap (lead_at l) z ∙ h.starter_lead)

list_tested : (l : Entries) (c : ℕ) → ListShaped l c → list_fits l c ≡ true
unfolding list_fits
list_tested l c h = both _ _ (lt-ltb 1 _ h.two) (both _ _ (le-leb _ 16 h.most) (both _ _ (lt-ltb 0 _ h.later) (both _ _ (lt-ltb _ _ h.inside) (both _ _ (row_tested _ _ c h.who) (both _ _ (all_from 16 (lead_fits l) (λ k _. lead_tested l c k h)) (differ_tested _ _ h.different))))))

none_tested : (l : Entries) → NoList l → no_list l ≡ true
unfolding no_list
none_tested l h = both _ _ (eq-eqb _ 0 h.count) (both _ _ (eq-eqb _ 0 h.next) (both _ _ (row_tested l.who 0 0 (zero l.who h.who)) (row_tested l.leads 0 0 (zero l.leads h.leads))))
  where
    zero : (r : List ℕ) → ((k : ℕ) → get_or r k 0 ≡ 0) → Row r 0 0
    zero r f = record { used = λ k g. absurd (omega arith); rest = λ k g. f k }

module _ (p o pc oc : ℕ) (l : Entries) where
  naming_tested : (p < pc) × (o < oc) × NoList l → ltb p pc && (ltb o oc && no_list l) ≡ true
  naming_tested h = both _ _ (lt-ltb p pc h.0) (both _ _ (lt-ltb o oc h.1) (none_tested l h.2))

kind_tested : (k : Kind) (l : Entries) (pc oc : ℕ) → KindShaped k l pc oc → kind_fits k l pc oc ≡ true
kind_tested Free l pc oc h = none_tested l h
kind_tested (Request p o m) l pc oc h = naming_tested p o pc oc l h
kind_tested (Grant p o m) l pc oc h = naming_tested p o pc oc l h
kind_tested (Release p o) l pc oc h = naming_tested p o pc oc l h
kind_tested ListToHome l pc oc h = list_tested l pc h
kind_tested (ListToObject o) l pc oc h = both _ _ (lt-ltb o oc h.0) (list_tested l pc h.1)

same_tested : (a b : Bool) → a ≡ b → same a b ≡ true
same_tested true b e = sym e
same_tested false b e = ap not (sym e)

ring_tested : (r : Ring) (s pc : ℕ) → RingShaped r s pc → ring_fits r s pc ≡ true
unfolding ring_fits
ring_tested r s pc h = both _ _ (row_tested _ _ pc h.processes) (go (eqb r.count 0) refl)
  where
    go : (t : Bool) → eqb r.count 0 ≡ t → either t (full_ring r s) ≡ true
    go true e = refl
    go false e =
        let nonzero : r.count ≡ 0 → ⊥ = eqb-false r.count 0 e in
        let f = h.filled (positive r.count nonzero) in
        both _ _ (lt-ltb 1 _ f.two) (both _ _ (le-leb _ 16 h.most) (both _ _ (eq-eqb _ s f.starter) (differ_tested _ _ f.different)))
      where
        positive : (n : ℕ) → (n ≡ 0 → ⊥) → 0 < n
        positive n f = elim (dec_lt 0 n) [ yes z ↦ z | no z ↦ absurd (f (omega arith)) ]

pub tested : (b : Board) → Shaped b → in_shape b ≡ true
unfolding in_shape counts_fit message_fits
tested b h =
    let r = h.records in
    let t = r.table in
    let pc = b.process_count in
    let oc = b.object_count in
    both _ _ (both _ _ (within_tested _ 8 t.nodes) (both _ _ (within_tested pc 16 t.count_of_processes) (both _ _ (within_tested oc 16 t.count_of_objects) (both _ _ (row_tested _ _ _ t.home_of_process) (row_tested _ _ _ t.home_of_object)))))
    (both _ _ (all_from 16 _ (λ p _. process_tested (process_at b p) (up_to p pc oc) (r.processes p)))
    (both _ _ (all_from 16 _ (λ o _. object_tested (object_at b o) (up_to o oc pc) (r.objects o)))
    (both _ _ (all_from 64 (message_fits b) (λ n l. both _ _ (same_tested (in_flight b n) _ (r.flying n l)) (kind_tested (kind_at b n) (list_at b n) pc oc (r.messages n))))
    (both _ _ (all_from 16 _ (λ s _. ring_tested (ring_at b s) s pc (r.rings s)))
    (both _ _ (all_from 16 _ (λ p l. le-leb _ 1 (h.standing p l))) (le-leb _ 64 h.load))))))

-- ---- sizes and ranges
up_to_le : (k c n : ℕ) → up_to k c n ≤ n
up_to_le k c n = by_pick (λ (x : ℕ). x ≤ n) (ltb k c) (λ e. omega arith) (λ e. omega arith)

row_small : (l : List ℕ) (n c : ℕ) → c ≤ 16 → Row l n c → (k : ℕ) → get_or l k 0 < 16
row_small l n c h r k = elim (dec_lt k n) [ yes z ↦ omega (arith, r.used k z) | no z ↦ omega (arith, r.rest k (omega arith)) ]

wait_small : (w : Wait) (c : ℕ) → c ≤ 16 → WaitBelow w c → WaitRanged w
wait_small NotWaiting c h g = tt
wait_small (Waiting o m) c h g = omega arith

kind_small : (k : Kind) (l : Entries) (pc oc : ℕ) → pc ≤ 16 → oc ≤ 16 → KindShaped k l pc oc → KindRanged k
kind_small Free l pc oc h g s = tt
kind_small (Request p o m) l pc oc h g s = (omega (arith, s.0), omega (arith, s.1))
kind_small (Grant p o m) l pc oc h g s = (omega (arith, s.0), omega (arith, s.1))
kind_small (Release p o) l pc oc h g s = (omega (arith, s.0), omega (arith, s.1))
kind_small ListToHome l pc oc h g s = tt
kind_small (ListToObject o) l pc oc h g s = omega (arith, s.0)

module _ (l : Entries) (pc : ℕ) (h : pc ≤ 16) (size : length l.who ≡ 16) (leads_size : length l.leads ≡ 16) where
  lead_small : ListShaped l pc → (k : ℕ) → lead_at l k < 16
  lead_small s zero = omega (arith, s.starter_lead)
  lead_small s (suc k) = elim (dec_lt (suc k) l.count) [ yes z ↦ omega (arith, s.leads (suc k) (omega arith) z, s.most) | no z ↦ omega (arith, s.rest_leads (suc k) (omega arith)) ]

  list_small : ListShaped l pc → ListRanged l
  list_small s = record { size = size; leads_size = leads_size; count = s.most; next = omega (arith, s.inside, s.most); who = row_small _ _ pc h s.who; leads = lead_small s }

  none_small : NoList l → ListRanged l
  none_small s = record { size = size; leads_size = leads_size; count = omega (arith, s.count); next = omega (arith, s.next); who = λ k. omega (arith, s.who k); leads = λ k. omega (arith, s.leads k) }

  entries_small : (k : Kind) (oc : ℕ) → KindShaped k l pc oc → ListRanged l
  entries_small Free oc s = none_small s
  entries_small (Request p o m) oc s = none_small s.2
  entries_small (Grant p o m) oc s = none_small s.2
  entries_small (Release p o) oc s = none_small s.2
  entries_small ListToHome oc s = list_small s
  entries_small (ListToObject o) oc s = list_small s.1

pub shaped_ranged : (b : Board) → Sized b → RecordsShaped b → Ranged b
shaped_ranged b s h =
    let pc = b.process_count in
    let oc = b.object_count in
    let ps : pc ≤ 16 = h.table.count_of_processes.1 in
    let os : oc ≤ 16 = h.table.count_of_objects.1 in
    record {
      processes = s.processes;
      objects = s.objects;
      flights = s.flights;
      lists = s.lists;
      rings = s.rings;
      count_of_processes = ps;
      count_of_objects = os;
      waits = λ p. wait_small (process_at b p).wait _ (omega (arith, up_to_le p pc oc)) (h.processes p).wait;
      lines = λ o. record { size = s.line o; count = (h.objects o).count; who = row_small _ _ _ (omega (arith, up_to_le o oc pc)) (h.objects o).line };
      kinds = λ n. kind_small (kind_at b n) (list_at b n) pc oc ps os (h.messages n);
      entries = λ n. entries_small (list_at b n) pc ps (s.who n) (s.leads n) (kind_at b n) oc (h.messages n);
    }

pub shape_said : ShapeSaid
shape_said = record { shaped = shaped; tested = tested; ranged = λ b s e. shaped_ranged b s (shaped b s e).records }
