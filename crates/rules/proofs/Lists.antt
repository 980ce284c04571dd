-- Laws of a list: what stands in it after entries are added, that its entries stay different, and the way back along its leads.
-- A list of 16 does not grow, and needs not: 16 different entries below 16 are all the processes. Assumes nothing.
use mathlib.Core.Path.{◌≡◌, refl, sym, ap, ◌∙◌, subst}
use mathlib.Core.Logic.{◌≢◌, inl, inr, ⊎_elim}
use mathlib.Core.Bool.{true, false}
use mathlib.Core.List.{List, [], ◌∷◌, ◌++◌}
use Prim.Native.Nat.{ℕ, zero, suc, ◌≤◌, ◌<◌}
use native.Mathlib.Omega.{arith}
use native.Mathlib.Decide.{ℕ_discrete, dec_lt}
use lib.ListN.{length, get_or, replicate, length-append, length-set}
use lib.Seq.{get_or-set_same, get_or-set_other}
use borrow.Author.Tests.{lt-ltb, le-ltb}
use Rattle.rules.specs.declared.Entries.{Entries}
use Rattle.rules.specs.Waits.{Among, Different}
use Rattle.rules.specs.Lists.{entry_at, lead_at, listed, longer, add_one, add_all, to_home, nothing, starter, started, along_leads}
use Rattle.rules.proofs.Tables.{by_test, true_not_false, among_is, is_among, among_rows, rows_place, among_cases, different_numbers, different_last}

-- ---- who is listed
pub record Entry (l : Entries) (q : ℕ) : Type 0 where
  pub place : ℕ
  pub inside : place < l.count
  pub is : entry_at l place ≡ q

pub listed_is : (l : Entries) (q : ℕ) → listed l q ≡ true → Entry l q
unfolding listed
listed_is l q e = let r = rows_place q l.count (entry_at l) (among_is q _ e) in record { place = r.0; inside = r.1; is = r.2 }

pub is_listed : (l : Entries) (q : ℕ) → Entry l q → listed l q ≡ true
unfolding listed
is_listed l q r = is_among q _ (among_rows q l.count (entry_at l) r.place r.inside r.is)

-- ---- one entry added
-- the three ways: it is listed, the list is full, or the list is longer
pub add_one_listed : (l : Entries) (lead q : ℕ) → listed l q ≡ true → add_one l lead q ≡ l
unfolding add_one
add_one_listed l lead q e = rw e

pub add_one_full : (l : Entries) (lead q : ℕ) → 16 ≤ l.count → add_one l lead q ≡ l
unfolding add_one
add_one_full l lead q h = by_test (listed l q) (λ e. rw e) (λ e. rw (e, le-ltb l.count 16 h))

pub add_one_new : (l : Entries) (lead q : ℕ) → listed l q ≡ false → l.count < 16 → add_one l lead q ≡ longer l q lead
unfolding add_one
add_one_new l lead q e h = rw (e, lt-ltb l.count 16 h)

pub data Added (l : Entries) (lead q : ℕ) : Entries → Type 0 where
  listed_already : Entry l q → Added l lead q l
  full : 16 ≤ l.count → Added l lead q l
  new : listed l q ≡ false → l.count < 16 → Added l lead q (longer l q lead)

pub added : (l : Entries) (lead q : ℕ) → Added l lead q (add_one l lead q)
added l lead q = by_test (listed l q)
    (λ e. rw (add_one_listed l lead q e) (listed_already (listed_is l q e)))
    (λ e. elim (dec_lt l.count 16) [
      | yes h ↦ rw (add_one_new l lead q e h) (new e h)
      | no f ↦ rw (add_one_full l lead q (omega arith)) (full (omega arith))
    ])

-- what adding one keeps, adding all keeps; P may speak of those that are added
module _ (P : Entries → Type 0) (lead : ℕ) where
  pub add_all_keeps : (qs : List ℕ) → ((l : Entries) (q : ℕ) → Among q qs → P l → P (add_one l lead q)) → (l : Entries) → P l → P (add_all l lead qs)
  unfolding add_all
  add_all_keeps [] keeps l h = h
  add_all_keeps (q ∷ qs) keeps l h = add_all_keeps qs (λ m r z. keeps m r (inr z)) (add_one l lead q) (keeps l q (inl refl) h)

-- ---- what a longer list keeps of the shorter one, and what it has more
pub record Grown (l : Entries) (lead : ℕ) (m : Entries) : Type 0 where
  pub next : m.next ≡ l.next
  pub who_size : length m.who ≡ length l.who
  pub leads-size : length m.leads ≡ length l.leads
  pub longer : l.count ≤ m.count
  pub entries : (k : ℕ) → k < l.count → entry_at m k ≡ entry_at l k
  pub leads : (k : ℕ) → k < l.count → lead_at m k ≡ lead_at l k
  pub rest : (k : ℕ) → m.count ≤ k → (entry_at m k ≡ entry_at l k) × (lead_at m k ≡ lead_at l k)
  pub led : length l.leads ≡ 16 → (k : ℕ) → l.count ≤ k → k < m.count → lead_at m k ≡ lead

pub grown_not : (l : Entries) (lead : ℕ) → Grown l lead l
grown_not l lead = record {
  next = refl;
  who_size = refl;
  leads-size = refl;
  longer = omega arith;
  entries = λ k h. refl;
  leads = λ k h. refl;
  rest = λ k h. (refl, refl);
  led = λ s k h g. absurd (omega arith);
}

grown_one : (l : Entries) (lead q : ℕ) → l.count < 16 → Grown l lead (longer l q lead)
grown_one l lead q h = record {
  next = refl;
  who_size = length-set l.who l.count q;
  leads-size = length-set l.leads l.count lead;
  longer = omega arith;
  entries = λ k g. get_or-set_other l.who l.count k q 0 (λ z. omega arith);
  leads = λ k g. get_or-set_other l.leads l.count k lead 0 (λ z. omega arith);
  rest = λ k g. (get_or-set_other l.who l.count k q 0 (λ z. omega arith), get_or-set_other l.leads l.count k lead 0 (λ z. omega arith));
  led = λ s k g f. let e : k ≡ l.count = omega arith in rw e (get_or-set_same l.leads l.count lead 0 (omega arith));
}

grown_more : (l m n : Entries) (lead : ℕ) → Grown l lead m → Grown m lead n → Grown l lead n
grown_more l m n lead g f = record {
  next = f.next ∙ g.next;
  who_size = f.who_size ∙ g.who_size;
  leads-size = f.leads-size ∙ g.leads-size;
  longer = omega (arith, f.longer, g.longer);
  entries = λ k h. f.entries k (omega (arith, g.longer)) ∙ g.entries k h;
  leads = λ k h. f.leads k (omega (arith, g.longer)) ∙ g.leads k h;
  rest = λ k h. ((f.rest k h).0 ∙ (g.rest k (omega (arith, f.longer))).0, (f.rest k h).1 ∙ (g.rest k (omega (arith, f.longer))).1);
  led = λ s k h d. elim (dec_lt k m.count) [
    | yes z ↦ f.leads k z ∙ g.led s k h z
    | no z ↦ f.led (g.leads-size ∙ s) k (omega arith) d
  ];
}

pub add_one_grown : (l : Entries) (lead q : ℕ) → Grown l lead (add_one l lead q)
add_one_grown l lead q = go (added l lead q)
  where
    go : {m : Entries} → Added l lead q m → Grown l lead m
    go (listed_already r) = grown_not l lead
    go (full h) = grown_not l lead
    go (new e h) = grown_one l lead q h

pub add_all_grown : (l : Entries) (lead : ℕ) (qs : List ℕ) → Grown l lead (add_all l lead qs)
add_all_grown l lead qs =
    add_all_keeps (Grown l lead) lead qs (λ m q h g. grown_more l m (add_one m lead q) lead g (add_one_grown m lead q)) l (grown_not l lead)

-- ---- at most 16 entries
pub add_one_count : (l : Entries) (lead q : ℕ) → l.count ≤ 16 → (add_one l lead q).count ≤ 16
add_one_count l lead q h = go (added l lead q)
  where
    go : {m : Entries} → Added l lead q m → m.count ≤ 16
    go (listed_already r) = h
    go (full f) = h
    go (new e f) = omega arith

pub add_all_count : (l : Entries) (lead : ℕ) (qs : List ℕ) → l.count ≤ 16 → (add_all l lead qs).count ≤ 16
add_all_count l lead qs h = add_all_keeps (λ m. m.count ≤ 16) lead qs (λ m q z g. add_one_count m lead q g) l h

-- ---- every entry is as the old ones are, or is one of those added
module _ (P : ℕ → Type 0) where
  abbrev pub Entered : Entries → Type 0
  Entered l = (k : ℕ) → k < l.count → P (entry_at l k)

  pub add_one_entered : (l : Entries) (lead q : ℕ) → length l.who ≡ 16 → P q → Entered l → Entered (add_one l lead q)
  add_one_entered l lead q s p h = go (added l lead q)
    where
      go : {m : Entries} → Added l lead q m → Entered m
      go (listed_already r) = h
      go (full f) = h
      go (new e f) = λ k d. elim (ℕ_discrete k l.count) [
        | yes z ↦ rw (z, get_or-set_same l.who l.count q 0 (omega arith)) p
        | no g ↦ rw (get_or-set_other l.who l.count k q 0 g) (h k (omega arith))
      ]

  pub add_all_entered : (l : Entries) (lead : ℕ) (qs : List ℕ) → length l.who ≡ 16 → ((q : ℕ) → Among q qs → P q) → Entered l → Entered (add_all l lead qs)
  add_all_entered l lead qs s p h =
      (add_all_keeps (λ m. (length m.who ≡ 16) × Entered m) lead qs
      (λ m q z g. ((add_one_grown m lead q).who_size ∙ g.0, add_one_entered m lead q g.0 (p q z) g.1)) l (s, h)).1

-- ---- "Its entries are different processes."
abbrev pub Apart : Entries → Type 0
Apart l = (i j : ℕ) → i < l.count → j < l.count → entry_at l i ≡ entry_at l j → i ≡ j

apart_new : (l : Entries) (lead q : ℕ) → length l.who ≡ 16 → l.count < 16 → listed l q ≡ false → Apart l → Apart (longer l q lead)
apart_new l lead q s f e h i j d c z = elim (ℕ_discrete i l.count) [
  | yes a ↦ elim (ℕ_discrete j l.count) [ yes b ↦ a ∙ sym b | no b ↦ absurd (not_there j (omega arith) (sym (old j b) ∙ sym z ∙ ap (entry_at (longer l q lead)) a ∙ newest)) ]
  | no a ↦ elim (ℕ_discrete j l.count) [
    | yes b ↦ absurd (not_there i (omega arith) (sym (old i a) ∙ z ∙ ap (entry_at (longer l q lead)) b ∙ newest))
    | no b ↦ h i j (omega arith) (omega arith) (sym (old i a) ∙ z ∙ old j b)
  ]
]
  where
    newest : entry_at (longer l q lead) l.count ≡ q
    newest = get_or-set_same l.who l.count q 0 (omega arith)

    old : (k : ℕ) → k ≢ l.count → entry_at (longer l q lead) k ≡ entry_at l k
    old k g = get_or-set_other l.who l.count k q 0 g

    not_there : (k : ℕ) → k < l.count → entry_at l k ≡ q → ⊥
    not_there k g w = true_not_false (sym (is_listed l q (record { place = k; inside = g; is = w })) ∙ e)

pub add_one_apart : (l : Entries) (lead q : ℕ) → length l.who ≡ 16 → Apart l → Apart (add_one l lead q)
add_one_apart l lead q s h = go (added l lead q)
  where
    go : {m : Entries} → Added l lead q m → Apart m
    go (listed_already r) = h
    go (full f) = h
    go (new e f) = apart_new l lead q s f e h

pub add_all_apart : (l : Entries) (lead : ℕ) (qs : List ℕ) → length l.who ≡ 16 → Apart l → Apart (add_all l lead qs)
add_all_apart l lead qs s h =
    (add_all_keeps (λ m. (length m.who ≡ 16) × Apart m) lead qs
    (λ m q z g. ((add_one_grown m lead q).who_size ∙ g.0, add_one_apart m lead q g.0 g.1)) l (s, h)).1

-- ---- all that are added are listed, for a list is full only where it names every process
-- 16 different entries below 16 are all the processes
pub full_lists : (l : Entries) → 16 ≤ l.count → Apart l → Entered (λ q. q < 16) l → (q : ℕ) → q < 16 → Entry l q
full_lists l f a b q h =
    let r = different_numbers 16 (entry_at l) (λ k g. b k (omega arith)) (λ i j g d. a i j (omega arith) (omega arith)) q h in
    record { place = r.0; inside = omega arith; is = r.2 }

pub entry_grown : (l : Entries) (lead : ℕ) (m : Entries) (q : ℕ) → Grown l lead m → Entry l q → Entry m q
entry_grown l lead m q g r = record { place = r.place; inside = omega (arith, g.longer, r.inside); is = g.entries r.place r.inside ∙ r.is }

pub add_one_lists : (l : Entries) (lead q : ℕ) → length l.who ≡ 16 → Apart l → Entered (λ p. p < 16) l → q < 16 → Entry (add_one l lead q) q
add_one_lists l lead q s a b h = go (added l lead q)
  where
    go : {m : Entries} → Added l lead q m → Entry m q
    go (listed_already r) = r
    go (full f) = full_lists l f a b q h
    go (new e f) = record { place = l.count; inside = omega arith; is = get_or-set_same l.who l.count q 0 (omega arith) }

pub add_all_lists : (l : Entries) (lead : ℕ) (qs : List ℕ) → length l.who ≡ 16 → Apart l → Entered (λ p. p < 16) l → ((q : ℕ) → Among q qs → q < 16)
    → (q : ℕ) → Among q qs → Entry (add_all l lead qs) q
unfolding add_all
add_all_lists l lead [] s a b below q h = absurd h
add_all_lists l lead (p ∷ qs) s a b below q h =
    let m = add_one l lead p in
    let size : length m.who ≡ 16 = (add_one_grown l lead p).who_size ∙ s in
    let apart : Apart m = add_one_apart l lead p s a in
    let low : Entered (λ p. p < 16) m = add_one_entered (λ p. p < 16) l lead p s (below p (inl refl)) b in
    ⊎_elim
    (λ e. entry_grown m lead (add_all m lead qs) q (add_all_grown m lead qs) (subst (Entry m) e (add_one_lists l lead p s a b (below p (inl refl)))))
    (λ z. add_all_lists m lead qs size apart low (λ r w. below r (inr w)) q z) h

-- ---- a list that is started
-- the starter is its first entry, and every other is led by it
pub starter_apart : (p : ℕ) → Apart (starter p)
starter_apart p i j h g e = omega arith

pub starter_entered : (P : ℕ → Type 0) (p : ℕ) → P p → Entered P (starter p)
starter_entered P p h zero g = h
starter_entered P p h (suc k) g = absurd (omega arith)

pub started_first : (p : ℕ) (qs : List ℕ) → entry_at (add_all (starter p) 0 qs) 0 ≡ p
started_first p qs = (add_all_grown (starter p) 0 qs).entries 0 (omega arith)

pub started_next : (p : ℕ) (qs : List ℕ) → (add_all (starter p) 0 qs).next ≡ 1
started_next p qs = (add_all_grown (starter p) 0 qs).next

pub started_leads : (p : ℕ) (qs : List ℕ) (k : ℕ) → lead_at (add_all (starter p) 0 qs) k ≡ 0
started_leads p qs zero = (add_all_grown (starter p) 0 qs).leads 0 (omega arith)
started_leads p qs (suc k) = elim (dec_lt (suc k) (add_all (starter p) 0 qs).count) [
  | yes h ↦ (add_all_grown (starter p) 0 qs).led refl (suc k) (omega arith) h
  | no f ↦ ((add_all_grown (starter p) 0 qs).rest (suc k) (omega arith)).1 ∙ zeros 16 (suc k)
]
  where
    zeros : (n k : ℕ) → get_or {A = ℕ} (replicate n 0) k 0 ≡ 0
    zeros zero k = refl
    zeros (suc n) zero = refl
    zeros (suc n) (suc k) = zeros n k

-- it is sent if the process waits for another, "none if it waits for nobody"
starter_listed : (p q : ℕ) → listed (starter p) q ≡ true → p ≡ q
starter_listed p q e = go (listed_is (starter p) q e)
  where
    go : Entry (starter p) q → p ≡ q
    go r = let z : r.place ≡ 0 = omega (arith, r.inside) in sym (ap (entry_at (starter p)) z) ∙ r.is

started_longer : (p : ℕ) (qs : List ℕ) (q : ℕ) → Among q qs → q ≢ p → 1 < (add_all (starter p) 0 qs).count
unfolding add_all
started_longer p [] q h f = absurd h
started_longer p (r ∷ qs) q h f = by_test (listed (starter p) r)
    (λ e. subst (λ (m : Entries). 1 < (add_all m 0 qs).count) (sym (add_one_listed (starter p) 0 r e)) (⊎_elim (λ z. absurd (f (sym z ∙ sym (starter_listed p r e)))) (λ z. started_longer p qs q z f) h))
    (λ e. subst (λ (m : Entries). 1 < (add_all m 0 qs).count) (sym (add_one_new (starter p) 0 r e (omega arith))) (omega (arith, (add_all_grown (longer (starter p) r 0) 0 qs).longer)))

pub started_some : (p : ℕ) (qs : List ℕ) (q : ℕ) → Among q qs → q ≢ p → started p qs ≡ to_home (add_all (starter p) 0 qs)
unfolding started
started_some p qs q h f = rw (lt-ltb 1 (add_all (starter p) 0 qs).count (started_longer p qs q h f))

started_same : (p : ℕ) (qs : List ℕ) → ((q : ℕ) → Among q qs → q ≡ p) → add_all (starter p) 0 qs ≡ starter p
unfolding add_all
started_same p [] f = refl
started_same p (q ∷ qs) f =
    rw (add_one_listed (starter p) 0 q (is_listed (starter p) q (record { place = 0; inside = omega arith; is = sym (f q (inl refl)) })))
    (started_same p qs (λ r h. f r (inr h)))

pub started_none : (p : ℕ) (qs : List ℕ) → ((q : ℕ) → Among q qs → q ≡ p) → started p qs ≡ nothing
unfolding started
started_none p qs f = rw (started_same p qs f)

-- ---- the way back along the leads
pub along_more : (d : ℕ) (l : Entries) (at : ℕ) → lead_at l at < at → along_leads (suc d) l at ≡ along_leads d l (lead_at l at) ++ entry_at l at ∷ []
unfolding along_leads
along_more d l at h = rw (along_leads, lt-ltb (lead_at l at) at h)

pub along_end : (d : ℕ) (l : Entries) (at : ℕ) → at ≤ lead_at l at → along_leads (suc d) l at ≡ entry_at l at ∷ []
unfolding along_leads
along_end d l at h = rw (along_leads, le-ltb (lead_at l at) at h)

-- the entry itself at least
pub along_some : (d : ℕ) (l : Entries) (at : ℕ) → 0 < length (along_leads d l at)
unfolding along_leads
along_some zero l at = omega arith
along_some (suc d) l at = elim (dec_lt (lead_at l at) at) [
  | yes h ↦ rw (along_more d l at h) (omega (arith, length-append (along_leads d l (lead_at l at)) (entry_at l at ∷ [])))
  | no f ↦ rw (along_end d l at (omega (arith, f))) (omega arith)
]

-- at most one for each place up to this one
pub along_length : (d : ℕ) (l : Entries) (at : ℕ) → length (along_leads d l at) ≤ suc at
unfolding along_leads
along_length zero l at = omega arith
along_length (suc d) l at = elim (dec_lt (lead_at l at) at) [
  | yes h ↦ rw (along_more d l at h) (omega (arith, length-append (along_leads d l (lead_at l at)) (entry_at l at ∷ []), along_length d l (lead_at l at)))
  | no f ↦ rw (along_end d l at (omega arith)) (omega arith)
]

-- enough steps are enough
pub along_fuel : (d e : ℕ) (l : Entries) (at : ℕ) → at ≤ d → at ≤ e → along_leads d l at ≡ along_leads e l at
unfolding along_leads
along_fuel zero zero l at h g = refl
along_fuel zero (suc e) l at h g = sym (along_end e l at (omega arith))
along_fuel (suc d) zero l at h g = along_end d l at (omega arith)
along_fuel (suc d) (suc e) l at h g = elim (dec_lt (lead_at l at) at) [
  | yes z ↦ along_more d l at z ∙ ap (λ (t : List ℕ). t ++ entry_at l at ∷ []) (along_fuel d e l (lead_at l at) (omega arith) (omega arith)) ∙ sym (along_more e l at z)
  | no z ↦ along_end d l at (omega arith) ∙ sym (along_end e l at (omega arith))
]

-- each is an entry up to this place
pub along_entries : (d : ℕ) (l : Entries) (at q : ℕ) → Among q (along_leads d l at) → (k : ℕ) × (k ≤ at) × (entry_at l k ≡ q)
unfolding along_leads
along_entries zero l at q h = ⊎_elim (λ e. (at, omega arith, e)) (λ z. absurd z) h
along_entries (suc d) l at q h = elim (dec_lt (lead_at l at) at) [
  | yes z ↦ ⊎_elim
      (λ w. let r = along_entries d l (lead_at l at) q w in (r.0, omega arith, r.2))
      (λ w. ⊎_elim (λ e. (at, omega arith, e)) (λ v. absurd v) w)
      (among_cases q (along_leads d l (lead_at l at)) (entry_at l at ∷ []) (rw (along_more d l at z) at h))
  | no f ↦ ⊎_elim (λ e. (at, omega arith, e)) (λ v. absurd v) (rw (along_end d l at (omega arith)) at h)
]

-- "starter first", where each lead up to this place points to an earlier entry
abbrev pub Falls : Entries → ℕ → Type 0
Falls l at = (k : ℕ) → 0 < k → k ≤ at → lead_at l k < k

pub along_first : (d : ℕ) (l : Entries) (at : ℕ) → at ≤ d → Falls l at → (t : List ℕ) × (along_leads d l at ≡ entry_at l 0 ∷ t)
unfolding along_leads
along_first zero l at h f = ([], rw (zero_is at (omega arith)))
  where
    zero_is : (n : ℕ) → n ≤ 0 → n ≡ 0
    zero_is n h = omega arith
along_first (suc d) l zero h f = ([], along_end d l 0 (omega arith))
along_first (suc d) l (suc at) h f =
    let g : lead_at l (suc at) < suc at = f (suc at) (omega arith) (omega arith) in
    let r = along_first d l (lead_at l (suc at)) (omega arith) (λ k a b. f k a (omega arith)) in
    (r.0 ++ entry_at l (suc at) ∷ [], along_more d l (suc at) g ∙ ap (λ (t : List ℕ). t ++ entry_at l (suc at) ∷ []) r.1)

-- "then along the leads to this process": the last is this place's entry
pub along_last : (d : ℕ) (l : Entries) (at : ℕ) → (t : List ℕ) × (along_leads d l at ≡ t ++ entry_at l at ∷ [])
unfolding along_leads
along_last zero l at = ([], refl)
along_last (suc d) l at = elim (dec_lt (lead_at l at) at) [
  | yes h ↦ (along_leads d l (lead_at l at), along_more d l at h)
  | no f ↦ ([], along_end d l at (omega arith))
]

-- two or more, past the first place
pub along_two : (d : ℕ) (l : Entries) (at : ℕ) → 0 < at → at ≤ d → lead_at l at < at → 1 < length (along_leads d l at)
unfolding along_leads
along_two zero l at p h f = absurd (omega arith)
along_two (suc d) l at p h f = rw (along_more d l at f) (omega (arith, length-append (along_leads d l (lead_at l at)) (entry_at l at ∷ []), some d (lead_at l at)))
  where
    some : (d at : ℕ) → 0 < length (along_leads d l at)
    some d at = let r = along_last d l at in rw r.1 (omega (arith, length-append r.0 (entry_at l at ∷ [])))

-- "different processes"
pub along_different : (d : ℕ) (l : Entries) (at : ℕ) → at < l.count → Apart l → Different (along_leads d l at)
unfolding along_leads
along_different zero l at h a = ((λ z. z), tt)
along_different (suc d) l at h a = elim (dec_lt (lead_at l at) at) [
  | yes g ↦ rw (along_more d l at g) (different_last (entry_at l at) (along_leads d l (lead_at l at)) (along_different d l (lead_at l at) (omega arith) a)
      (λ z. let r = along_entries d l (lead_at l at) (entry_at l at) z in omega (arith, a r.0 at (omega arith) h r.2)))
  | no f ↦ rw (along_end d l at (omega arith)) ((λ z. z), tt)
]
