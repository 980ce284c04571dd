-- A list's entries, and a ring's place: how a list starts and grows, and the ring along its leads. The rules and the model agree.
use mathlib.Core.Path.{◌≡◌, refl, ap, ap₂, sym, ◌∙◌, subst}
use mathlib.Core.Logic.{inl, inr, ⊎_elim, if_pos, if_neg}
use mathlib.Core.Bool.{true, false}
use mathlib.Core.Option.{none, some}
use mathlib.Core.List.{List, [], ◌∷◌, ◌++◌, map, map-append, append-nil, append_assoc}
use Prim.Native.Nat.{ℕ, zero, suc, ◌≤◌, ◌<◌}
use native.Mathlib.Omega.{arith}
use native.Mathlib.Numerals.{add-one}
use native.Mathlib.Decide.{ℕ_discrete, dec_lt}
use lib.Dec.{eqb}
use lib.ListN.{length, get_or}
use lib.Seq.{get_or-set_same, get_or-set_other}
use borrow.Author.Tests.{eq-eqb, ne_eqb, lt-ltb, le-ltb}
use Rattle.rules.specs.declared.Entries.{Entries}
use Rattle.rules.specs.declared.Ring.{Ring}
use Rattle.rules.specs.Tables.{pick, rows}
use Rattle.rules.specs.Lists.{entry_at, lead_at, listed, longer, add_one, add_all, starter, started, along_leads, ring_of, keeping}
use Rattle.rules.specs.Waits.{Among}
use Rattle.rules.proofs.Tables.{by_test, true_not_false, among_is, among_not, rows_front, rows_ext, rows_map, rows_at, rows_length, rows_of}
use Rattle.rules.proofs.Lists.{is_listed, add_one_listed, add_one_new, add_one_grown, full_lists, started_next, started_some, started_none}
use Rattle.laws.proofs.Lists.{Growing, all_growing, starter_growing}
use Rattle.model.specs.Lists.{Has, has?, fresh, unless_has}
use Rattle.model.specs.Board.{Entry, list, led_by, names, added, keep_filled, along_leads as alongLeadsM}
use Rattle.model.proofs.Lists.{any_left, any_right, any_cases, fresh_in, fresh_all}
use Rattle.promises.proofs.Seen.Tables.{has_to, has_from}
use Rattle.promises.proofs.Seen.{entries_seen, sent_seen}

pub entries_count : (l : Entries) → length (entries_seen l) ≡ l.count
entries_count l = rows_length l.count _

names_rows : (l : Entries) → names (entries_seen l) ≡ rows l.count (entry_at l)
names_rows l = rows_map (λ (e : Entry). e.who) l.count _

-- ---- those not yet listed depend on who is listed, not on the order
unless_both : {P Q : Type 0} (d : Dec P) (e : Dec Q) → (P → Q) → (Q → P) → (q : ℕ) (a b : List ℕ) → a ≡ b → unless_has d q a ≡ unless_has e q b
unless_both (yes x) (yes y) f g q a b z = z
unless_both (yes x) (no y) f g q a b z = absurd (y (f x))
unless_both (no x) (yes y) f g q a b z = absurd (x (g y))
unless_both (no x) (no y) f g q a b z = ap (λ (t : List ℕ). q ∷ t) z

fresh_ext : (l k : List ℕ) (qs : List ℕ) → ((x : ℕ) → Has x l → Has x k) → ((x : ℕ) → Has x k → Has x l) → fresh l qs ≡ fresh k qs
unfolding fresh
fresh_ext l k [] f g = refl
fresh_ext l k (q ∷ qs) f g = unless_both (has? q l) (has? q k) (f q) (g q) q _ _
    (fresh_ext (q ∷ l) (q ∷ k) qs (λ x. ⊎_elim (λ a. inl a) (λ a. inr (f x a))) (λ x. ⊎_elim (λ a. inl a) (λ a. inr (g x a))))

unless_yes : {P : Type 0} (d : Dec P) → P → (q : ℕ) (a : List ℕ) → unless_has d q a ≡ a
unless_yes (yes x) p q a = refl
unless_yes (no x) p q a = absurd (x p)

unless_no : {P : Type 0} (d : Dec P) → (P → ⊥) → (q : ℕ) (a : List ℕ) → unless_has d q a ≡ q ∷ a
unless_no (yes x) p q a = absurd (p x)
unless_no (no x) p q a = refl

fresh_had : (l : List ℕ) (q : ℕ) (qs : List ℕ) → Has q l → fresh l (q ∷ qs) ≡ fresh l qs
unfolding fresh
fresh_had l q qs h = unless_yes (has? q l) h q _
    ∙ fresh_ext (q ∷ l) l qs (λ x. ⊎_elim (λ a. subst (λ (y : ℕ). Has y l) a h) (λ a. a)) (λ x a. inr a)

fresh_new : (l : List ℕ) (q : ℕ) (qs : List ℕ) → (Has q l → ⊥) → fresh l (q ∷ qs) ≡ q ∷ fresh (l ++ q ∷ []) qs
unfolding fresh
fresh_new l q qs h = unless_no (has? q l) h q _ ∙ ap (λ (t : List ℕ). q ∷ t) (fresh_ext (q ∷ l) (l ++ q ∷ []) qs
    (λ x. ⊎_elim (λ a. any_right _ l (q ∷ []) (inl a)) (λ a. any_left _ l (q ∷ []) a))
    (λ x a. ⊎_elim (λ b. inr b) (λ b. ⊎_elim (λ c. inl c) (λ c. absurd c) b) (any_cases _ l (q ∷ []) a)))

-- ---- entries are added
longer_entries : (l : Entries) (q lead c : ℕ) → Growing l c → l.count < 16 → entries_seen (longer l q lead) ≡ entries_seen l ++ led_by lead q ∷ []
unfolding rows
longer_entries l q lead c g h = rw add-one (ap₂ (λ (es : List Entry) (e : Entry). es ++ e ∷ [])
    (rows_ext l.count _ _ (λ k a. ap₂ led_by (get_or-set_other l.leads l.count k lead 0 (omega arith)) (get_or-set_other l.who l.count k q 0 (omega arith))))
    (ap₂ led_by (get_or-set_same l.leads l.count lead 0 (omega (arith, g.leads_size))) (get_or-set_same l.who l.count q 0 (omega (arith, g.size)))))

-- a list that is full lists every process, so one that is not listed finds room
module _ (c lead : ℕ) (low : c ≤ 16) where
  room_for : (l : Entries) (q : ℕ) → Growing l c → q < c → listed l q ≡ false → l.count < 16
  room_for l q g h t = elim (dec_lt l.count 16) [
    | yes a ↦ a
    | no a ↦ absurd (true_not_false (sym (is_listed l q (full_lists l (omega arith) g.different (λ k d. omega (arith, g.who.used k d)) q (omega arith))) ∙ t))
  ]

  pub add_view : (qs : List ℕ) (l : Entries) → lead < l.count → Growing l c → ((q : ℕ) → Among q qs → q < c) → entries_seen (add_all l lead qs) ≡ entries_seen l ++ added (entries_seen l) lead qs
  unfolding listed add_all fresh added
  add_view [] l h g f = sym (append-nil (entries_seen l))
  add_view (q ∷ qs) l h g f = by_test (listed l q)
      (λ t. had t (add_view qs l h g (λ x a. f x (inr a))))
      (λ t. new t (add_view qs (add_one l lead q) (omega (arith, (add_one_grown l lead q).longer)) (all_growing l c lead (q ∷ []) h (λ x a. f x (⊎_elim (λ e. inl e) (λ z. absurd z) a)) g) (λ x a. f x (inr a))))
    where
      ns : List ℕ
      ns = names (entries_seen l)

      Added : Entries → List ℕ → Type 0
      Added k xs = entries_seen (add_all k lead qs) ≡ entries_seen k ++ map (led_by lead) xs

      had : listed l q ≡ true → Added l (fresh ns qs) → entries_seen (add_all (add_one l lead q) lead qs) ≡ entries_seen l ++ map (led_by lead) (fresh ns (q ∷ qs))
      had t r = rw (add_one_listed l lead q t) (r ∙ ap (λ (x : List ℕ). entries_seen l ++ map (led_by lead) x) (sym (fresh_had ns q qs (rw (names_rows l) (has_to q (rows l.count (entry_at l)) (among_is q _ t))))))

      new : listed l q ≡ false → Added (add_one l lead q) (fresh (names (entries_seen (add_one l lead q))) qs) → entries_seen (add_all (add_one l lead q) lead qs) ≡ entries_seen l ++ map (led_by lead) (fresh ns (q ∷ qs))
      new t r =
          let room = room_for l q g (f q (inl refl)) t in
          let i : entries_seen (add_one l lead q) ≡ entries_seen l ++ led_by lead q ∷ [] = ap entries_seen (add_one_new l lead q t room) ∙ longer_entries l q lead c g room in
          let z = fresh_new ns q qs (λ x. among_not q (rows l.count (entry_at l)) t (has_from q (rows l.count (entry_at l)) (rw (names_rows l) at x))) in
          r ∙ ap₂ (λ (x : List Entry) (y : List ℕ). x ++ map (led_by lead) (fresh y qs)) i (ap names i ∙ map-append (λ (e : Entry). e.who) (entries_seen l) (led_by lead q ∷ []))
          ∙ append_assoc (entries_seen l) (led_by lead q ∷ []) _ ∙ ap (λ (x : List ℕ). entries_seen l ++ map (led_by lead) x) (sym z)

-- ---- the ring along the leads
pub along_view : (d : ℕ) (l : Entries) (j : ℕ) (acc : List ℕ) → j ≤ d → j < l.count → ((j : ℕ) → 0 < j → j < l.count → lead_at l j < j)
    → along_leads d l j ++ acc ≡ alongLeadsM d (entries_seen l) j acc
unfolding along_leads alongLeadsM
along_view zero l j acc h c f = rw (rows_at l.count (λ k. led_by (lead_at l k) (entry_at l k)) j _ c)
along_view (suc d) l j acc h c f = rw (rows_at l.count (λ k. led_by (lead_at l k) (entry_at l k)) j _ c) (elim (ℕ_discrete j 0) [
  | yes e ↦ rw (along_leads, le-ltb (lead_at l j) j (omega arith)) (sym (if_pos (ℕ_discrete j 0) e _ _))
  | no n ↦
      let g = f j (omega arith) c in
      rw (along_leads, lt-ltb (lead_at l j) j g) (append_assoc (along_leads d l (lead_at l j)) (entry_at l j ∷ []) acc ∙ along_view d l (lead_at l j) (entry_at l j ∷ acc) (omega arith) (omega arith) f
      ∙ sym (if_neg (ℕ_discrete j 0) n _ _))
])

-- ---- a ring's place
abbrev pub ring_seen : Ring → List ℕ
ring_seen r = rows r.count (λ k. get_or r.processes k 0)

pub keeping_view : (r : Ring) (ps : List ℕ) → ring_seen (keeping r (ring_of ps)) ≡ keep_filled (ring_seen r) ps
unfolding keeping rows
keeping_view r ps = go r.count refl
  where
    full : ℕ → List ℕ
    full n = rows n (λ k. get_or r.processes k 0)

    kept : (n : ℕ) → keep_filled (full (suc n)) ps ≡ full (suc n)
    kept n = rw (rows_front n (λ k. get_or r.processes k 0))

    go : (n : ℕ) → r.count ≡ n → ring_seen (pick (eqb r.count 0) (ring_of ps) r) ≡ keep_filled (ring_seen r) ps
    go zero e = rw (eq-eqb r.count 0 e) (rows_of ps 0 _ ∙ sym (ap (λ (n : ℕ). keep_filled (full n) ps) e))
    go (suc n) e = rw (ne_eqb r.count 0 (omega arith)) (ap full e ∙ sym (ap (λ (n : ℕ). keep_filled (full n) ps) e ∙ kept n))

-- ---- a list that starts
module _ (p c : ℕ) (qs : List ℕ) (below : p < c) (low : c ≤ 16) (each : (q : ℕ) → Among q qs → q < c) where
  pub start_none : fresh (p ∷ []) qs ≡ [] → sent_seen (started p qs) ≡ none
  start_none e = ap sent_seen (started_none p qs (λ q h. ⊎_elim (⊎_elim (λ z. sym z) (λ z. absurd z)) (λ a. absurd (rw e at a)) (fresh_all (p ∷ []) qs q (has_to q qs h))))

  pub start_some : (q : ℕ) (l : List ℕ) → fresh (p ∷ []) qs ≡ q ∷ l → sent_seen (started p qs) ≡ some (list (led_by 0 p ∷ map (led_by 0) (q ∷ l)) 1 none)
  unfolding rows added
  start_some q l e =
      let h = fresh_in (p ∷ []) qs q (rw e (inl refl)) in
      rw (started_some p qs q (has_from q qs h.0) (λ z. h.1 (inl (sym z))))
      (ap₂ (λ (x : List Entry) (n : ℕ). some (list x n none)) (add_view c 0 low qs (starter p) (omega arith) (starter_growing p c below) each ∙ ap (λ (y : List ℕ). led_by 0 p ∷ map (led_by 0) y) e) (started_next p qs))
