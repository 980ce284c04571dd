-- The entries of a list by their places, and a list made longer: who is added is led by the entry that waits for it.
use mathlib.Core.Path.{◌≡◌, refl, ap, sym, ◌∙◌}
use mathlib.Core.Logic.{◌⊎◌, inl, inr, ◌≢◌}
use mathlib.Core.Bool.{true}
use mathlib.Core.List.{List, [], ◌∷◌, ◌++◌, map}
use Prim.Native.Nat.{ℕ, zero, suc, ◌+◌, ◌-◌, ◌≤◌, ◌<◌}
use native.Mathlib.Omega.{arith}
use native.Mathlib.Decide.{dec_lt}
use lib.ListN.{length, get_or, length-append, length-map, get_or-append}
use lib.Seq.{get_or-append-add}
use Rattle.model.specs.Lists.{Has, Distinct}
use Rattle.model.specs.Board.{Entry, led_by, entry_at, names, Board, Waits}
use Rattle.model.proofs.Lists.{has_get_d, has_index, distinct_get_d, distinct_short}
use Rattle.model.proofs.Search.{WellLed, Listed}

pub names_listed : (es : List Entry) (y : ℕ) → Has y (names es) → Listed es y
names_listed [] y x' = elim x' [ ]
names_listed (e ∷ es) y (inl z) = (0, omega arith, z)
names_listed (e ∷ es) y (inr h) = let r = names_listed es y h in (suc r.0, omega arith, r.2)

listed_names : (es : List Entry) (i : ℕ) → i < length es → Has (entry_at es i).who (names es)
listed_names [] i h = absurd (omega arith)
listed_names (e ∷ es) zero h = inl refl
listed_names (e ∷ es) (suc i) h = inr (listed_names es i (omega arith))

pub names_distinct : (es : List Entry) → ((i j : ℕ) → i < j → j < length es → (entry_at es i).who ≢ (entry_at es j).who) → Distinct (names es)
names_distinct [] f = tt
names_distinct (e ∷ es) f = ((λ h. let s = names_listed es e.who h in f 0 (suc s.0) (omega arith) (omega arith) (sym s.2)), names_distinct es (λ i j h k. f (suc i) (suc j) (omega arith) (omega arith)))

-- different processes below 16: a list has at most 16 entries
pub well_led_short : (b : Board) (es : List Entry) → WellLed b es → length es ≤ 16
well_led_short b es l = omega (arith, length-map es (λ (e : Entry). e.who), distinct_short 16 (names es) (names_distinct es l.different) (λ q h. let s = names_listed es q h in rw (← s.2) (l.range s.0 s.1)))

-- ---- the longer list
led_by_at : (n : ℕ) (qs : List ℕ) (d : ℕ) → d < length qs → entry_at (map (led_by n) qs) d ≡ led_by n (get_or qs d 0)
led_by_at n [] d h = absurd (omega arith)
led_by_at n (q ∷ qs) zero h = refl
led_by_at n (q ∷ qs) (suc d) h = led_by_at n qs d (omega arith)

module _ (es : List Entry) (n : ℕ) (qs : List ℕ) where
  abbrev pub longer : List Entry
  longer = es ++ map (led_by n) qs

  pub longer_length : length longer ≡ length es + length qs
  longer_length = length-append es (map (led_by n) qs) ∙ ap (λ (x : ℕ). length es + x) (length-map qs (led_by n))

  pub longer_left : (j : ℕ) → j < length es → entry_at longer j ≡ entry_at es j
  longer_left j h = get_or-append es (map (led_by n) qs) _ j h

  longer_beyond : (j d : ℕ) → j ≡ length es + d → d < length qs → entry_at longer j ≡ led_by n (get_or qs d 0)
  longer_beyond j d e h = rw e (get_or-append-add es (map (led_by n) qs) d _ ∙ led_by_at n qs d h)

  longer_right : (j : ℕ) → length es ≤ j → j < length longer → (d : ℕ) × (d < length qs) × (j ≡ length es + d) × (entry_at longer j ≡ led_by n (get_or qs d 0))
  longer_right j h k =
      let lt : j - length es < length qs = omega (arith, longer_length) in
      let e : j ≡ length es + (j - length es) = omega arith in
      (j - length es, lt, e, longer_beyond j (j - length es) e lt)

  module _ (b : Board) (l : WellLed b es) (inside : n < length es) (d : Distinct qs) (new : (q : ℕ) → Has q qs → (Has q (names es) → ⊥) × Waits b (entry_at es n).who q × (q < 16)) where
    abbrev Side : ℕ → Type 0
    Side j = ((j < length es) × (entry_at longer j ≡ entry_at es j)) ⊎ ((length es ≤ j) × ((d : ℕ) × (d < length qs) × (j ≡ length es + d) × (entry_at longer j ≡ led_by n (get_or qs d 0))))

    side : (j : ℕ) → j < length longer → Side j
    side j h = elim (dec_lt j (length es)) [
      | yes k ↦ inl (k, longer_left j k)
      | no k ↦ inr (omega arith, longer_right j (omega arith) h)
    ]

    longer_leads : (j : ℕ) → 0 < j → Side j → (entry_at longer j).lead < j
    longer_leads j p (inl s) = rw s.1 (l.leads j p s.0)
    longer_leads j p (inr s) = rw s.1.3 (omega arith)

    longer_arcs : (j : ℕ) → 0 < j → Side j → (b.released (entry_at longer j).who ≡ true) ⊎ Waits b (entry_at longer (entry_at longer j).lead).who (entry_at longer j).who
    longer_arcs j p (inl s) = rw (s.1, longer_left (entry_at es j).lead (omega (arith, l.leads j p s.0))) (l.arcs j p s.0)
    longer_arcs j p (inr s) = rw (s.1.3, longer_left n inside) (inr (new (get_or qs s.1.0 0) (has_get_d qs s.1.0 s.1.1)).1)

    longer_different : (i j : ℕ) → i < j → Side i → Side j → (entry_at longer i).who ≢ (entry_at longer j).who
    longer_different i j h (inl s) (inl t) = rw (s.1, t.1) (l.different i j h t.0)
    longer_different i j h (inl s) (inr t) = rw (s.1, t.1.3) (λ e. (new (get_or qs t.1.0 0) (has_get_d qs t.1.0 t.1.1)).0 (rw (← e) (listed_names es i s.0)))
    longer_different i j h (inr s) (inl t) = absurd (omega arith)
    longer_different i j h (inr s) (inr t) = rw (s.1.3, t.1.3) (distinct_get_d qs s.1.0 t.1.0 d (omega arith) t.1.1)

    longer_range : (j : ℕ) → Side j → (entry_at longer j).who < 16
    longer_range j (inl s) = rw s.1 (l.range j s.0)
    longer_range j (inr s) = rw s.1.3 (new (get_or qs s.1.0 0) (has_get_d qs s.1.0 s.1.1)).2

    pub longer_well_led : WellLed b longer
    longer_well_led = record {
      leads = λ j p h. longer_leads j p (side j h);
      arcs = λ j p h. longer_arcs j p (side j h);
      different = λ i j h k. longer_different i j h (side i (omega arith)) (side j k);
      range = λ j h. longer_range j (side j h);
    }

  pub listed_left : (y : ℕ) → Listed es y → Listed longer y
  listed_left y s = (s.0, omega (arith, longer_length), ap (λ (x : Entry). x.who) (longer_left s.0 s.1) ∙ s.2)

  pub listed_right : (y : ℕ) → Has y qs → Listed longer y
  listed_right y h = let r = has_index qs y h in (length es + r.0, omega (arith, longer_length), ap (λ (x : Entry). x.who) (get_or-append-add es (map (led_by n) qs) r.0 _ ∙ led_by_at n qs r.0 r.1) ∙ r.2)

-- ---- a list that starts
pub starter_well_led : (b : Board) (p : ℕ) → p < 16 → WellLed b (led_by 0 p ∷ [])
starter_well_led b p h = record {
  leads = λ j a c. absurd (omega arith);
  arcs = λ j a c. absurd (omega arith);
  different = λ i j a c. absurd (omega arith);
  range = λ j c. zero_only j c;
}
  where
    zero_only : (j : ℕ) → j < 1 → (entry_at (led_by 0 p ∷ []) j).who < 16
    zero_only zero c = h
    zero_only (suc j) c = absurd (omega arith)
