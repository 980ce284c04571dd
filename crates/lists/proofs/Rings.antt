-- The ring along the leads: each call adds one process at the ring's end.
use Rattle.std.proofs.Common.{◌≡◌, refl, sym, ap, ◌∙◌, true, false, List, [], ◌∷◌, ◌++◌, ℕ, zero, suc, ◌+◌, ◌-◌, ◌≤◌, ◌<◌, arith, ltb, length, replicate, length-append}
use Rattle.std.proofs.Math.Seq.{set-append_seam, append_snoc}
use borrow.Author.Tests.{lt-ltb, le-ltb}
use Rattle.rules.specs.declared.Entries.{Entries}
use Rattle.rules.specs.declared.Ring.{Ring}
use Rattle.rules.specs.Lists.{entry_at, lead_at, along_leads, ring_of, no_ring}
use Rattle.rules.proofs.Lists.{along_length, along_fuel}
use Rattle.lists.specs.Rings.{extended}

module _ (l : Entries) where
  pub led : (d at : ℕ) → ltb (lead_at l at) at ≡ true → along_leads (suc d) l at ≡ along_leads d l (lead_at l at) ++ entry_at l at ∷ []
  unfolding along_leads
  led d at e = rw (along_leads, e)

  pub unled : (d at : ℕ) → ltb (lead_at l at) at ≡ false → along_leads d l at ≡ entry_at l at ∷ []
  unfolding along_leads
  unled zero at e = refl
  unled (suc d) at e = rw (along_leads, e)

-- one more process at the ring's end
pub ring_extended : (ps : List ℕ) (p : ℕ) → length ps < 16 → extended (ring_of ps) p ≡ ring_of (ps ++ p ∷ [])
ring_extended ps p h =
    let n : length (ps ++ p ∷ []) ≡ length ps + 1 = length-append ps (p ∷ []) in
    let e : 16 - length ps ≡ suc (15 - length ps) = omega arith in
    let f : 16 - (length ps + 1) ≡ 15 - length ps = omega arith in
    rw (n, e, f, set-append_seam ps 0 (replicate (15 - length ps) 0) p, append_snoc ps p (replicate (15 - length ps) 0))

-- the ring to an entry is the ring to the entry that led to it, and then its process
pub back : (l : Entries) (at : ℕ) → lead_at l at < at → at < 16 → extended (ring_of (along_leads (lead_at l at) l (lead_at l at))) (entry_at l at) ≡ ring_of (along_leads at l at)
back l zero h b = absurd (omega arith)
back l (suc at) h b =
    ring_extended (along_leads (lead_at l (suc at)) l (lead_at l (suc at))) (entry_at l (suc at)) (omega (arith, along_length (lead_at l (suc at)) l (lead_at l (suc at))))
    ∙ ap (λ (x : List ℕ). ring_of (x ++ entry_at l (suc at) ∷ [])) (along_fuel (lead_at l (suc at)) at l (lead_at l (suc at)) (omega arith) (omega arith))
    ∙ ap ring_of (sym (led l at (suc at) (lt-ltb (lead_at l (suc at)) (suc at) h)))

-- a ring of fewer than 16 that becomes the ring to an entry by the entry's process
abbrev pub Leads : Entries → ℕ → Ring → Type 0
Leads l at r = (r.count < 16) × (extended r (entry_at l at) ≡ ring_of (along_leads at l at))

module _ (l : Entries) (at : ℕ) (b : at < 16) (lead : ℕ) (is-lead : lead ≡ lead_at l at) (r : Ring) where
  -- that to the entry that led to it does so
  pub along_lead : lead < at → r ≡ ring_of (along_leads lead l lead) → Leads l at r
  along_lead h is-r = rw (is-r, is-lead) (omega (arith, along_length (lead_at l at) l (lead_at l at), rw is-lead at h), back l at (rw is-lead at h) b)

  -- and none, where no earlier entry led to it
  pub at_start : at ≤ lead → r ≡ no_ring → Leads l at r
  at_start h is-r = rw is-r (omega arith, ring_extended [] (entry_at l at) (omega arith) ∙ ap ring_of (sym (unled l at at (le-ltb (lead_at l at) at (rw is-lead at h)))))
