-- Laws of messages and their senders: the sets of message numbers. Assumes nothing.
use Rattle.std.proofs.Common.{◌≡◌, refl, sym, ap, ap₂, ◌∙◌, Bool, true, false, not, ◌&&◌, List, ℕ, ◌-◌, ◌*◌, ◌%◌, ◌^◌, ◌≤◌, ◌<◌, arith, bit_or, bit_and, get_or, Option, Some, None, ne_eqb}
use Rattle.std.proofs.Math.Decide.{dec_lt}
use Rattle.rules.specs.Tables.{either}
use Rattle.rules.specs.Bits.{taken}
use Rattle.rules.proofs.Tables.{rows_ext}
use Rattle.rules.proofs.Bits.{taken_above, taken_not, taken_or, taken_and, taken_pow, one_shl}
use Rattle.desk.specs.declared.senders.Site.{Site}
use Rattle.desk.specs.Senders.{is_freed, is_sent, Sent, sender, marked, after}

-- ---- the set of those that were sent
module _ (old new : ℕ) (low : old < 2 ^ 64) (high : new < 2 ^ 64) where
  -- a mask that has the numbers below 64 that may have been sent
  masked : (freed : Option ℕ) (m : ℕ) → ((k : ℕ) → k < 64 → taken m k ≡ either (not (taken old k)) (is_freed freed k)) → Sent old new freed (bit_and new m)
  masked freed m e = record { has = at }
    where
      at : (k : ℕ) → taken (bit_and new m) k ≡ is_sent old new freed k
      at k = elim (dec_lt k 64) [
        | yes h ↦ taken_and new m k ∙ ap (λ (t : Bool). taken new k && t) (e k h)
        | no f ↦ taken_and new m k ∙ rw (taken_above new k 64 high (omega (arith, f)))
      ]

  pub sent_freed : (freed : Option ℕ) (n : ℕ) → freed ≡ Some n → n < 64 → Sent old new freed (bit_and new (bit_or ((2 ^ 64 - 1) - old) ((1 * 2 ^ n) % 2 ^ 64)))
  sent_freed freed n e h =
      masked freed _ (λ k l. taken_or _ _ k ∙ ap₂ either (taken_not 64 old k low l) (ap (λ (x : ℕ). taken x k) (one_shl n h) ∙ taken_pow n k ∙ ap (λ (o : Option ℕ). is_freed o k) (sym e)))

  -- where no number below 64 was freed
  sent_new : (freed : Option ℕ) → ((k : ℕ) → k < 64 → is_freed freed k ≡ false) → Sent old new freed (bit_and new ((2 ^ 64 - 1) - old))
  sent_new freed none = masked freed _ (λ k l. taken_not 64 old k low l ∙ same (not (taken old k)) (is_freed freed k) (none k l))
    where
      same : (t f : Bool) → f ≡ false → t ≡ either t f
      same true f e = refl
      same false f e = sym e

  pub sent_past : (freed : Option ℕ) (n : ℕ) → freed ≡ Some n → 64 ≤ n → Sent old new freed (bit_and new ((2 ^ 64 - 1) - old))
  sent_past freed n e h = sent_new freed (λ k l. ap (λ (o : Option ℕ). is_freed o k) e ∙ ne_eqb k n (λ z. omega arith))

  pub sent_none : (freed : Option ℕ) → freed ≡ None → Sent old new freed (bit_and new ((2 ^ 64 - 1) - old))
  sent_none freed e = sent_new freed (λ k l. ap (λ (o : Option ℕ). is_freed o k) e)

-- ---- the senders
pub marked_sent : (senders : List ℕ) (old new set : ℕ) (site : Site) → Sent old new site.freed set → marked senders set site.node ≡ after senders old new site
unfolding marked after
marked_sent senders old new set site s = rows_ext 64 _ _ (λ k h. ap (λ (t : Bool). sender t site.node (get_or senders k 0)) (s.has k))
