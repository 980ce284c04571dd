-- The homes of an opening: those past the count are zero.
use Rattle.std.proofs.Common.{◌≡◌, ◌∙◌, sym, ℕ, ◌<◌, ◌-◌, ◌++◌, min, Bool, List, ltb, length, get_or, take, drop, replicate, arith, lt-ltb, le-ltb}
use Rattle.std.proofs.lemmas.List.{ext_get_or, length-append, length-take-le, length-replicate, drop-replicate, get_or_append_left, get_or-append_right, get_or-take, get_or-replicate}
use native.Mathlib.Decide.{dec_lt}
use Rattle.rules.specs.Tables.{pick}
use Rattle.rules.specs.Commands.{homes_of, home_outside}
use Rattle.rules.proofs.Tables.{rows_at, rows_length}

-- ---- the test of the homes, whose counts are made wide
pub outside_is : (hs : List ℕ) {n c k m : ℕ} {t : Bool} → k ≡ c → m ≡ n → t ≡ home_outside m k hs → home_outside n c hs ≡ t
outside_is hs e f g = rw (sym e, sym f) (sym g)

-- ---- the homes that are kept
module _ (c : ℕ) (hs : List ℕ) where
  home_at : (j : ℕ) → j < 16 → get_or (homes_of c hs) j 0 ≡ pick (ltb j c) (get_or hs j 0) 0
  unfolding homes_of
  home_at j h = rows_at 16 (λ k. pick (ltb k c) (get_or hs k 0) 0) j 0 h

  homes_length : length (homes_of c hs) ≡ 16
  unfolding homes_of
  homes_length = rows_length 16 (λ k. pick (ltb k c) (get_or hs k 0) 0)

  -- the first homes, and zeros up to the end of the row
  pub homes_kept : (n : ℕ) → n ≡ min c 16 → length hs ≡ 16 → take n hs ++ drop n (replicate 16 0) ≡ homes_of c hs
  homes_kept n e s = rw (drop-replicate {X = ℕ} n 16 0) (ext_get_or 0 (take n hs ++ replicate (16 - n) 0) (homes_of c hs) (long ∙ sym homes_length) (λ j l. at j (omega (arith, l, long))))
    where
      short : length (take n hs) ≡ n
      short = length-take-le n hs (omega arith)

      long : length (take n hs ++ replicate (16 - n) 0) ≡ 16
      long = length-append (take n hs) (replicate (16 - n) 0) ∙ rw (short, length-replicate {A = ℕ} (16 - n) 0) (omega arith)

      at : (j : ℕ) → j < 16 → get_or (take n hs ++ replicate (16 - n) 0) j 0 ≡ get_or (homes_of c hs) j 0
      at j l = elim (dec_lt j n) [
        | yes b ↦ get_or_append_left (take n hs) (replicate (16 - n) 0) 0 j (omega (arith, short)) ∙ get_or-take n hs j 0 b ∙ sym (home_at j l ∙ rw (lt-ltb j c (omega arith)))
        | no b ↦ get_or-append_right (take n hs) (replicate (16 - n) 0) n j 0 short (omega (arith, b)) ∙ get_or-replicate (16 - n) (j - n) 0 0 (omega (arith, b)) ∙ sym (home_at j l ∙ rw (le-ltb j c (omega (arith, b))))
      ]
