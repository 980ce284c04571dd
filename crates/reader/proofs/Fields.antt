-- A field read off the bytes that it lies in, and the homes read field by field. Assumes nothing.
use Rattle.std.proofs.Common.{◌≡◌, refl, sym, ap, ◌∙◌, List, ◌++◌, ℕ, ◌+◌, ◌-◌, ◌*◌, ◌/◌, ◌%◌, ◌^◌, ◌≤◌, ◌<◌, arith, ltb, length, get_or, replicate, drop, length-append, length-drop}
use Rattle.std.proofs.Math.Decide.{dec_lt}
use Rattle.std.proofs.Math.ListN.{get_or-append, length-replicate}
use Rattle.std.proofs.Math.Seq.{ext_get_or, get_or-append_right}
use Rattle.std.proofs.lemmas.List.{get_or-drop, get_or-replicate}
use lib.Pow.{high, low, shl_exact}
use borrow.Author.Tests.{lt-ltb, le-ltb}
use Rattle.rules.specs.Tables.{pick}
use Rattle.rules.specs.Sheet.{field, homes_from}
use Rattle.rules.proofs.Tables.{rows_length, rows_at}
use Rattle.rules.proofs.Sheet.{field_below, field_split, field_in_byte}

-- ---- fields
-- a field that lies inside a wider one: what follows it is shifted out, and what stands before it is masked
pub field_inside : (s : List ℕ) (at a n c : ℕ) → field s at (a + n + c) / 2 ^ c % 2 ^ n ≡ field s (at + a) n
field_inside s at a n c = ap (λ (x : ℕ). x % 2 ^ n) shifted ∙ masked
  where
    shifted : field s at (a + n + c) / 2 ^ c ≡ field s at (a + n)
    shifted = rw (field_split s at (a + n) c) (high (field s at (a + n)) c (field_below s (at + (a + n)) c))

    masked : field s at (a + n) % 2 ^ n ≡ field s (at + a) n
    masked = rw (field_split s at a n) (low (field s at a) n (field_below s (at + a) n))

-- a whole byte
whole_byte : (s : List ℕ) (at i : ℕ) → at ≡ 8 * i → get_or s i 0 < 256 → field s at 8 ≡ get_or s i 0
whole_byte s at i e h = field_in_byte s at 8 (omega arith) ∙ rw (place, down) (omega arith)
  where
    place : at / 8 ≡ i
    place = omega arith

    down : 8 - at % 8 - 8 ≡ 0
    down = omega arith

-- two bytes
pub two_bytes : (s : List ℕ) (i : ℕ) → get_or s i 0 < 256 → get_or s (i + 1) 0 < 256 → 256 * get_or s i 0 + get_or s (i + 1) 0 ≡ field s (8 * i) 16
two_bytes s i h l =
    let first : field s (8 * i) 8 ≡ get_or s i 0 = whole_byte s (8 * i) i refl h in
    let second : field s (8 * i + 8) 8 ≡ get_or s (i + 1) 0 = whole_byte s (8 * i + 8) (i + 1) (omega arith) l in
    omega (arith, field_split s (8 * i) 8 8)

-- three bytes
module _ (s : List ℕ) (i : ℕ) (h : get_or s i 0 < 256) (m : get_or s (i + 1) 0 < 256) (l : get_or s (i + 2) 0 < 256) where
  three_bytes : field s (8 * i) 24 ≡ 65536 * get_or s i 0 + 256 * get_or s (i + 1) 0 + get_or s (i + 2) 0
  three_bytes =
      let first : field s (8 * i) 8 ≡ get_or s i 0 = whole_byte s (8 * i) i refl h in
      let second : field s (8 * i + 8) 8 ≡ get_or s (i + 1) 0 = whole_byte s (8 * i + 8) (i + 1) (omega arith) m in
      let third : field s (8 * i + 8 + 8) 8 ≡ get_or s (i + 2) 0 = whole_byte s (8 * i + 8 + 8) (i + 2) (omega arith) l in
      omega (arith, field_split s (8 * i) 8 16, field_split s (8 * i + 8) 8 8)

-- a mask of n bits
mask_is : (n : ℕ) → n ≤ 16 → 1 * 2 ^ n % 2 ^ 64 ≡ 2 ^ n
mask_is n few = shl_exact 1 n 64 (omega arith) (omega arith) ∙ omega arith

-- at most 16 bits lie in the three bytes h, m and l from their first bit's byte on
module _ (s : List ℕ) (at n : ℕ) {h m l : ℕ} (few : n ≤ 16) (h_fits : h < 256) (m-fits : m < 256) (l-fits : l < 256)
    (h-is : h ≡ get_or s (at / 8) 0) (m-is : m ≡ get_or s (at / 8 + 1) 0) (l-is : l ≡ get_or s (at / 8 + 2) 0) where
  abbrev three : ℕ
  three = 65536 * h + 256 * m + l

  abbrev down : ℕ
  down = 24 - at % 8 - n

  three_is : three ≡ field s (8 * (at / 8)) (at % 8 + n + down)
  three_is =
      let whole : field s (8 * (at / 8)) 24 ≡ 65536 * get_or s (at / 8) 0 + 256 * get_or s (at / 8 + 1) 0 + get_or s (at / 8 + 2) 0 =
      three_bytes s (at / 8) (omega (arith, h-is, h_fits)) (omega (arith, m-is, m-fits)) (omega (arith, l-is, l-fits)) in
      rw (h-is, m-is, l-is) (sym whole ∙ ap (field s (8 * (at / 8))) (omega arith))

  shifted : three / 2 ^ down % 2 ^ n ≡ field s at n
  shifted = rw three_is (field_inside s (8 * (at / 8)) (at % 8) n down ∙ ap (λ (k : ℕ). field s k n) (omega arith))

  abbrev masked : ℕ
  masked = three / 2 ^ down % (1 * 2 ^ n % 2 ^ 64)

  pub field_of_bytes : (masked ≡ field s at n) × (masked < 2 ^ n)
  field_of_bytes = rw (mask_is n few, shifted) (refl, field_below s at n)

-- ---- homes
module _ (s : List ℕ) (at n : ℕ) where
  homes_length : length (homes_from s at n) ≡ 16
  unfolding homes_from
  homes_length = rows_length 16 _

  homes_at : (k : ℕ) → k < 16 → get_or (homes_from s at n) k 0 ≡ pick (ltb k n) (field s (at + 3 * k) 3) 0
  unfolding homes_from
  homes_at k h = rows_at 16 _ k 0 h

  abbrev rest : List ℕ
  rest = drop n (replicate 16 0)

  -- n homes, and zeros in the places past them
  pub homes_filled : (row : List ℕ) → n ≤ 16 → length row ≡ n → ((k : ℕ) → k < n → get_or row k 0 ≡ field s (at + 3 * k) 3) → row ++ drop n (replicate 16 0) ≡ homes_from s at n
  homes_filled row few size here = ext_get_or 0 (row ++ rest) (homes_from s at n) (sizes ∙ sym homes_length) (λ k h. place k (omega (arith, sizes)))
    where
      sizes : length (row ++ rest) ≡ 16
      sizes = omega (arith, length-append row rest, length-drop {A = ℕ} n (replicate 16 0), length-replicate {A = ℕ} 16 0)

      place : (k : ℕ) → k < 16 → get_or (row ++ rest) k 0 ≡ get_or (homes_from s at n) k 0
      place k h = elim (dec_lt k n) [
        | yes l ↦ get_or-append row rest 0 k (omega arith) ∙ here k l ∙ sym (homes_at k h ∙ rw (lt-ltb k n l))
        | no f ↦ get_or-append_right row rest k 0 (omega arith) ∙ get_or-drop n (replicate 16 0) (k - length row) 0
            ∙ get_or-replicate 16 (n + (k - length row)) 0 0 (omega arith) ∙ sym (homes_at k h ∙ rw (le-ltb k n (omega arith)))
      ]
