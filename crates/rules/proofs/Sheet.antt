-- Laws of the packed sheet: a field is below its power of two, two fields side by side are one, a field of what follows a byte is a field of
-- the whole, a field inside one byte is read off that byte, and so a command is read off its two bytes. Assumes nothing.
use mathlib.Core.Path.{◌≡◌, refl, sym, ap, ◌∙◌}
use mathlib.Core.List.{List}
use Prim.Native.Nat.{ℕ, zero, suc, ◌+◌, ◌-◌, ◌*◌, ◌/◌, ◌%◌, ◌^◌, ◌≤◌, ◌<◌}
use native.Mathlib.Nat.{mod-one, mul_left_comm, add-zero, add-suc, add_assoc}
use native.Mathlib.Numerals.{add-one}
use native.Mathlib.Omega.{arith}
use lib.ListN.{get_or, drop}
use lib.Seq.{get_or-drop}
use lib.Pow.{shr-shr, mod-pow-add}
use Rattle.rules.specs.declared.Command.{Command}
use Rattle.rules.specs.declared.Command.TheVariants as Do
use Rattle.rules.specs.Sheet.{bit_at, field, by_kind, command_at}
use Rattle.rules.proofs.Bits.{two_pow}

-- ---- fields
pub bit_below : (s : List ℕ) (i : ℕ) → bit_at s i < 2
bit_below s i = omega arith

pub field_below : (s : List ℕ) (at n : ℕ) → field s at n < 2 ^ n
unfolding field
field_below s at zero = omega arith
field_below s at (suc n) = omega (arith, two_pow n, field_below s at n, bit_below s (at + n))

-- two fields side by side
pub field_split : (s : List ℕ) (at a b : ℕ) → field s at (a + b) ≡ field s at a * 2 ^ b + field s (at + a) b
unfolding field
field_split s at a zero = ap (field s at) (add-zero a) ∙ omega arith
field_split s at a (suc b) =
    ap (field s at) (add-suc a b) ∙ longer (field s at a) (2 ^ b) (field s (at + a) b) (field_split s at a b) (ap (bit_at s) (sym (add_assoc at a b))) (two_pow b)
  where
    longer : (v p u : ℕ) {w q x y : ℕ} → w ≡ v * p + u → x ≡ y → q ≡ 2 * p → 2 * w + x ≡ v * q + (2 * u + y)
    longer v p u e f g = rw (e, f, g, mul_left_comm v 2 p) (omega arith)

-- a field of what follows byte a
pub field_drop : (s : List ℕ) (a at n : ℕ) → field (drop a s) at n ≡ field s (8 * a + at) n
unfolding field
field_drop s a at zero = refl
field_drop s a at (suc n) = rw (field_drop s a at n, get_or-drop a s ((at + n) / 8) 0, byte, place)
  where
    byte : a + (at + n) / 8 ≡ (8 * a + at + n) / 8
    byte = omega arith

    place : (at + n) % 8 ≡ (8 * a + at + n) % 8
    place = omega arith

-- ---- bytes
next_digit : (x n : ℕ) → x % 2 ^ suc n ≡ 2 * (x / 2 % 2 ^ n) + x % 2
next_digit x n = ap (λ (k : ℕ). x % 2 ^ k) (sym (add-one n)) ∙ mod-pow-add x n 1 ∙ omega arith

half : (x k : ℕ) → x / 2 ^ suc k ≡ x / 2 ^ k / 2
half x k = ap (λ (j : ℕ). x / 2 ^ j) (sym (add-one k)) ∙ sym (shr-shr x k 1)

-- a field that lies inside one byte
pub field_in_byte : (s : List ℕ) (at n : ℕ) → at % 8 + n ≤ 8 → field s at n ≡ get_or s (at / 8) 0 / 2 ^ (8 - at % 8 - n) % 2 ^ n
unfolding field
field_in_byte s at zero h = sym (mod-one _)
field_in_byte s at (suc n) h =
    let byte : ℕ = get_or s (at / 8) 0 in
    let down : ℕ = 8 - at % 8 - suc n in
    let bit : bit_at s (at + n) ≡ byte / 2 ^ down % 2 = rw (same_byte, place) in
    let front : field s at n ≡ byte / 2 ^ down / 2 % 2 ^ n = field_in_byte s at n (omega arith) ∙ rw above (ap (λ (x : ℕ). x % 2 ^ n) (half byte down)) in
    rw (front, bit) (sym (next_digit (byte / 2 ^ down) n))
  where
    same_byte : (at + n) / 8 ≡ at / 8
    same_byte = omega arith

    place : 7 - (at + n) % 8 ≡ 8 - at % 8 - suc n
    place = omega arith

    above : 8 - at % 8 - n ≡ suc (8 - at % 8 - suc n)
    above = omega arith

-- ---- a command's two bytes
-- a field of n bits inside byte i, k bits above the byte's end
within : (s : List ℕ) (at n i k : ℕ) → at / 8 ≡ i → at % 8 + n + k ≡ 8 → field s at n ≡ get_or s i 0 / 2 ^ k % 2 ^ n
within s at n i k e f = field_in_byte s at n (omega arith) ∙ rw (e, down)
  where
    down : 8 - at % 8 - n ≡ k
    down = omega arith

module _ (s : List ℕ) (i : ℕ) where
  pub process_byte : field s (16 * i + 2) 4 ≡ get_or s (2 * i) 0 / 4 % 16
  process_byte = within s (16 * i + 2) 4 (2 * i) 2 (omega arith) (omega arith)

  pub message_byte : field s (16 * i + 2) 6 ≡ get_or s (2 * i) 0 % 64
  message_byte = within s (16 * i + 2) 6 (2 * i) 0 (omega arith) (omega arith) ∙ omega arith

  pub kind_byte : get_or s (2 * i) 0 < 256 → field s (16 * i) 2 ≡ get_or s (2 * i) 0 / 64
  kind_byte hi = within s (16 * i) 2 (2 * i) 6 (omega arith) (omega arith) ∙ omega arith

  -- the object's four bits stand two in each byte
  pub object_bytes : get_or s (2 * i + 1) 0 < 256 → field s (16 * i + 6) 4 ≡ get_or s (2 * i) 0 % 4 * 4 + get_or s (2 * i + 1) 0 / 64
  object_bytes lo =
      let high : field s (16 * i + 6) 2 ≡ get_or s (2 * i) 0 / 2 ^ 0 % 2 ^ 2 = within s (16 * i + 6) 2 (2 * i) 0 (omega arith) (omega arith) in
      let low : field s (16 * i + 6 + 2) 2 ≡ get_or s (2 * i + 1) 0 / 2 ^ 6 % 2 ^ 2 = within s (16 * i + 6 + 2) 2 (2 * i + 1) 6 (omega arith) (omega arith) in
      field_split s (16 * i + 6) 2 2 ∙ omega arith

-- the command that two bytes stand for
abbrev pub of_bytes : ℕ → ℕ → Command
of_bytes hi lo =
    let p = hi / 4 % 16 in
    let o = hi % 4 * 4 + lo / 64 in
    by_kind (hi / 64) (Do.Request p o (hi / 64)) (Do.Release p o) (Do.Deliver (hi % 64))

module _ (s : List ℕ) (i : ℕ) (hi : get_or s (2 * i) 0 < 256) (lo : get_or s (2 * i + 1) 0 < 256) where
  pub command_bytes : command_at s i ≡ of_bytes (get_or s (2 * i) 0) (get_or s (2 * i + 1) 0)
  unfolding command_at
  command_bytes = rw (kind_byte s i hi, process_byte s i, object_bytes s i lo, message_byte s i)
