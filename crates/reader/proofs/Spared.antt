-- Spare bits of commands: taken out of a command's 16 bits, gathered over many commands, and how many commands are read. Assumes nothing.
use Rattle.std.proofs.Common.{◌≡◌, refl, sym, ap, ◌∙◌, List, [], ◌∷◌, ◌++◌, ℕ, zero, suc, ◌+◌, ◌-◌, ◌*◌, ◌/◌, ◌%◌, ◌≤◌, ◌<◌, not, arith, add-one, add-zero, zero-add, eqb, drop, bit_or}
use Rattle.std.proofs.Math.Decide.{dec_lt}
use Rattle.std.specs.List.{fold, range_with_len}
use Rattle.std.proofs.lemmas.List.Sums.{fold-append}
use borrow.Author.Tests.{lt-ltb, le-ltb, le-leb, eq-eqb, ne_eqb}
use Rattle.rules.specs.Tables.{all}
use Rattle.rules.specs.Sheet.{field, command_spare, any_spare}
use Rattle.rules.proofs.Bits.{or_none}
use Rattle.rules.proofs.Sheet.{field_below, field_drop}
use Rattle.reader.specs.Place.{least, commands_within, spare_in}
use Rattle.reader.proofs.Fields.{field_inside}

-- ---- the spare bits, by the kind
pub six : (c : ℕ) → c / 16384 < 3 → c % 64 ≡ spare_in c
six c h = elim (dec_lt (c / 16384) 2) [
  | yes l ↦ rw (lt-ltb (c / 16384) 2 l)
  | no f ↦ rw (le-ltb (c / 16384) 2 (omega arith), eq-eqb (c / 16384) 2 (omega arith))
]

pub eight : (c : ℕ) → 2 < c / 16384 → c % 256 ≡ spare_in c
eight c h = rw (le-ltb (c / 16384) 2 (omega arith), ne_eqb (c / 16384) 2 (λ z. omega arith))

-- numbers from a on, and one more behind them
range_more : (a n : ℕ) → range_with_len a (suc n) ≡ range_with_len a n ++ (a + n) ∷ []
range_more a zero = ap (λ (x : ℕ). x ∷ []) (sym (add-zero a))
range_more a (suc n) = ap (λ (l : List ℕ). a ∷ l) (range_more (a + 1) n ∙ ap (λ (x : ℕ). range_with_len (a + 1) n ++ x ∷ []) (omega arith))

-- ---- one command of the part from byte `first` on
module _ (s : List ℕ) (first : ℕ) where
  abbrev part : List ℕ
  part = drop first s

  sixteen_of : (k : ℕ) → field s (8 * (first + 2 * k)) 16 ≡ field part (16 * k) 16
  sixteen_of k = ap (λ (a : ℕ). field s a 16) (omega arith) ∙ sym (field_drop s first (16 * k) 16)

  spare_of : (k : ℕ) → spare_in (field part (16 * k) 16) ≡ command_spare part k
  unfolding command_spare
  spare_of k = rw (kind, low_six, low_eight)
    where
      kind : field part (16 * k) 16 / 16384 ≡ field part (16 * k) 2
      kind =
          let front : field part (16 * k + 0) 2 ≡ field part (16 * k) 2 = ap (λ (a : ℕ). field part a 2) (omega arith) in
          omega (arith, front, field_inside part (16 * k) 0 2 14, field_below part (16 * k) 16)

      low_six : field part (16 * k) 16 % 64 ≡ field part (16 * k + 10) 6
      low_six = omega (arith, field_inside part (16 * k) 10 6 0)

      low_eight : field part (16 * k) 16 % 256 ≡ field part (16 * k + 8) 8
      low_eight = omega (arith, field_inside part (16 * k) 8 8 0)

  -- what k commands have set is zero where none of them has a spare bit set
  abbrev Gathered : ℕ → ℕ → Type 0
  Gathered set k = eqb set 0 ≡ all k (λ i. eqb (command_spare part i) 0)

  gathered_none : Gathered 0 0
  unfolding all
  gathered_none = refl

  gathered_next : (k set : ℕ) {c x : ℕ} → Gathered set k → c ≡ field s (8 * (first + 2 * k)) 16 → x ≡ spare_in c → Gathered (bit_or set x) (k + 1)
  unfolding all
  gathered_next k set {c} {x} g e f =
      let is : x ≡ command_spare part k = f ∙ ap spare_in (e ∙ sixteen_of k) ∙ spare_of k in
      or_none set x ∙ rw (add-one, g, is)

  -- what is gathered of command k beside what was before
  abbrev pub gather : ℕ → ℕ → ℕ
  gather set k = bit_or set (spare_in (field s (8 * (first + 2 * k)) 16))

  gathered_below : (n : ℕ) → Gathered (fold gather 0 (range_with_len 0 n)) n
  gathered_below zero = gathered_none
  gathered_below (suc n) = rw (range_more 0 n, fold-append gather 0 (range_with_len 0 n) ((0 + n) ∷ []), zero-add) (rw add-one at (gathered_next n (fold gather 0 (range_with_len 0 n)) (gathered_below n) refl refl))

  -- what is gathered of n commands is not zero where one of them has a spare bit set
  pub gathered : (n : ℕ) → not (eqb (fold gather 0 (range_with_len 0 n)) 0) ≡ any_spare part n
  gathered n = ap not (gathered_below n)

-- ---- how many commands are read at a byte's first bit
pub as_many : (l at n : ℕ) → n ≤ 4096 → at ≤ 4294967296 → at % 8 ≡ 0 → commands_within l at n ≡ least n ((l - at / 8) / 2)
unfolding commands_within
as_many l at n few near first = simp (le-leb _ _ few, le-leb _ _ near, eq-eqb _ _ first)
