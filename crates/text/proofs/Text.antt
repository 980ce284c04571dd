-- Laws of text: a number by its digits, words by their spaces, and bytes put into a buffer one after another. Assumes nothing.
use mathlib.Core.Path.{◌≡◌, refl, sym, ap, ◌∙◌}
use mathlib.Core.List.{List, [], ◌∷◌, ◌++◌, append_assoc, append-nil}
use Prim.Native.Nat.{ℕ, zero, suc, ◌+◌, ◌-◌, ◌*◌, ◌/◌, ◌%◌, ◌^◌, ◌≤◌, ◌<◌}
use native.Mathlib.Omega.{arith}
use native.Mathlib.Numerals.{add-one}
use native.Mathlib.Decide.{dec_lt}
use Rattle.std.proofs.lemmas.List.{drop-drop}
use lib.Dec.{ltb}
use lib.ListN.{length, take, drop, get_or, set, length-append, length-take}
use lib.Seq.{sets, sets-eq, length-sets, take-append_seam}
use borrow.Author.Tests.{ltb-true, ltb-false, lt-ltb, le-ltb}
use borrow.Rule.Slice.PartMut.{put_mid}
use Rattle.std.specs.Prelude.{min}
use Rattle.std.proofs.Math.Nat.{min-eq_left, min-eq_right}
use Rattle.std.specs.Fmt.{decimal as written_decimal}
use Rattle.std.proofs.lemmas.Fmt.{decimal_from_appends, length-decimal-le, length-decimal-le_succ}
use Rattle.rules.proofs.Tables.{by_test}
use Rattle.text.specs.Text.{digits, decimal, read_on, after_spaces, flat, at_most, written, behind, Wrote}

-- ---- a number in decimal
digits_one : (d n : ℕ) → n < 10 → digits (suc d) n ≡ (48 + n) ∷ []
unfolding digits
digits_one d n h = rw (lt-ltb n 10 h, digits)

digits_more : (d n : ℕ) → 10 ≤ n → digits (suc d) n ≡ digits d (n / 10) ++ (48 + n % 10) ∷ []
unfolding digits
digits_more d n h = rw (le-ltb n 10 h, digits)

digits_enough : (d e n : ℕ) → n < d → n < e → digits d n ≡ digits e n
digits_enough zero e n h g = absurd (omega arith)
digits_enough (suc d) zero n h g = absurd (omega arith)
digits_enough (suc d) (suc e) n h g = by_test (ltb n 10)
    (λ t. let l : n < 10 = ltb-true n 10 t in digits_one d n l ∙ sym (digits_one e n l))
    (λ t. let l : 10 ≤ n = ltb-false n 10 t in
    digits_more d n l ∙ ap (λ (x : List ℕ). x ++ (48 + n % 10) ∷ []) (digits_enough d e (n / 10) (omega arith) (omega arith)) ∙ sym (digits_more e n l))

pub decimal_one : (n : ℕ) → n < 10 → decimal n ≡ (48 + n) ∷ []
unfolding decimal
decimal_one n h = digits_one n n h

pub decimal_more : (n : ℕ) → 10 ≤ n → decimal n ≡ decimal (n / 10) ++ (48 + n % 10) ∷ []
unfolding decimal
decimal_more n h = digits_more n n h ∙ ap (λ (x : List ℕ). x ++ (48 + n % 10) ∷ []) (digits_enough n (suc (n / 10)) (n / 10) (omega arith) (omega arith))

-- it is what the library writes
pub decimal_is : (n : ℕ) → n < 2 ^ 64 → written_decimal n ≡ decimal n
unfolding decimal
decimal_is n h = sym (decimal_from_appends digits (record { one = digits_one; more = digits_more }) (suc n) n h (omega (arith, length-decimal-le_succ n h)))

-- of what the library writes: four digits at most below 10,000, and room for four, or for twenty, is room enough
module _ (n : ℕ) {l : List ℕ} (e : l ≡ written_decimal n) where
  pub four_digits : n < 10000 → length l ≤ 4
  four_digits h = omega (arith, ap length e, length-decimal-le 4 n (omega arith) h (omega arith))

  pub room_left : (end : ℕ) → length l ≤ 20 → (n < 10000 → end + 4 ≤ 65536) × (10000 ≤ n → end + 20 ≤ 65536) → end + length l ≤ 65536
  room_left end short room = elim (dec_lt n 10000) [
    | yes h ↦ omega (arith, room.0 h, four_digits h)
    | no f ↦ omega (arith, room.1 (omega (arith, f)))
  ]

-- two digits, and three or four of which the last two stand apart
pub decimal_two : (n : ℕ) → 10 ≤ n → n < 100 → ((48 + n / 10) ∷ []) ++ (48 + n % 10) ∷ [] ≡ decimal n
decimal_two n h g = rw (decimal_more n h, decimal_one (n / 10) (omega arith))

pub decimal_four : (n : ℕ) → 100 ≤ n → (decimal (n / 100) ++ (48 + n / 10 % 10) ∷ []) ++ (48 + n % 10) ∷ [] ≡ decimal n
decimal_four n h =
    let e : n / 10 / 10 ≡ n / 100 = omega arith in
    rw (decimal_more n (omega arith), decimal_more (n / 10) (omega arith), e)

-- how many digits there are: one, or one behind those of the tens
pub length_one : (n : ℕ) → n < 10 → length (decimal n) ≡ 1
length_one n h = ap length (decimal_one n h)

pub length_more : (n : ℕ) → 10 ≤ n → length (decimal n) ≡ length (decimal (n / 10)) + 1
length_more n h = ap length (decimal_more n h) ∙ length-append (decimal (n / 10)) ((48 + n % 10) ∷ [])

-- four at most below 10,000, twenty at most in 64 bits, and all but the last of these are nineteen at most
decimal_length : (k n : ℕ) → 0 < k → n < 10 ^ k → n < 2 ^ 64 → length (decimal n) ≤ k
decimal_length k n some short fits = omega (arith, ap length (decimal_is n fits), length-decimal-le k n some short fits)

pub decimal_short : (n : ℕ) → n < 10000 → length (decimal n) ≤ 4
decimal_short n h = four_digits n (sym (decimal_is n (omega arith))) h

pub twenty_digits : (n : ℕ) → n < 2 ^ 64 → length (decimal n) ≤ 20
twenty_digits n h = decimal_length 20 n (omega arith) (omega arith) h

pub higher_length : (n : ℕ) → n < 2 ^ 64 → length (decimal (n / 10)) ≤ 19
higher_length n h = decimal_length 19 (n / 10) (omega arith) (omega arith) (omega arith)

pub decimal_room : (n end : ℕ) → n < 2 ^ 64 → (n < 10000 → end + 4 ≤ 65536) × (10000 ≤ n → end + 20 ≤ 65536) → end + length (decimal n) ≤ 65536
decimal_room n end fits room = room_left n (sym (decimal_is n fits)) end (twenty_digits n fits) room

-- no leading zero
digits_lead : (d n : ℕ) → n < d → 0 < n → (z : ℕ) → 48 < get_or (digits d n) 0 z
digits_lead zero n h g z = absurd (omega arith)
digits_lead (suc d) n h g z = by_test (ltb n 10)
    (λ t. rw (digits_one d n (ltb-true n 10 t)) (omega arith))
    (λ t. let l : 10 ≤ n = ltb-false n 10 t in
    rw (digits_more d n l) (first_of (digits d (n / 10)) _ (digits_lead d (n / 10) (omega arith) (omega arith))))
  where
    first_of : (l m : List ℕ) → ((z : ℕ) → 48 < get_or l 0 z) → 48 < get_or (l ++ m) 0 z
    first_of [] m lead = absurd (omega (arith, lead 0))
    first_of (x ∷ l) m lead = lead z

pub decimal_lead : (n : ℕ) → 0 < n → 48 < get_or (decimal n) 0 0
unfolding decimal
decimal_lead n h = digits_lead (suc n) n (omega arith) h 0

-- the digits stand for the number
read_last : (v : ℕ) (l : List ℕ) (d : ℕ) → read_on v (l ++ d ∷ []) ≡ 10 * read_on v l + (d - 48)
unfolding read_on
read_last v [] d = refl
read_last v (x ∷ l) d = read_last (10 * v + (x - 48)) l d

read_digits : (d n : ℕ) → n < d → read_on 0 (digits d n) ≡ n
read_digits zero n h = absurd (omega arith)
read_digits (suc d) n h = by_test (ltb n 10)
    (λ t. rw (digits_one d n (ltb-true n 10 t)) (unfold read_on in omega arith))
    (λ t. let l : 10 ≤ n = ltb-false n 10 t in
    rw (digits_more d n l, read_last 0 (digits d (n / 10)) (48 + n % 10)) (omega (arith, read_digits d (n / 10) (omega arith))))

pub decimal_stands : (n : ℕ) → read_on 0 (decimal n) ≡ n
unfolding decimal
decimal_stands n = read_digits (suc n) n (omega arith)

-- ---- words
pub spaces_append : (a b : List (List ℕ)) → after_spaces (a ++ b) ≡ after_spaces a ++ after_spaces b
unfolding after_spaces
spaces_append [] b = refl
spaces_append (w ∷ a) b = ap (λ (x : List ℕ). 32 ∷ w ++ x) (spaces_append a b) ∙ ap (λ (x : List ℕ). 32 ∷ x) (sym (append_assoc w (after_spaces a) (after_spaces b)))

pub spaces_one : (w : List ℕ) → after_spaces (w ∷ []) ≡ 32 ∷ w
unfolding after_spaces
spaces_one w = ap (λ (x : List ℕ). 32 ∷ x) (append-nil w)

-- ---- lines one after another: none yet, and one more
pub no_lines : (f : ℕ → List ℕ) → [] ≡ flat 0 f
unfolding flat
no_lines f = refl

pub flat_next : (f : ℕ → List ℕ) (k : ℕ) → flat k f ++ f k ≡ flat (k + 1) f
unfolding flat
flat_next f k = rw add-one

-- ---- behind what stands on a page: nothing, texts one after another that are one text, and one line more
module _ (page : List ℕ) where
  pub added_none : {xs : List ℕ} → [] ≡ xs → page ≡ page ++ xs
  added_none e = sym (append-nil page) ∙ ap (λ (l : List ℕ). page ++ l) e

  pub added_as : {xs ys new : List ℕ} → xs ≡ ys → new ≡ page ++ xs → new ≡ page ++ ys
  added_as e a = a ∙ ap (λ (l : List ℕ). page ++ l) e

  added_then : (xs ys : List ℕ) {new last : List ℕ} → new ≡ page ++ xs → last ≡ new ++ ys → last ≡ page ++ (xs ++ ys)
  added_then xs ys a b = b ∙ ap (λ (l : List ℕ). l ++ ys) a ∙ append_assoc page xs ys

  pub page_none : (f : ℕ → List ℕ) → page ≡ page ++ flat 0 f
  page_none f = added_none (no_lines f)

  pub page_next : (f : ℕ → List ℕ) (k : ℕ) {new last : List ℕ} → new ≡ page ++ flat k f → last ≡ new ++ f k → last ≡ page ++ flat (k + 1) f
  page_next f k x y = added_as (flat_next f k) (added_then (flat k f) (f k) x y)

  module _ (a b : List ℕ) {p q : List ℕ} (x : p ≡ page ++ a) (y : q ≡ p ++ b) where
    pub added_two : {l : List ℕ} → a ++ b ≡ l → q ≡ page ++ l
    added_two e = added_as e (added_then a b x y)

    module _ (c : List ℕ) {r : List ℕ} (z : r ≡ q ++ c) where
      three : r ≡ page ++ ((a ++ b) ++ c)
      three = added_then (a ++ b) c (added_then a b x y) z

      pub added_three : {l : List ℕ} → (a ++ b) ++ c ≡ l → r ≡ page ++ l
      added_three e = added_as e three

      module _ (d : List ℕ) {s : List ℕ} (u : s ≡ r ++ d) where
        four : s ≡ page ++ (((a ++ b) ++ c) ++ d)
        four = added_then ((a ++ b) ++ c) d three u

        pub added_four : {l : List ℕ} → ((a ++ b) ++ c) ++ d ≡ l → s ≡ page ++ l
        added_four e = added_as e four

        module _ (f : List ℕ) {t : List ℕ} (v : t ≡ s ++ f) where
          five : t ≡ page ++ ((((a ++ b) ++ c) ++ d) ++ f)
          five = added_then (((a ++ b) ++ c) ++ d) f four v

          pub added_five : {l : List ℕ} → (((a ++ b) ++ c) ++ d) ++ f ≡ l → t ≡ page ++ l
          added_five e = added_as e five

          pub added_six : (g : List ℕ) {w l : List ℕ} → w ≡ t ++ g → ((((a ++ b) ++ c) ++ d) ++ f) ++ g ≡ l → w ≡ page ++ l
          added_six g k e = added_as e (added_then ((((a ++ b) ++ c) ++ d) ++ f) g five k)

-- ---- counts
pub at_most_below : (top n : ℕ) → n < top → n ≡ at_most top n
unfolding at_most
at_most_below top n h = rw (lt-ltb n top h)

pub at_most_top : (top n : ℕ) → top ≤ n → top ≡ at_most top n
unfolding at_most
at_most_top top n h = rw (le-ltb n top h)

pub at_most_min : (top n : ℕ) → min n top ≡ at_most top n
at_most_min top n = by_test (ltb n top)
    (λ t. min-eq_left (omega (arith, ltb-true n top t)) ∙ at_most_below top n (ltb-true n top t))
    (λ t. min-eq_right (ltb-false n top t) ∙ at_most_top top n (ltb-false n top t))

pub at_most_is : (top : ℕ) {k n w m : ℕ} → k ≡ n → n ≡ at_most top w → w ≡ m → k ≡ at_most top m
at_most_is top d e f = d ∙ e ∙ ap (at_most top) f

-- ---- bytes in a buffer
sets_append : (xs ys l : List ℕ) (at : ℕ) → sets l at (xs ++ ys) ≡ sets (sets l at xs) (at + length xs) ys
sets_append [] ys l at = ap (λ (k : ℕ). sets l k ys) (omega arith)
sets_append (x ∷ xs) ys l at = sets_append xs ys (set l at x) (suc at) ∙ ap (λ (k : ℕ). sets (sets (set l at x) (suc at) xs) k ys) (omega arith)

module _ {old : List ℕ} {at : ℕ} where
  -- nothing is put
  pub wrote_none : Wrote old at [] old at
  unfolding written
  wrote_none = record { text = refl; place = omega arith }

  -- one byte is put
  pub wrote_one : {x : ℕ} → Wrote old at (x ∷ []) (set old at x) (at + 1)
  unfolding written
  wrote_one = record { text = refl; place = refl }

  -- one after the other is both
  pub wrote_then : {xs ys new last : List ℕ} {to end : ℕ} → Wrote old at xs new to → Wrote new to ys last end → Wrote old at (xs ++ ys) last end
  unfolding written
  wrote_then {xs} {ys} {new} {last} {to} {end} a b = record {
    text = b.text ∙ ap (λ (l : List ℕ). sets l to ys) a.text ∙ ap (λ (k : ℕ). sets (sets old at xs) k ys) a.place ∙ sym (sets_append xs ys old at);
    place = omega (arith, a.place, b.place, length-append xs ys);
  }

  pub wrote_as : {xs ys new : List ℕ} {end : ℕ} → xs ≡ ys → Wrote old at xs new end → Wrote old at ys new end
  wrote_as {xs} {ys} {new} {end} e w = rw (sym e) w

  pub wrote_at : {xs new : List ℕ} {end to : ℕ} → end ≡ to → Wrote old at xs new end → Wrote old at xs new to
  wrote_at {xs} {new} {end} {to} e w = rw (sym e) w

-- bytes put at a place leave one buffer and one place after them
pub wrote_only : {old bytes new other : List ℕ} {at end to : ℕ} → Wrote old at bytes new end → Wrote old at bytes other to → ◌≡◌ {A = List ℕ × ℕ} (new, end) (other, to)
wrote_only a b i = ((a.text ∙ sym b.text) i, (a.place ∙ sym b.place) i)

-- the buffer afterwards: what was before the place, the bytes, and what lies behind them
pub written_parts : (old : List ℕ) (at : ℕ) (bytes : List ℕ) → at + length bytes ≤ length old → written old at bytes ≡ take at old ++ bytes ++ drop (at + length bytes) old
unfolding written
written_parts old at bytes h = sets-eq bytes old at h

-- put at the start, the bytes are the start
pub wrote_start : (old bytes new : List ℕ) (end : ℕ) → Wrote old 0 bytes new end → end ≤ length old → take end new ≡ bytes
wrote_start old bytes new end w h =
    let e : end ≡ length bytes = omega (arith, w.place) in
    rw (w.text, e) (rw (written_parts old 0 bytes (omega (arith, w.place))) (take-append_seam bytes _))

-- the bytes went to a part of the buffer that is as long as they are
pub part_written : (old bytes : List ℕ) (at : ℕ) {after : List ℕ} → at + length bytes ≤ length old → after ≡ bytes
    → put_mid at (at + length bytes - at) old after ≡ written old at bytes
part_written old bytes at few e =
    let k : at + length bytes - at ≡ length bytes = omega arith in
    rw (e, k) (rw (written_parts old at bytes few) (rw (drop-drop (length bytes) at old) (sym (append_assoc (take at old) bytes _))))

-- ---- bytes behind those that came before
pub behind_length : (room : ℕ) (buffer : List ℕ) (n : ℕ) (bytes : List ℕ) → length (behind room buffer n bytes) ≡ length buffer
unfolding behind written
behind_length room buffer n bytes = length-sets buffer n (take (room - n) bytes)

pub behind_out : (room : ℕ) (buffer : List ℕ) (n : ℕ) (bytes : List ℕ) → room ≤ n → buffer ≡ behind room buffer n bytes
unfolding behind written
behind_out room buffer n bytes h = let e : room - n ≡ 0 = omega (arith, h) in rw e

pub behind_next : (room : ℕ) (buffer : List ℕ) (n x : ℕ) (bytes : List ℕ) → n < room → behind room (set buffer n x) (suc n) bytes ≡ behind room buffer n (x ∷ bytes)
unfolding behind written
behind_next room buffer n x bytes h = let e : room - n ≡ suc (room - suc n) = omega (arith, h) in rw e

take_nil : (k : ℕ) → take {A = ℕ} k [] ≡ []
take_nil zero = refl
take_nil (suc k) = refl

behind_none : (room : ℕ) (buffer : List ℕ) (n : ℕ) → behind room buffer n [] ≡ buffer
unfolding behind written
behind_none room buffer n = ap (sets buffer n) (take_nil (room - n))

-- one, and then the others
pub behind_one : (room : ℕ) (buffer : List ℕ) (n x : ℕ) (bytes : List ℕ) → behind room (behind room buffer n (x ∷ [])) (suc n) bytes ≡ behind room buffer n (x ∷ bytes)
behind_one room buffer n x bytes = by_test (ltb n room)
    (λ t. let h : n < room = ltb-true n room t in
    ap (λ (l : List ℕ). behind room l (suc n) bytes) (sym (behind_next room buffer n x [] h) ∙ behind_none room (set buffer n x) (suc n))
    ∙ behind_next room buffer n x bytes h)
    (λ t. let h : room ≤ n = ltb-false n room t in
    sym (behind_out room _ (suc n) bytes (omega (arith, h))) ∙ sym (behind_out room buffer n (x ∷ []) h) ∙ behind_out room buffer n (x ∷ bytes) h)

-- a part of the buffer was written to
pub part_put : (room : ℕ) (buffer bytes : List ℕ) (n : ℕ) {q after : List ℕ} → length buffer ≡ room → n < room → q ≡ take (room - n) bytes → after ≡ q
    → put_mid n (n + length q - n) buffer after ≡ behind room buffer n bytes
unfolding behind
part_put room buffer bytes n {q} {after} size h e f =
    let few : n + length q ≤ length buffer = omega (arith, ap length e, length-take (room - n) bytes, size) in
    rw (← e) (part_written buffer q n few f)
