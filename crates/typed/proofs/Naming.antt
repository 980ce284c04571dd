-- Laws of names: a word is compared with each name of a table, and each thing that is named has two names one after another.
-- Assumes nothing.
use Rattle.std.proofs.Common.{◌≡◌, refl, ap, ◌∙◌, List, [], ◌∷◌, ℕ, zero, suc, ◌/◌, ◌<◌, true, false, arith, eqb, length, get_or, drop, map, Bor, Option, None, unwrap_or, le-ltb}
use Rattle.std.specs.Str.{str_eq_ignore_ascii_case, bytes_eq}
use Rattle.std.specs.Char.{to_ascii_lowercase}
use Rattle.rules.proofs.Tables.{by_test}
use Rattle.typed.specs.Names.{lower, alike, named, place_in}
use Rattle.typed.specs.Numbers.{mode_or}
use Rattle.std.specs.List.{slice_get}
use Rattle.std.proofs.lemmas.Option.{slice_get_past, unwrap_or-slice_get}
use Rattle.typed.proofs.Decimals.{lower_is}

-- inside a list the default does not matter
pub get_d_any : {A : Type 0} (l : List A) (i : ℕ) (d e : A) → i < length l → get_or l i d ≡ get_or l i e
get_d_any [] i d e h = absurd (omega arith)
get_d_any (x ∷ l) zero d e h = refl
get_d_any (x ∷ l) (suc i) d e h = get_d_any l i d e (omega arith)

-- ---- a word and a name in lower case
alike_to : (w n : List ℕ) → bytes_eq (map to_ascii_lowercase w) n ≡ alike w n
unfolding alike
alike_to [] [] = refl
alike_to [] (x ∷ n) = refl
alike_to (c ∷ w) [] = refl
alike_to (c ∷ w) (x ∷ n) = by_test (eqb (lower c) x) (λ e. rw (lower_is c, e) (alike_to w n)) (λ e. rw (lower_is c, e))

abbrev Low : List ℕ → Type 0
Low n = map to_ascii_lowercase n ≡ n

pub alike_is : (w n : List ℕ) → Low n → str_eq_ignore_ascii_case w n ≡ alike w n
alike_is w n e = ap (bytes_eq (map to_ascii_lowercase w)) e ∙ alike_to w n

place_here : (w n : List ℕ) (ns : List (List ℕ)) → alike w n ≡ true → place_in w (n ∷ ns) ≡ 0
unfolding place_in
place_here w n ns e = rw (place_in, e)

place_later : (w n : List ℕ) (ns : List (List ℕ)) → alike w n ≡ false → place_in w (n ∷ ns) ≡ suc (place_in w ns)
unfolding place_in
place_later w n ns e = rw (place_in, e)

two_more : (p : ℕ) → suc (suc p) / 2 ≡ suc (p / 2)
two_more p = omega arith

-- ---- a table of names: each row has a long and a short name, and what they stand for
module _ (A : Type 0) where
  abbrev Row : Type 0
  Row = Bor (List ℕ) × Bor (List ℕ) × A

  abbrev pub names_of : List Row → List (List ℕ)
  names_of [] = []
  names_of (n ∷ t) = n.0.now ∷ n.1.now ∷ names_of t

  abbrev pub means : List Row → List A
  means t = map (λ n. n.2) t

  -- the names are written in lower case
  pub found_name : (w : List ℕ) (t : List Row) → map (map to_ascii_lowercase) (names_of t) ≡ names_of t → named w t ≡ slice_get (means t) (place_in w (names_of t) / 2)
  unfolding place_in named
  found_name w [] l = refl
  found_name w (n ∷ t) l =
      let a : str_eq_ignore_ascii_case w n.0.now ≡ alike w n.0.now = alike_is w n.0.now (ap (λ (ns : List (List ℕ)). get_or ns 0 []) l) in
      let b : str_eq_ignore_ascii_case w n.1.now ≡ alike w n.1.now = alike_is w n.1.now (ap (λ (ns : List (List ℕ)). get_or ns 1 []) l) in
      by_test (alike w n.0.now)
      (λ e. rw (a, e, place_here w n.0.now (n.1.now ∷ names_of t) e))
      (λ e. by_test (alike w n.1.now)
      (λ f. rw (a, b, e, f, place_later w n.0.now (n.1.now ∷ names_of t) e, place_here w n.1.now (names_of t) f))
      (λ f. rw (a, b, e, f, place_later w n.0.now (n.1.now ∷ names_of t) e, place_later w n.1.now (names_of t) f, two_more (place_in w (names_of t)))
      (found_name w t (ap (λ (ns : List (List ℕ)). drop 2 ns) l))))

  pub found_or : (w : List ℕ) (t : List Row) (d r : A) (o : Option A) → o ≡ named w t → r ≡ unwrap_or o d → map (map to_ascii_lowercase) (names_of t) ≡ names_of t
      → r ≡ get_or (means t) (place_in w (names_of t) / 2) d
  found_or w t d r o e f l = f ∙ ap (λ (x : Option A). unwrap_or x d) (e ∙ found_name w t l) ∙ unwrap_or-slice_get (means t) (place_in w (names_of t) / 2) d

-- ---- the modes
pub mode_place : (p : ℕ) → slice_get (0 ∷ 1 ∷ []) (p / 2) ≡ mode_or p None
unfolding mode_or
mode_place zero = refl
mode_place (suc zero) = refl
mode_place (suc (suc zero)) = refl
mode_place (suc (suc (suc zero))) = refl
mode_place (suc (suc (suc (suc p)))) = rw (le-ltb (suc (suc (suc (suc p)))) 4 (omega arith)) (slice_get_past (0 ∷ 1 ∷ []) (suc (suc (suc (suc p))) / 2) (omega arith))
