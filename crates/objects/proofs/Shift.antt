-- A line whose front leaves: a row made place by place, each from the place after it.
use Rattle.std.proofs.Common.{◌≡◌, ◌∙◌, sym, ap, subst, ℕ, zero, suc, ◌+◌, ◌-◌, ◌<◌, List, [], ◌∷◌, ◌++◌, length, get_or, drop, arith}
use Rattle.std.specs.Fn.{Called}
use Rattle.std.specs.Array.{IsFromFnResult, IsFromFnResultFrom}
use Rattle.std.proofs.lemmas.List.{ext_get_or, length-append, length-drop, get_or_append_left, get_or-append_right, get_or-drop}
use Rattle.std.proofs.Math.ListN.{get_or-eq_default}
use denote.Param.Members.{Mut}
use native.Mathlib.Decide.{dec_lt}

-- a closure that stays as it is, and gives h k at each number k
module _ {F B : Type 0} (g : Mut F (ℕ × Unit {0}) B) (f : F) (h : ℕ → B) (ys : List B) (d : B) (gives : (k : ℕ) (y : B) (q : F) → Called g f (k, tt) y q → (q ≡ f) × (y ≡ h k)) where
  made_from : (n i : ℕ) → IsFromFnResultFrom g f ys i n → (k j : ℕ) → k < n → i + k ≡ j → get_or ys j d ≡ h j
  made_from zero i m k j l e = absurd (omega arith)
  made_from (suc n) i (q, y, at, call, rest) zero j l e =
      let s : i ≡ j = omega arith in
      ap (λ (x : ℕ). get_or ys x d) (sym s) ∙ at.1 d ∙ (gives i y q call).1 ∙ ap h s
  made_from (suc n) i (q, y, at, call, rest) (suc k) j l e =
      let P : F → Type 0 = λ x. IsFromFnResultFrom g x ys (i + 1) n in
      made_from n (i + 1) (subst P (gives i y q call).0 rest) k j (omega arith) (omega arith)

  pub made : (n : ℕ) → IsFromFnResult g f ys n → (k : ℕ) → k < n → get_or ys k d ≡ h k
  made n m k l = made_from n 0 m.each k k l (omega arith)

-- a row of n + 1 places, each of which has what stood one place on
pub moved_up : (ys line : List ℕ) (n : ℕ) → length ys ≡ n + 1 → length line ≡ n + 1 → ((k : ℕ) → k < n + 1 → get_or ys k 0 ≡ get_or line (k + 1) 0) → ys ≡ drop 1 line ++ 0 ∷ []
moved_up ys line n a b f = ext_get_or 0 ys (drop 1 line ++ 0 ∷ []) (a ∙ sym long) (λ k l. at k (omega arith))
  where
    short : length (drop 1 line) ≡ n
    short = length-drop 1 line ∙ omega arith

    long : length (drop 1 line ++ 0 ∷ []) ≡ n + 1
    long = length-append (drop 1 line) (0 ∷ []) ∙ omega (arith, short)

    at : (k : ℕ) → k < n + 1 → get_or ys k 0 ≡ get_or (drop 1 line ++ 0 ∷ []) k 0
    at k l = f k l ∙ elim (dec_lt k n) [
      | yes b ↦ sym (get_or_append_left (drop 1 line) (0 ∷ []) 0 k (omega (arith, short)) ∙ get_or-drop 1 line k 0 ∙ ap (λ (i : ℕ). get_or line i 0) (omega arith))
      | no e ↦ get_or-eq_default line 0 (omega (arith, e)) ∙ sym (get_or-append_right (drop 1 line) (0 ∷ []) n k 0 short (omega (arith, e)) ∙ ap (λ (i : ℕ). get_or (0 ∷ []) i 0) (last k (omega (arith, e))))
    ]
      where
        last : (k : ℕ) → k ≡ n → k - n ≡ 0
        last k e = omega arith
