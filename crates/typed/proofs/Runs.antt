-- Laws of the words of a line: a run ends where its bytes do, and the words of a line are its first word and the words after it; and of the
-- place of its comment.
-- Each is an induction on the line. Assumes nothing.
use Rattle.std.proofs.Common.{◌≡◌, refl, sym, ap, ◌∙◌, Bool, true, false, not, List, [], ◌∷◌, ℕ, suc, ◌-◌, ◌≤◌, ◌<◌, arith, length, drop, take, drop_of_length-le, eqb, Option, Some, None, unwrap_or, ltb, subst, ltb-true, ltb-false}
use Rattle.std.specs.List.{position_or_len, position}
use Rattle.std.proofs.lemmas.List.Sums.{prefix_len-le-length}
use Rattle.std.proofs.lemmas.List.{take_all, length-drop}
use Rattle.rules.proofs.Tables.{by_test}
use Rattle.typed.specs.Words.{comment_at, blank, of_sort, run, word_at, words_from, words}

-- ---- one byte
sort_blank : (c : ℕ) (t : Bool) → blank c ≡ t → of_sort true c ≡ t
unfolding of_sort
sort_blank c t e = e

sort_other : (c : ℕ) (t : Bool) → blank c ≡ t → of_sort false c ≡ not t
unfolding of_sort
sort_other c t e = ap not e

goes : (b : Bool) (c : ℕ) (s : List ℕ) → of_sort b c ≡ true → run b (c ∷ s) ≡ suc (run b s)
unfolding run
goes b c s e = rw (run, e)

stops : (b : Bool) (c : ℕ) (s : List ℕ) → of_sort b c ≡ false → run b (c ∷ s) ≡ 0
unfolding run
stops b c s e = rw (run, e)

words_blank : (i : Bool) (c : ℕ) (s : List ℕ) → blank c ≡ true → words_from i (c ∷ s) ≡ words_from false s
unfolding words_from
words_blank i c s e = rw (words_from, e)

words_within : (c : ℕ) (s : List ℕ) → blank c ≡ false → words_from true (c ∷ s) ≡ words_from true s
unfolding words_from
words_within c s e = rw (words_from, e)

words_start : (c : ℕ) (s : List ℕ) → blank c ≡ false → words_from false (c ∷ s) ≡ word_at (c ∷ s) ∷ words_from true s
unfolding words_from
words_start c s e = rw (words_from, e)

pub run_le : (b : Bool) (s : List ℕ) → run b s ≤ length s
unfolding run
run_le b [] = omega arith
run_le b (c ∷ s) = by_test (of_sort b c) (λ e. omega (arith, goes b c s e, run_le b s)) (λ e. omega (arith, stops b c s e))

-- ---- the words of a line
-- blanks at the start part nothing
words_skip : (s : List ℕ) → words s ≡ words (drop (run true s) s)
unfolding run
words_skip [] = refl
words_skip (c ∷ s) =
    by_test (blank c)
    (λ e. words_blank false c s e ∙ words_skip s ∙ rw (goes true c s (sort_blank c true e)))
    (λ e. rw (stops true c s (sort_blank c false e)))

-- after the first byte of a word the next word starts behind its end
words_inside : (s : List ℕ) → words_from true s ≡ words (drop (run false s) s)
unfolding run words_from
words_inside [] = refl
words_inside (c ∷ s) =
    by_test (blank c)
    (λ e. words_blank true c s e ∙ sym (words_blank false c s e) ∙ rw (stops false c s (sort_other c true e)))
    (λ e. words_within c s e ∙ words_inside s ∙ rw (goes false c s (sort_other c false e)))

words_first : (s : List ℕ) → 0 < run false s → words s ≡ word_at s ∷ words (drop (run false s) s)
unfolding run
words_first [] h = absurd (omega arith)
words_first (c ∷ s) h =
    by_test (blank c)
    (λ e. absurd (omega (arith, stops false c s (sort_other c true e))))
    (λ e. words_start c s e ∙ ap (λ (ws : List (List ℕ)). word_at (c ∷ s) ∷ ws) (words_inside s ∙ rw (goes false c s (sort_other c false e))))

-- where blanks end and the line does not, a word starts
word_starts : (s : List ℕ) → run true s < length s → 0 < run false (drop (run true s) s)
unfolding run
word_starts [] h = absurd (omega arith)
word_starts (c ∷ s) h =
    by_test (blank c)
    (λ e. let g : run true (c ∷ s) ≡ suc (run true s) = goes true c s (sort_blank c true e) in rw g (word_starts s (omega arith)))
    (λ e. rw (stops true c s (sort_blank c false e)) (omega (arith, goes false c s (sort_other c false e))))

words_none : (s : List ℕ) → length s ≤ run true s → words s ≡ []
unfolding words_from
words_none s h = words_skip s ∙ rw (drop_of_length-le s h)

-- ---- the next word, as it is found: the first byte that is no blank, and the first blank behind it
run_first : (b : Bool) (p : ℕ → Bool) → ((c : ℕ) → not (p c) ≡ of_sort b c) → (s : List ℕ) → run b s ≡ position_or_len p s
unfolding run
run_first b p f [] = refl
run_first b p f (c ∷ s) =
    by_test (of_sort b c)
    (λ e. goes b c s e ∙ ap suc (run_first b p f s) ∙ rw (f c ∙ e) (omega arith))
    (λ e. stops b c s e ∙ rw (f c ∙ e))

-- where a test passes first, and that it passes nowhere
module _ (p : ℕ → Bool) (s : List ℕ) where
  pub found : (k : ℕ) → Some k ≡ position p s → (k ≡ position_or_len p s) × (k < length s)
  found k e = by_test (ltb (position_or_len p s) (length s))
      (λ t. let q : Some k ≡ Some (position_or_len p s) = e ∙ rw t in (cc, subst (λ (x : ℕ). x < length s) (cc) (ltb-true _ _ t)))
      (λ t. let q : Some k ≡ None = e ∙ rw t in absurd (cc))

  pub not_found : None ≡ position p s → length s ≤ position_or_len p s
  not_found e = by_test (ltb (position_or_len p s) (length s))
      (λ t. let q : None ≡ Some (position_or_len p s) = e ∙ rw t in absurd (cc))
      (λ t. ltb-false _ _ t)

  pub or_end : unwrap_or (position p s) (length s) ≡ position_or_len p s
  or_end = by_test (ltb (position_or_len p s) (length s))
      (λ t. rw t)
      (λ t. rw t (omega (arith, ltb-false _ _ t, prefix_len-le-length (λ x. not (p x)) s)))

abbrev Start : List ℕ → ℕ
Start s = position_or_len (λ c. not (blank c)) s

abbrev End : List ℕ → ℕ
End s = position_or_len (λ c. blank c) s

start_is : (s : List ℕ) → run true s ≡ Start s
start_is s = run_first true (λ c. not (blank c)) (λ c. by_test (blank c) (λ e. rw e (sym (sort_blank c true e))) (λ e. rw e (sym (sort_blank c false e)))) s

end_is : (s : List ℕ) → run false s ≡ End s
end_is s = run_first false (λ c. blank c) (λ c. sym (sort_other c (blank c) refl)) s

pub no_word : (s : List ℕ) → None ≡ position (λ c. not (blank c)) s → words s ≡ []
no_word s e = words_none s (omega (arith, start_is s, not_found _ s e))

-- the part of a line behind a place, as a slice of it
pub rest_is : (s : List ℕ) (k : ℕ) → take (length s - k) (drop k s) ≡ drop k s
rest_is s k = take_all (length s - k) (drop k s) (omega (arith, length-drop k s))

-- the end of what a test passes nowhere before, or of the line
pub up_to : (p : ℕ → Bool) (s : List ℕ) (o : Option ℕ) (e : ℕ) → o ≡ position p s → e ≡ unwrap_or o (length s) → (e ≡ position_or_len p s) × (e ≤ length s)
up_to p s o e f h = let q : e ≡ position_or_len p s = h ∙ ap (λ (x : Option ℕ). unwrap_or x (length s)) f ∙ or_end p s in
    (q, omega (arith, q, prefix_len-le-length (λ c. not (p c)) s))

pub a_word : (s : List ℕ) (k e : ℕ) → Some k ≡ position (λ c. not (blank c)) s → e ≡ End (drop k s) → words s ≡ take e (drop k s) ∷ words (drop e (drop k s))
a_word s k e f h =
    let at = found _ s k f in
    let start : run true s ≡ k = start_is s ∙ sym at.0 in
    let end : run false (drop k s) ≡ e = end_is (drop k s) ∙ sym h in
    let some : 0 < run false (drop k s) = subst (λ (n : ℕ). 0 < run false (drop n s)) start (word_starts s (omega (arith, start, at.1))) in
    words_skip s ∙ ap (λ (n : ℕ). words (drop n s)) start ∙ words_first (drop k s) some ∙ rw end

-- there are no more words than bytes
words_from_le : (i : Bool) (s : List ℕ) → length (words_from i s) ≤ length s
unfolding words_from
words_from_le i [] = omega arith
words_from_le i (c ∷ s) =
    by_test (blank c)
    (λ e. rw (words_blank i c s e) (omega (arith, words_from_le false s)))
    (λ e. by_test i
    (λ t. rw (t, words_within c s e) (omega (arith, words_from_le true s)))
    (λ t. rw (t, words_start c s e) (omega (arith, words_from_le true s))))

pub words_le : (s : List ℕ) → length (words s) ≤ length s
words_le s = words_from_le false s

-- ---- the comment
comment_first : (s : List ℕ) → comment_at s ≡ position_or_len (λ c. eqb c 35) s
unfolding comment_at
comment_first [] = refl
comment_first (c ∷ s) = by_test (eqb c 35) (λ e. rw (comment_at, e)) (λ e. rw (comment_at, e) (omega (arith, comment_first s)))

pub comment_is : (s : List ℕ) (o : Option ℕ) (k : ℕ) → o ≡ position (λ c. eqb c 35) s → k ≡ unwrap_or o (length s) → (k ≡ comment_at s) × (k ≤ length s)
comment_is s o k f h = let u = up_to (λ c. eqb c 35) s o k f h in (u.0 ∙ sym (comment_first s), u.1)
