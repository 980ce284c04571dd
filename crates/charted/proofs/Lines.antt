-- Laws of the lines of a chart: each by the parts that are put one after another behind what stands on the page. Assumes nothing.
use Rattle.std.proofs.Common.{◌≡◌, ap, List, [], ◌∷◌, ◌++◌, append_assoc, ◌∙◌, ℕ, ◌+◌, ◌-◌, ◌≤◌, get_or, arith}
use mathlib.Core.List.{append-nil}
use Rattle.text.specs.Text.{bytes, decimal, after_spaces, spaced, line_of, flat}
use Rattle.text.proofs.Text.{page_next}
use Rattle.totals.specs.declared.Totals.{Totals}
use Rattle.charted.specs.Lines.{total_line, place_line, refused_lines, ring_lines, chart_lines}

module _ (page a b c d e f : List ℕ) where
  two_words : (((page ++ a) ++ b) ++ c) ++ d ≡ page ++ ((a ++ (b ++ (c ++ []))) ++ d)
  two_words = simp (append_assoc, append-nil)

  three_words : (((((page ++ a) ++ b) ++ c) ++ d) ++ e) ++ f ≡ page ++ ((a ++ (b ++ (c ++ (d ++ (e ++ []))))) ++ f)
  three_words = simp (append_assoc, append-nil)

module _ (page : List ℕ) where
  pub total_parts : (name : List ℕ) (n : ℕ) → (((page ++ name) ++ 32 ∷ []) ++ decimal n) ++ 10 ∷ [] ≡ page ++ total_line name n
  unfolding total_line line_of spaced after_spaces
  total_parts name n = two_words page name (32 ∷ []) (decimal n) (10 ∷ []) [] []

  module _ (name table : List ℕ) where
    pub place_parts : (k : ℕ) → (((((page ++ name) ++ 32 ∷ []) ++ decimal k) ++ 32 ∷ []) ++ decimal (get_or table k 0)) ++ 10 ∷ [] ≡ page ++ place_line name table k
    unfolding place_line line_of spaced after_spaces
    place_parts k = three_words page name (32 ∷ []) (decimal k) (32 ∷ []) (decimal (get_or table k 0)) (10 ∷ [])

    -- one line more
    pub rings_next : (k : ℕ) {new last : List ℕ} → 2 ≤ k → new ≡ page ++ flat (k - 2) (λ i. place_line name table (i + 2)) → last ≡ new ++ place_line name table k
        → last ≡ page ++ flat (k + 1 - 2) (λ i. place_line name table (i + 2))
    rings_next k {new} {last} h e g =
        let same : k ≡ k - 2 + 2 = omega arith in
        let up : k - 2 + 1 ≡ k + 1 - 2 = omega arith in
        rw (← up) (page_next page _ (k - 2) e (g ∙ ap (λ (j : ℕ). new ++ place_line name table j) same))

  module _ (table : List ℕ) where
    pub rings_whole : (k : ℕ) → k ≡ 17 → page ++ flat (k - 2) (λ i. place_line (bytes "rings") table (i + 2)) ≡ page ++ ring_lines table
    unfolding ring_lines
    rings_whole k e = rw e

    pub refused_whole : (k : ℕ) → k ≡ 6 → page ++ flat k (λ i. place_line (bytes "refused") table (get_or (2 ∷ 12 ∷ 13 ∷ 14 ∷ 15 ∷ 16 ∷ []) i 0)) ≡ page ++ refused_lines table
    unfolding refused_lines flat
    refused_whole k e = rw e

-- the lines one after another, on a page that was empty
pub chart_whole : (t : Totals) {empty sheets ran refused numbered ringed rings : List ℕ}
    → empty ≡ []
    → sheets ≡ empty ++ total_line (bytes "sheets") t.sheets
    → ran ≡ sheets ++ total_line (bytes "ran") t.ran
    → refused ≡ ran ++ total_line (bytes "refused") t.refused
    → numbered ≡ refused ++ refused_lines t.refused_with
    → ringed ≡ numbered ++ total_line (bytes "ringed") t.ringed
    → rings ≡ ringed ++ ring_lines t.rings
    → rings ≡ chart_lines t
unfolding chart_lines
chart_whole t a b c d e f g = rw (g, f, e, d, c, b, a)
