-- A stream that is taken in piece by piece: each piece lengthens what was taken in by itself. Assumes nothing.
use mathlib.Core.Path.{◌≡◌, sym, ap, ap₂, ◌∙◌}
use mathlib.Core.List.{List, [], ◌++◌, append-nil}
use Prim.Native.Nat.{ℕ}
use lib.ListN.{replicate, take}
use Rattle.std.specs.Prelude.{Option}
use Rattle.std.specs.Io.KnownBytes.{Consumes}
use Rattle.std.proofs.KnownBytes.{Consumes-nil, Consumes-trans}
use Rattle.term.specs.declared.Chart.{Chart}
use Rattle.term.specs.Feed.{Fed, beside, new, fed}
use Rattle.term.proofs.Laws.{fed_append}
use Rattle.stream.specs.Pieces.{start, chart_of}

-- a chart and the buffer beside it are those of some stream
pub record SoFar (chart : Chart) (sheet : List ℕ) : Type 0 where
  pub stream : List ℕ
  pub is : beside chart sheet ≡ fed start stream

-- nothing was taken in yet
pub none_yet : {chart : Chart} {sheet : List ℕ} → chart ≡ new → sheet ≡ replicate 8206 0 → SoFar chart sheet
unfolding fed
none_yet e f = record { stream = []; is = ap₂ beside e f }

-- one piece more
pub one_more : (p : List ℕ) {chart after : Chart} {sheet held : List ℕ} → SoFar chart sheet
    → after ≡ (fed (beside chart sheet) p).chart → held ≡ (fed (beside chart sheet) p).sheet → SoFar after held
one_more p {chart} {after} {sheet} {held} s e f = record {
  stream = s.stream ++ p;
  is = ap₂ beside e f ∙ ap (λ (x : Fed). fed x p) s.is ∙ sym (fed_append start s.stream p);
}

pub taken_in : {chart handed : Chart} {sheet : List ℕ} → SoFar chart sheet → handed ≡ chart → ((w : List ℕ) × (handed ≡ chart_of w))
unfolding chart_of
taken_in s e = (s.stream, e ∙ ap (λ (f : Fed). f.chart) s.is)

-- ---- the same, of a reader: what it had, and what it has left
abbrev pub Known : Chart → List ℕ → Option (List ℕ) → Option (List ℕ) → Type 0
Known chart sheet a b = (s : SoFar chart sheet) × Consumes a b s.stream

pub known_none : (a : Option (List ℕ)) {chart : Chart} {sheet : List ℕ} → chart ≡ new → sheet ≡ replicate 8206 0 → Known chart sheet a a
unfolding none_yet
known_none a e f = (none_yet e f, Consumes-nil a)

pub known_more : (p : List ℕ) (a b c : Option (List ℕ)) {chart after : Chart} {sheet held : List ℕ} → Known chart sheet a b
    → after ≡ (fed (beside chart sheet) p).chart → held ≡ (fed (beside chart sheet) p).sheet → Consumes b c p → Known after held a c
unfolding one_more
known_more p a b c s e f r = (one_more p s.0 e f, Consumes-trans a b c s.0.stream p s.1 r)

-- a read that gave nothing
pub known_after : (n : ℕ) (p : List ℕ) (a b c : Option (List ℕ)) {chart : Chart} {sheet : List ℕ} → Known chart sheet a b → n ≡ 0 → Consumes b c (take n p) → Known chart sheet a c
known_after n p a b c s e r = (s.0, rw append-nil at (Consumes-trans a b c s.0.stream [] s.1 (rw e at r)))

pub known_taken : (a b : Option (List ℕ)) {chart handed : Chart} {sheet : List ℕ} → Known chart sheet a b → handed ≡ chart → ((w : List ℕ) × (handed ≡ chart_of w) × Consumes a b w)
unfolding chart_of
known_taken a b s e = (s.0.stream, e ∙ ap (λ (f : Fed). f.chart) s.0.is, s.1)
