-- A process whose home notes no wait stands nowhere: in no line, and in no request in flight. In the model each such place is a token of
-- its wait.
use mathlib.Core.Path.{◌≡◌, refl, ap}
use mathlib.Core.Bool.{Bool}
use mathlib.Core.Option.{none}
use mathlib.Core.List.{[], ◌∷◌}
use Prim.Native.Nat.{ℕ, zero, suc, ◌≤◌}
use native.Mathlib.Omega.{arith}
use lib.Dec.{eqb}
use Rattle.rules.specs.declared.Kind.{Kind}
use Rattle.rules.specs.declared.Kind.TheVariants.{Free, Request, Grant, Release, ListToHome, ListToObject}
use Rattle.rules.specs.declared.Entries.{Entries}
use Rattle.rules.specs.declared.Board.{Board}
use Rattle.rules.specs.Tables.{rows, sum, count_of}
use Rattle.rules.specs.Book.{who_at}
use Rattle.rules.specs.Board.{object_at, kind_at, list_at}
use Rattle.rules.specs.Shape.{standing}
use Rattle.rules.proofs.Tables.{sum_le}
use Rattle.laws.proofs.Standing.{asks, stands}
use Rattle.model.specs.Totals.{weight_of, weigh, sum_line, sum_lines, total}
use Rattle.model.specs.Book.{standing as standingM}
use Rattle.model.proofs.Sums.{same, one}
use Rattle.model.proofs.Lines.{is_who, sum_line_append}
use Rattle.model.proofs.Agreement.{Agreement, token_of}
use Rattle.promises.proofs.Seen.Tables.{pick_eq, sum_view}
use Rattle.promises.proofs.Seen.{exclusive_at, message_seen, seen}

asks_le : (p : ℕ) (k : Kind) (l : Entries) → asks p k ≤ weight_of (token_of p) (message_seen k l)
unfolding same
asks_le p Free l = omega arith
asks_le p (Request q o x) l = omega (arith, pick_eq {A = ℕ} q p 1 0)
asks_le p (Grant q o x) l = omega arith
asks_le p (Release q o) l = omega arith
asks_le p ListToHome l = omega arith
asks_le p (ListToObject o) l = omega arith

stands_line : (p n : ℕ) (w : ℕ → ℕ) (c : ℕ → Bool) → count_of n (λ k. eqb (w k) p) ≡ sum_line (is_who p) (rows n (λ k. standingM (w k) (c k)))
unfolding sum sum_line rows same
stands_line p zero w c = refl
stands_line p (suc n) w c = omega (arith, stands_line p n w c, sum_line_append (is_who p) (rows n (λ k. standingM (w k) (c k))) (standingM (w n) (c n) ∷ []), pick_eq {A = ℕ} (w n) p 1 0)

pub stands_nowhere : (b : Board) → Agreement (seen b) → (p : ℕ) → (seen b).wait p ≡ none → standing b p ≡ 0
unfolding standing total weigh sum_lines
stands_nowhere b a p e = omega (
  arith,
  sum_le 64 (λ i. asks p (kind_at b i)) (λ i. weight_of (token_of p) ((seen b).messages i)) (λ i _. asks_le p (kind_at b i) (list_at b i)),
  sum_view 64 (λ i. weight_of (token_of p) ((seen b).messages i)) _ (λ i _. refl),
  sum_view 16 (λ o. stands p (object_at b o)) _ (λ o _. stands_line p (object_at b o).line_count (who_at (object_at b o)) (exclusive_at (object_at b o))),
  a.tokens p,
  ap one e,
)
