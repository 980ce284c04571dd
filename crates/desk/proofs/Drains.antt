-- A drain is told by what the board makes of it at once, and done one delivery after another, so that each sender is known: both end with
-- the same board. Assumes only that the board's tables have their sizes, as every board of the program has.
use Rattle.std.proofs.Common.{◌≡◌, refl, sym, ap, subst, ◌∙◌, true, false, ℕ, zero, suc, ltb-true, ltb}
use Rattle.rules.specs.declared.Board.{Board}
use Rattle.rules.specs.declared.Drained.{Drained}
use Rattle.rules.specs.Bits.{lowest_taken}
use Rattle.rules.specs.Commands.{delivered, one_step_more, draining}
use Rattle.rules.specs.Shape.{in_shape, drain}
use Rattle.rules.proofs.Tables.{by_test}
use Rattle.laws.specs.Shape.{Sized}
use Rattle.laws.proofs.Shape.{tested}
use Rattle.laws.proofs.Kept.{Good, good, delivered_good}
use Rattle.typed.specs.declared.Typed.{Typed}
use Rattle.desk.specs.declared.Desk.{Desk}
use Rattle.desk.specs.Desks.{drained_once, drained_times}

-- ---- one delivery
draining_more : (n : ℕ) (b : Board) → ltb (lowest_taken b.occupied) 64 ≡ true → draining (suc n) b ≡ one_step_more (draining n (delivered b (lowest_taken b.occupied)))
unfolding draining
draining_more n b e = rw (draining, e)

draining_none : (n : ℕ) (b : Board) → ltb (lowest_taken b.occupied) 64 ≡ false → draining (suc n) b ≡ draining 0 b
unfolding draining
draining_none n b e = rw (draining, e)

drain_shaped : (b : Board) (n : ℕ) → in_shape b ≡ true → drain b n ≡ draining n b
unfolding drain
drain_shaped b n e = rw e

module _ (t : Typed) where
  once_board : (d : Desk) → Good d.board → ltb (lowest_taken d.board.occupied) 64 ≡ true → (drained_once d t).board ≡ delivered d.board (lowest_taken d.board.occupied)
  unfolding drained_once draining
  once_board d g e = ap (λ (r : Drained). r.board) (drain_shaped d.board 1 (tested d.board g.shaped) ∙ draining_more 0 d.board e)

  -- ---- one after another
  first : (k : ℕ) (d : Desk) → drained_times (suc k) d t ≡ drained_times k (drained_once d t) t
  unfolding drained_times
  first zero d = refl
  first (suc k) d = ap (λ (x : Desk). drained_once x t) (first k d)

  -- a drain ends with the board that as many deliveries make of the desk
  abbrev Ends : Desk → Drained → Type 0
  Ends d r = (drained_times r.made d t).board ≡ r.board

  ends_none : (d : Desk) → Ends d (draining 0 d.board)
  unfolding drained_times draining
  ends_none d = refl

  ends : (n : ℕ) (d : Desk) → Good d.board → Ends d (draining n d.board)
  ends zero d g = ends_none d
  ends (suc n) d g = by_test (ltb low 64)
      (λ e. subst (Ends d) (sym (draining_more n b e)) (more e (λ x h. ends n x h)))
      (λ e. subst (Ends d) (sym (draining_none n b e)) (ends_none d))
    where
      b : Board
      b = d.board

      low : ℕ
      low = lowest_taken b.occupied

      more : ltb low 64 ≡ true → ((x : Desk) → Good x.board → Ends x (draining n x.board)) → Ends d (one_step_more (draining n (delivered b low)))
      more e next = ap (λ (x : Desk). x.board) (first (draining n (delivered b low)).made d)
          ∙ subst (λ (x : Board). Ends (drained_once d t) (draining n x)) (once_board d g e) (next (drained_once d t) (subst Good (sym (once_board d g e)) (delivered_good b low (ltb-true low 64 e) g)))

pub drain_board : (n : ℕ) (d : Desk) (t : Typed) → Sized d.board → (drained_times (drain d.board n).made d t).board ≡ (drain d.board n).board
unfolding drain drained_times
drain_board n d t s = by_test (in_shape d.board) (λ e. rw e (ends t n d (good d.board s e))) (λ e. rw e)
